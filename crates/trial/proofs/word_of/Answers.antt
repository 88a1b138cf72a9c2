use Rattle.std.proofs.Common.{ℕ, List, ap, ap₂, ◌∙◌, arith}
use Rattle.trial.specs.Words.{digits_of, letter_of}
use Rattle.trial.proofs.FirstDigits.{first_digits}
use Rattle.trial.proofs.word_of.Goals as goal

pub returns-clause-each : goal.returns-clause-each
returns-clause-each g c i h =
    let m = g.F.Field.meaning c.args.field.now in
    let k = c.min.result in
    let first = first_digits c.digits-coefficients.result k g.row.N c.args.number c.size.result (omega arith) c.digits-coefficients.ensures.many c.digits-coefficients.ensures.each in
    c.evaluation.ensures.each i h ∙ ap (λ (xs : List ℕ). letter_of m c.args.support.now c.args.multipliers.now xs i) (first ∙ ap₂ (λ j b. digits_of j c.args.number b) c.min.ensures c.size.ensures)
