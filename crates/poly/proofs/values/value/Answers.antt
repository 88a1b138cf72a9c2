use Rattle.std.proofs.Common.{◌≡◌, fold, reverse, ◌∙◌, rules}
use Rattle.std.proofs.iter.runs.Made.{chains}
use Rattle.field.specs.Meaning.{sum_of, product_of}
use Rattle.poly.proofs.Horner.{value_folded}
use Rattle.poly.proofs.values.value.Goals as goal

pub returns : goal.returns
returns g c =
    let m = g.F.Field.meaning c.args.field.now in
    let folded : c.fold.result ≡ fold (λ v x. sum_of m x (product_of m c.args.a v)) 0 (reverse c.args.coefficients.now) = search (rules, chains) in
    folded ∙ value_folded m c.args.a c.args.coefficients.now
