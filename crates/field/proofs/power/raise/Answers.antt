use Rattle.std.proofs.Common.{◌≡◌, ◌%◌, ◌^◌, ◌<◌, cond, eqb, sym, ◌∙◌, arith, rules}
use Rattle.field.specs.PowersLemmas.{odd_takes, even_keeps}
use Rattle.field.proofs.Squaring.{squares_start, squares_turn, squares_end}
use Rattle.field.proofs.power.raise.Goals as goal
use Rattle.field.proofs.power.raise.Goals.{then-rest-eq1, else-rest-eq1}

pub loop-rest-init : goal.loop-rest-init
loop-rest-init g c = (search rules, search rules, squares_start g.times c.args.a c.args.exponent c.requires.1.1.1)

pub loop-rest-preserved : goal.loop-rest-preserved
loop-rest-preserved g c =
    let times = g.times in
    let r : c.loop-rest.result < 2 ^ 16 = c.loop-rest.invariant.0 in
    let b : c.loop-rest.base < 2 ^ 16 = c.loop-rest.invariant.1 in
    let chosen : cond (eqb (c.loop-rest.rest % 2) 1) (times c.loop-rest.result c.loop-rest.base) c.loop-rest.result ≡ c.if-rest-eq1.result = elim c.if-rest-eq1.branch [
      | then-rest-eq1 w ↦ odd_takes _ _ _ w.if-rest-eq1.true ∙ sym (c.requires.1.1.0 _ _ _ r b w.product-result.ensures) ∙ sym w.result-is
      | else-rest-eq1 w ↦ even_keeps _ _ _ w.if-rest-eq1.false ∙ sym w.result-is
    ] in
    (search rules, search rules, squares_turn times _ _ _ _ _ _ _ c.loop-rest-test.true chosen (c.requires.1.1.0 _ _ _ b b c.product-base.ensures) c.loop-rest.invariant.2)

pub returns : goal.returns
returns g c = squares_end g.times _ _ _ _ _ (omega (arith, c.loop-rest-test.false)) c.loop-rest.invariant.2
