use Rattle.std.proofs.Common.{◌≡◌, length, get_or, sym, ap, ◌∙◌, subst, arith}
use Rattle.poly.proofs.NewtonForm.{Worked, worked_start, worked_turn, worked_end}
use Rattle.poly.proofs.newton.newton_value.Goals as goal

pub loop-i-init : goal.loop-i-init
loop-i-init g c =
    let m = g.F.Field.meaning c.args.field.now in
    let started : c.into_iter-i-iterator.result.iter ≡ c.enumerate.result = ap (λ r. r.iter) c.into_iter-i-iterator.ensures.into_iter_gives ∙ c.rev-i-items.ensures.source in
    let rest = ap (λ e. e.iter.rest.now) started ∙ ap (λ i. i.rest.now) c.enumerate.ensures.source ∙ c.iter.ensures.rest in
    (ap (λ e. e.count) started ∙ c.enumerate.ensures.count, subst (λ xs. Worked m c.args.points.now c.args.coefficients.now c.args.z xs 0) (sym rest) (worked_start m c.args.points.now c.args.coefficients.now c.args.z))

pub loop-i-preserved : goal.loop-i-preserved
loop-i-preserved g c =
    let m = g.F.Field.meaning c.args.field.now in
    let s = c.in-Some.ensures.steps in
    let i : c.in-Some.i ≡ length c.next.new.self.iter.iter.rest.now = omega (arith, s.1.1, c.loop-i.invariant.0) in (
      s.0 ∙ c.loop-i.invariant.0,
      worked_turn m c.args.points.now c.args.coefficients.now c.args.z _ c.in-Some.field-0-1.now c.loop-i.v c.member.result _
          (subst (λ xs. Worked m c.args.points.now c.args.coefficients.now c.args.z xs c.loop-i.v) s.1.0 c.loop-i.invariant.1)
          (c.member.ensures ∙ ap (λ k. get_or c.args.points.now k 0) i)
          c.nest-v.ensures,
    )

pub returns : goal.returns
returns g c = worked_end (g.F.Field.meaning c.args.field.now) c.args.points.now c.args.coefficients.now c.args.z _ c.loop-i.v c.in-None.ensures.steps.1.0 c.loop-i.invariant.1
