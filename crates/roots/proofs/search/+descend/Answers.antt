use Rattle.std.proofs.Common.{◌+◌, ◌-◌, ap, ◌∙◌}
use Rattle.field.specs.Meaning.{Meaning}
use Rattle.roots.specs.Search.{roots_of}
use Rattle.roots.proofs.Numbers.{branch_end_yes, branch_end_no, branch_on_yes, branch_on_no, standing_skip, standing_more}
use Rattle.roots.proofs.search.+descend.Goals.{then-bounds-eq0+then-vanishes_at, then-bounds-eq0+else-vanishes_at, else-bounds-eq0+then-value_at_zero-eq0, else-bounds-eq0+else-value_at_zero-eq0}
use Rattle.roots.proofs.search.+descend.Goals as goal

pub loop-g-preserved : goal.loop-g-preserved
loop-g-preserved g t c =
    let m : Meaning = g.F.Field.meaning c.args.field.now in
    elim c.if-bounds-eq0.branch [
      | then-bounds-eq0+then-vanishes_at w ↦
          standing_more _ _ c.loop-g.g c.loop-g.found.items _ c.if-bounds-eq0.found.items c.loop-g.invariant
          (branch_end_yes m c.args.bounds.l c.args.bounds.bound c.args.bounds.weight c.args.chosen.now c.args.depth c.strip.new.q c.loop-g.g w.with.result w.if-bounds-eq0.true w.if-vanishes_at.ensures w.with.ensures)
          (ap (λ v. v.items) w.found-is ∙ w.put.ensures)
      | then-bounds-eq0+else-vanishes_at w ↦
          standing_skip _ _ c.loop-g.g c.loop-g.found.items c.if-bounds-eq0.found.items c.loop-g.invariant
          (branch_end_no m c.args.bounds.l c.args.bounds.bound c.args.bounds.weight c.args.chosen.now c.args.depth c.strip.new.q c.loop-g.g w.if-bounds-eq0.true w.if-vanishes_at.ensures)
          (ap (λ v. v.items) w.found-is)
      | else-bounds-eq0+then-value_at_zero-eq0 w ↦
          standing_more _ _ c.loop-g.g c.loop-g.found.items
          (roots_of m c.args.bounds.l c.args.bounds.bound (c.args.bounds.weight - 1) w.with-then-value_at_zero-eq0.result (c.args.depth + 1) w.shifted-next.result)
          c.if-bounds-eq0.found.items c.loop-g.invariant
          (branch_on_yes m c.args.bounds.l c.args.bounds.bound c.args.bounds.weight c.args.chosen.now c.args.depth c.strip.new.q c.loop-g.g w.with-then-value_at_zero-eq0.result w.shifted-next.result w.value_at_zero.result w.if-bounds-eq0.false w.value_at_zero.ensures w.if-value_at_zero-eq0.true w.with-then-value_at_zero-eq0.ensures w.shifted-next.ensures)
          (ap (λ v. v.items) w.found-is ∙ w.descend.ensures.found)
      | else-bounds-eq0+else-value_at_zero-eq0 w ↦
          standing_skip _ _ c.loop-g.g c.loop-g.found.items c.if-bounds-eq0.found.items c.loop-g.invariant
          (branch_on_no m c.args.bounds.l c.args.bounds.bound c.args.bounds.weight c.args.chosen.now c.args.depth c.strip.new.q c.loop-g.g w.value_at_zero.result w.if-bounds-eq0.false w.value_at_zero.ensures w.if-value_at_zero-eq0.false)
          (ap (λ v. v.items) w.found-is)
    ]
