use Rattle.roots.proofs.Numbers.{branch_of, Standing}
use Rattle.roots.proofs.search.+descend.Given as goal

abbrev pub decreases-descend : goal.decreases-descend
decreases-descend g l = l.bounds.weight

abbrev pub invariant-loop-g : goal.invariant-loop-g
invariant-loop-g g l =
    Standing
    (branch_of (g.F.Field.meaning l.field) l.bounds.l l.bounds.bound l.bounds.weight l.chosen l.depth l.q)
    l.initial.found.items
    l.g
    l.found.items
