use Rattle.interpolation.proofs.BasisLists.{Powers}
use Rattle.interpolation.proofs.basis.start_rows.Given as goal

abbrev pub invariant-loop-j : goal.invariant-loop-j
invariant-loop-j l = Powers l.initial.row-items l.j l.row-items
