use Rattle.bivariate.proofs.Searching.{Raising}
use Rattle.bivariate.proofs.shifts.raise_row.Given as goal

abbrev pub invariant-loop-i : goal.invariant-loop-i
invariant-loop-i l = Raising l.c l.old l.i l.row
