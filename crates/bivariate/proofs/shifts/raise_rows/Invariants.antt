use Rattle.bivariate.specs.Roots.{raise_row}
use Rattle.bivariate.proofs.Writing.{Changing}
use Rattle.bivariate.proofs.shifts.raise_rows.Given as goal

abbrev pub invariant-loop-c : goal.invariant-loop-c
invariant-loop-c l = Changing raise_row l.initial.q l.c l.q
