use Rattle.bivariate.proofs.Searching.{Expanded}
use Rattle.bivariate.proofs.shifts.shift_in_y.Given as goal

abbrev pub invariant-loop-c : goal.invariant-loop-c
invariant-loop-c g l =
    Expanded (g.F.Field.meaning l.field) l.g l.bounds.l l.bounds.bound l.bounds.weight l.initial.q l.c l.q
