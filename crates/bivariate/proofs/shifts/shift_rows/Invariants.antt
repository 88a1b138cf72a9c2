use Rattle.bivariate.proofs.Searching.{Shifting}
use Rattle.bivariate.proofs.shifts.shift_rows.Given as goal

abbrev pub invariant-loop-r : goal.invariant-loop-r
invariant-loop-r g l =
    Shifting (g.F.Field.meaning l.field) l.g l.bounds.l l.bounds.bound l.bounds.weight l.c l.initial.q l.r l.q
