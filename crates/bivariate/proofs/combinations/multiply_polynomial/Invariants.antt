use Rattle.std.proofs.Common.{[]}
use Rattle.bivariate.specs.Combinations.{row_length, times_of}
use Rattle.bivariate.proofs.Parts.{Part}
use Rattle.bivariate.proofs.Writing.{changing}
use Rattle.bivariate.proofs.combinations.multiply_polynomial.Given as goal

abbrev pub invariant-loop-c : goal.invariant-loop-c
invariant-loop-c g l =
    Part [] (changing l.bounds.l (λ c row. times_of (g.F.Field.meaning l.field) l.a (row_length l.bounds.bound l.bounds.weight c) row) l.fn.q) l.fn.q l.c-end l.c l.row-items
