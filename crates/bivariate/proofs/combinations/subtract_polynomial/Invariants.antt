use Rattle.std.proofs.Common.{[], get_or}
use Rattle.bivariate.specs.Combinations.{row_length, minus_of}
use Rattle.bivariate.proofs.Parts.{Part}
use Rattle.bivariate.proofs.Writing.{changing}
use Rattle.bivariate.proofs.combinations.subtract_polynomial.Given as goal

abbrev pub invariant-loop-c : goal.invariant-loop-c
invariant-loop-c g l =
    Part [] (changing l.bounds.l (λ c row. minus_of (g.F.Field.meaning l.field) l.factor (row_length l.bounds.bound l.bounds.weight c) row (get_or l.source c [])) l.fn.target) l.fn.target l.c-end l.c l.row-items
