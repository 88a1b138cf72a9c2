use Rattle.bivariate.proofs.Parts.{Part}
use Rattle.bivariate.proofs.Writing.{plus_at}
use Rattle.bivariate.proofs.combinations.add_multiple.Given as goal

abbrev pub invariant-loop-i : goal.invariant-loop-i
invariant-loop-i g l =
    Part 0 (plus_at (g.F.Field.meaning l.field) l.factor l.len l.fn.target l.source) l.fn.target l.i-end l.i l.coefficient-items
