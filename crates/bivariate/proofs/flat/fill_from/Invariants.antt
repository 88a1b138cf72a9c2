use Rattle.bivariate.proofs.Flattening.{Copying}
use Rattle.bivariate.proofs.flat.fill_from.Given as goal

abbrev pub invariant-loop-i : goal.invariant-loop-i
invariant-loop-i l = Copying l.row l.initial.part l.i l.part
