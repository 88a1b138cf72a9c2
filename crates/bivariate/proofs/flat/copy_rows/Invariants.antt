use Rattle.bivariate.proofs.Flattening.{Copied}
use Rattle.bivariate.proofs.flat.copy_rows.Given as goal

abbrev pub invariant-loop-c : goal.invariant-loop-c
invariant-loop-c l = Copied l.q l.count l.width l.initial.workspace l.c l.workspace
