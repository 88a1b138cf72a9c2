use Rattle.interpolation.specs.Bases.{degrees_of}
use Rattle.interpolation.proofs.Scanning.{Scanned}
use Rattle.interpolation.proofs.pivots.pivot.Given as goal

abbrev pub invariant-loop-j : goal.invariant-loop-j
invariant-loop-j l = Scanned (degrees_of l.basis) l.discrepancies l.fn.bounds.l l.fn.bounds.bound l.j l.best l.least
