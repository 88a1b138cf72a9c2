-- Some number of bits holds what is left of the exponent, and the power over them is the one asked for.
use Rattle.std.proofs.Common.{◌^◌, ◌<◌}
use Rattle.field.proofs.Squaring.{Squares}
use Rattle.field.proofs.power.raise.Given as goal

abbrev pub invariant-loop-rest : goal.invariant-loop-rest
invariant-loop-rest g l = (l.result < 2 ^ 16) × (l.base < 2 ^ 16) × Squares g.times l.result l.base l.rest l.initial.base l.initial.rest

abbrev pub decreases-loop-rest : goal.decreases-loop-rest
decreases-loop-rest g l = l.rest
