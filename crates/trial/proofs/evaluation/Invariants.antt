use Rattle.std.proofs.Common.{◌≡◌, ℕ, ◌<◌, length, slice_index}
use Rattle.trial.specs.Words.{letter_of}
use Rattle.trial.proofs.evaluation.Given as goal

-- the letters before i are written
abbrev pub invariant-loop-i : goal.invariant-loop-i
invariant-loop-i g l = record {
  many : length l.place-items ≡ g.row.N;
  each : (k : ℕ) → k < l.i → slice_index l.place-items k ≡ letter_of (g.F.Field.meaning l.field) l.support l.multipliers l.coefficients k;
}
