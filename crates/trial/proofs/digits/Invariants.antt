use Rattle.std.proofs.Common.{◌≡◌, ℕ, ◌<◌, ◌/◌, ◌^◌, max, length, slice_index}
use Rattle.trial.specs.Words.{digit}
use Rattle.trial.proofs.digits.Given as goal

-- the digits before this place are written, and the rest of the number is left
abbrev pub invariant-loop-place : goal.invariant-loop-place
invariant-loop-place g l = record {
  many : length l.place-items ≡ g.row.N;
  left : l.rest ≡ l.fn.number / max l.fn.base 2 ^ l.place-index;
  each : (k : ℕ) → k < l.place-index → slice_index l.place-items k ≡ digit l.fn.number l.fn.base k;
}
