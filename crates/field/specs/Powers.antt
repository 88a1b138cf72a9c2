-- Powers by repeated squaring.
use Rattle.std.specs.Prelude.{ℕ, zero, suc, ◌/◌, ◌%◌, cond, ◌==◌}

-- r times the power e of a, under the product given, for an exponent of at most k bits
unfoldable pub power : (ℕ → ℕ → ℕ) → ℕ → ℕ → ℕ → ℕ → ℕ
power times zero r a e = r
power times (suc k) r a e = power times k (cond (e % 2 == 1) (times r a) r) (times a a) (e / 2)
