-- Maps between commutative rings that keep sums and products.
use Rattle.std.specs.Prelude.{◌≡◌}
use Rattle.algebra.specs.Ring.{CommRing}

-- φ keeps sums, products and one
pub record Homomorphism {K L : Type 0} (R : CommRing K) (S : CommRing L) (φ : K → L) : Type 0 where
  pub keeps_add : (a b : K) → φ (R.add a b) ≡ S.add (φ a) (φ b)
  pub keeps_mul : (a b : K) → φ (R.mul a b) ≡ S.mul (φ a) (φ b)
  pub keeps_one : φ R.one ≡ S.one
