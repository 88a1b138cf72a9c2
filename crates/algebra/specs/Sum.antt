-- Finite sums and powers in a commutative ring.
use Rattle.std.specs.Prelude.{ℕ, zero, suc}
use Rattle.algebra.specs.Ring.{CommRing}

-- the sum of f i over i < n
abbrev pub sum : {K : Type 0} → CommRing K → ℕ → (ℕ → K) → K
sum R zero f = R.zero
sum R (suc n) f = R.add (f 0) (sum R n (λ i. f (suc i)))

-- the power a^n
abbrev pub power : {K : Type 0} → CommRing K → K → ℕ → K
power R a zero = R.one
power R a (suc n) = R.mul a (power R a n)
