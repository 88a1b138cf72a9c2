-- Tests over the seven degrees, computed once: what the moduli of the table are good for.
use Rattle.std.specs.Prelude.{◌≡◌, ℕ, ◌-◌, ◌^◌, ◌<◌, ◌≤◌, Bool, T, ◌⊎◌, List, [], ◌∷◌, ◌==◌, ◌≢◌, nat_lt}
use Rattle.std.proofs.Common.{inl, inr, arith}
use Rattle.std.proofs.Math.Dec.{eqb→eq, ltb→lt}
use Rattle.field.specs.Binary.{carryless, remainder, modulus_of, times}
use Rattle.field.specs.Powers.{power}
use Rattle.field.specs.Tests.{both, both_left, both_right, either, either_cases, below, below_at, each, each_at, member}

unfoldable pub degrees : List ℕ
degrees = 2 ∷ 3 ∷ 4 ∷ 5 ∷ 6 ∷ 7 ∷ 8 ∷ []

all_degrees : T (below (λ m. either (nat_lt m 2) (member m degrees)) 9)
unfolding below member degrees
all_degrees = tt

pub degree_listed : (m : ℕ) → 2 ≤ m → m ≤ 8 → T (member m degrees)
degree_listed m h k = go (either_cases (nat_lt m 2) (member m degrees) (below_at (λ n. either (nat_lt n 2) (member n degrees)) 9 all_degrees m (omega arith)))
  where
    go : T (nat_lt m 2) ⊎ T (member m degrees) → T (member m degrees)
    go (inl t) = absurd (omega (arith, ltb→lt m 2 t))
    go (inr t) = t

-- a test of each degree's powers of 2, one at a time, in pairs and in threes
one_right : ℕ → ℕ → Bool
one_right m i = times m 1 (2 ^ i) == 2 ^ i

pair_right : ℕ → ℕ → ℕ → Bool
pair_right m i j = both (times m (2 ^ i) (2 ^ j) == times m (2 ^ j) (2 ^ i)) (nat_lt (times m (2 ^ i) (2 ^ j)) (2 ^ m))

triple_right : ℕ → ℕ → ℕ → ℕ → Bool
triple_right m i j k = times m (times m (2 ^ i) (2 ^ j)) (2 ^ k) == times m (2 ^ i) (times m (2 ^ j) (2 ^ k))

inverse_right : ℕ → ℕ → Bool
inverse_right m a = either (a == 0) (times m a (power (times m) 8 1 a (2 ^ m - 2)) == 1)

ones_right : T (each (λ m. below (one_right m) m) degrees)
unfolding each below one_right times carryless remainder degrees
ones_right = tt

pairs_right : T (each (λ m. below (λ i. below (pair_right m i) m) m) degrees)
unfolding each below pair_right times carryless remainder degrees
pairs_right = tt

triples_right : T (each (λ m. below (λ i. below (λ j. below (triple_right m i j) m) m) m) degrees)
unfolding each below triple_right times carryless remainder degrees
triples_right = tt

inverses_right : T (each (λ m. below (inverse_right m) (2 ^ m)) degrees)
unfolding each below inverse_right times carryless remainder power degrees
inverses_right = tt

-- the modulus is not 0, has at most 9 bits, and leaves no remainder of itself
modulus_right : ℕ → Bool
modulus_right m = both (nat_lt 0 (modulus_of m)) (both (nat_lt (modulus_of m) 512) (remainder (modulus_of m) m 8 (modulus_of m) == 0))

moduli_right : T (each modulus_right degrees)
unfolding each modulus_right remainder degrees
moduli_right = tt

module _ (m : ℕ) (low : 2 ≤ m) (high : m ≤ 8) where
  modulus_tested : T (modulus_right m)
  modulus_tested = each_at modulus_right degrees moduli_right m (degree_listed m low high)

  pub modulus_some : 0 < modulus_of m
  unfolding modulus_right
  modulus_some = ltb→lt 0 (modulus_of m) (both_left (nat_lt 0 (modulus_of m)) (both (nat_lt (modulus_of m) 512) (remainder (modulus_of m) m 8 (modulus_of m) == 0)) modulus_tested)

  modulus_rest : T (both (nat_lt (modulus_of m) 512) (remainder (modulus_of m) m 8 (modulus_of m) == 0))
  unfolding modulus_right
  modulus_rest = both_right (nat_lt 0 (modulus_of m)) (both (nat_lt (modulus_of m) 512) (remainder (modulus_of m) m 8 (modulus_of m) == 0)) modulus_tested

  pub modulus_small : modulus_of m < 512
  modulus_small = ltb→lt (modulus_of m) 512 (both_left (nat_lt (modulus_of m) 512) (remainder (modulus_of m) m 8 (modulus_of m) == 0) modulus_rest)

  pub modulus_vanishes : remainder (modulus_of m) m 8 (modulus_of m) ≡ 0
  modulus_vanishes = eqb→eq (remainder (modulus_of m) m 8 (modulus_of m)) 0 (both_right (nat_lt (modulus_of m) 512) (remainder (modulus_of m) m 8 (modulus_of m) == 0) modulus_rest)

  pub one_basis : (i : ℕ) → i < m → times m 1 (2 ^ i) ≡ 2 ^ i
  unfolding one_right
  one_basis i h = eqb→eq (times m 1 (2 ^ i)) (2 ^ i) (below_at (one_right m) m (each_at (λ n. below (one_right n) n) degrees ones_right m (degree_listed m low high)) i h)

  pair_basis : (i j : ℕ) → i < m → j < m → T (pair_right m i j)
  pair_basis i j h k = below_at (pair_right m i) m (below_at (λ x. below (pair_right m x) m) m (each_at (λ n. below (λ x. below (pair_right n x) n) n) degrees pairs_right m (degree_listed m low high)) i h) j k

  pub commutes_basis : (i j : ℕ) → i < m → j < m → times m (2 ^ i) (2 ^ j) ≡ times m (2 ^ j) (2 ^ i)
  unfolding pair_right
  commutes_basis i j h k = eqb→eq (times m (2 ^ i) (2 ^ j)) (times m (2 ^ j) (2 ^ i)) (both_left (times m (2 ^ i) (2 ^ j) == times m (2 ^ j) (2 ^ i)) (nat_lt (times m (2 ^ i) (2 ^ j)) (2 ^ m)) (pair_basis i j h k))

  pub closed_basis : (i j : ℕ) → i < m → j < m → times m (2 ^ i) (2 ^ j) < 2 ^ m
  unfolding pair_right
  closed_basis i j h k = ltb→lt (times m (2 ^ i) (2 ^ j)) (2 ^ m) (both_right (times m (2 ^ i) (2 ^ j) == times m (2 ^ j) (2 ^ i)) (nat_lt (times m (2 ^ i) (2 ^ j)) (2 ^ m)) (pair_basis i j h k))

  pub associates_basis : (i j k : ℕ) → i < m → j < m → k < m → times m (times m (2 ^ i) (2 ^ j)) (2 ^ k) ≡ times m (2 ^ i) (times m (2 ^ j) (2 ^ k))
  unfolding triple_right
  associates_basis i j k h g l =
      eqb→eq (times m (times m (2 ^ i) (2 ^ j)) (2 ^ k)) (times m (2 ^ i) (times m (2 ^ j) (2 ^ k)))
      (below_at (triple_right m i j) m (below_at (λ y. below (triple_right m i y) m) m (below_at (λ x. below (λ y. below (triple_right m x y) m) m) m (each_at (λ n. below (λ x. below (λ y. below (triple_right n x y) n) n) n) degrees triples_right m (degree_listed m low high)) i h) j g) k l)

  pub inverse_listed : (a : ℕ) → a < 2 ^ m → (a ≢ 0) → times m a (power (times m) 8 1 a (2 ^ m - 2)) ≡ 1
  unfolding inverse_right
  inverse_listed a h n = go (either_cases (a == 0) (times m a (power (times m) 8 1 a (2 ^ m - 2)) == 1) (below_at (inverse_right m) (2 ^ m) (each_at (λ d. below (inverse_right d) (2 ^ d)) degrees inverses_right m (degree_listed m low high)) a h))
    where
      go : T (a == 0) ⊎ T (times m a (power (times m) 8 1 a (2 ^ m - 2)) == 1) → times m a (power (times m) 8 1 a (2 ^ m - 2)) ≡ 1
      go (inl t) = absurd (n (eqb→eq a 0 t))
      go (inr t) = eqb→eq (times m a (power (times m) 8 1 a (2 ^ m - 2))) 1 t
