-- Products modulo the moduli of the table keep the laws of a field.
use Rattle.std.specs.Prelude.{◌≡◌, ℕ, ◌-◌, ◌^◌, ◌<◌, ◌≤◌, Bool, ◌≢◌, refl}
use Rattle.std.proofs.Common.{sym, ap, ◌∙◌, arith}
use Rattle.std.proofs.Math.Decide.{ℕ_discrete}
use Rattle.std.proofs.Math.Nat.{pow-le-pow_right}
use Rattle.field.specs.Binary.{binary, times, carryless, remainder, modulus_of}
use Rattle.field.specs.Powers.{power}
use Rattle.field.specs.Additive.{Additive, agree, bounded, additive_zero}
use Rattle.field.specs.Degrees.{one_basis, commutes_basis, closed_basis, associates_basis, inverse_listed, modulus_some, modulus_vanishes}
use Rattle.field.specs.Polynomials.{carryless_left, carryless_right, times_left, times_right}
use Rattle.field.specs.PowersLemmas.{power_closed, power_agrees}
use Rattle.std.proofs.lemmas.Bool.Decides.{nat_tests}
use Rattle.field.specs.Meaning.{product_of}

-- composites of additive functions
then_left : (m b : ℕ) (f : ℕ → ℕ) → Additive f → Additive (λ a. times m (f a) b)
then_left m b f h x y = ap (λ z. times m z b) (h x y) ∙ times_left m b (f x) (f y)

then_right : (m a : ℕ) (f : ℕ → ℕ) → Additive f → Additive (λ b. times m a (f b))
then_right m a f h x y = ap (times m a) (h x y) ∙ times_right m a (f x) (f y)

module _ (m : ℕ) (low : 2 ≤ m) (high : m ≤ 8) where
  pub closed : (a b : ℕ) → a < 2 ^ m → b < 2 ^ m → times m a b < 2 ^ m
  closed a b h k = bounded (λ x. times m x b) (times_left m b) m m (λ i l. bounded (times m (2 ^ i)) (times_right m (2 ^ i)) m m (λ j n. closed_basis m low high i j l n) b k) a h

  pub commutes : (a b : ℕ) → a < 2 ^ m → b < 2 ^ m → times m a b ≡ times m b a
  commutes a b h k =
      agree (λ x. times m x b) (times m b) (times_left m b) (times_right m b) m (λ i l. agree (times m (2 ^ i)) (λ y. times m y (2 ^ i)) (times_right m (2 ^ i)) (times_left m (2 ^ i)) m (λ j n. commutes_basis m low high i j l n) b k) a h

  pub associates : (a b c : ℕ) → a < 2 ^ m → b < 2 ^ m → c < 2 ^ m → times m (times m a b) c ≡ times m a (times m b c)
  associates a b c h k l =
      agree (λ x. times m (times m x b) c) (λ x. times m x (times m b c)) (then_left m c (λ x. times m x b) (times_left m b)) (times_left m (times m b c)) m (λ i p. inner i p) a h
    where
      innermost : (i j : ℕ) → i < m → j < m → times m (times m (2 ^ i) (2 ^ j)) c ≡ times m (2 ^ i) (times m (2 ^ j) c)
      innermost i j p q =
          agree (times m (times m (2 ^ i) (2 ^ j))) (λ z. times m (2 ^ i) (times m (2 ^ j) z)) (times_right m (times m (2 ^ i) (2 ^ j))) (then_right m (2 ^ i) (times m (2 ^ j)) (times_right m (2 ^ j))) m (λ n r. associates_basis m low high i j n p q r) c l

      inner : (i : ℕ) → i < m → times m (times m (2 ^ i) b) c ≡ times m (2 ^ i) (times m b c)
      inner i p =
          agree (λ y. times m (times m (2 ^ i) y) c) (λ y. times m (2 ^ i) (times m y c)) (then_left m c (times m (2 ^ i)) (times_right m (2 ^ i))) (then_right m (2 ^ i) (λ y. times m y c) (times_left m c)) m (λ j q. innermost i j p q) b k

  pub one : (a : ℕ) → a < 2 ^ m → times m 1 a ≡ a
  one = agree (times m 1) (λ x. x) (times_right m 1) (λ x y. refl) m (one_basis m low high)

  pub four_elements : 4 ≤ 2 ^ m
  four_elements = pow-le-pow_right (omega arith) low

  pub few_elements : 2 ^ m ≤ 256
  few_elements = pow-le-pow_right (omega arith) high

  pub inverse_closed : (a : ℕ) → a < 2 ^ m → power (times m) 8 1 a (2 ^ m - 2) < 2 ^ m
  inverse_closed a h = power_closed (times m) (2 ^ m) closed 8 1 a (2 ^ m - 2) (omega (arith, four_elements)) h

  pub inverse_right : (a : ℕ) → a < 2 ^ m → (a ≢ 0) → times m a (power (times m) 8 1 a (2 ^ m - 2)) ≡ 1
  inverse_right = inverse_listed m low high

  -- no product of elements other than 0 is 0
  pub no_zero_divisor : (a b : ℕ) → a < 2 ^ m → b < 2 ^ m → times m a b ≡ 0 → (a ≢ 0) → b ≡ 0
  no_zero_divisor a b h k e n =
      let v = power (times m) 8 1 a (2 ^ m - 2) in
      let hv : v < 2 ^ m = inverse_closed a h in
      let unit : times m v a ≡ 1 = commutes v a hv h ∙ inverse_right a h n in
      sym (one b k) ∙ ap (λ x. times m x b) (sym unit) ∙ associates v a b hv h k ∙ ap (times m v) e ∙ additive_zero (times m v) (times_right m v)

  -- the modulus is no product of two polynomials of lower degree
  pub irreducible : (a b : ℕ) → a < 2 ^ m → b < 2 ^ m → carryless 8 a b ≢ modulus_of m
  unfolding times
  irreducible a b h k e = go (ℕ_discrete a 0)
    where
      none : modulus_of m ≡ 0 → ⊥
      none z = omega (arith, z, modulus_some m low high)

      vanishes : times m a b ≡ 0
      vanishes = ap (remainder (modulus_of m) m 8) e ∙ modulus_vanishes m low high

      go : Dec (a ≡ 0) → ⊥
      go (yes z) = none (sym e ∙ ap (λ x. carryless 8 x b) z ∙ additive_zero (λ x. carryless 8 x b) (carryless_left 8 b))
      go (no n) = none (sym e ∙ ap (carryless 8 a) (no_zero_divisor a b h k vanishes n) ∙ additive_zero (carryless 8 a) (carryless_right 8 a))

  -- the power of the total product is the power of the product of elements
  pub inverse_answered : (all : Bool) (a r : ℕ) → a < 2 ^ m → r ≡ power (product_of (binary m all)) 8 1 a (2 ^ m - 2) → r ≡ power (times m) 8 1 a (2 ^ m - 2)
  inverse_answered all a r h e =
      let four : 4 ≤ 2 ^ m = four_elements in
      e ∙ power_agrees (times m) (product_of (binary m all)) (2 ^ m) closed (λ x y p q. grind (arith, nat_tests)) 8 1 a (2 ^ m - 2) (omega arith) h
