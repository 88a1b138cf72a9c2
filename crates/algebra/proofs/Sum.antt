-- Laws of finite sums and powers; values and products of series as sums.
use mathlib.Core.Path.{◌≡◌, refl, sym, ◌∙◌, ap, ap₂}
use Prim.Native.Nat.{ℕ, zero, suc, ◌<◌}
use Prim.Native.Nat
use native.Mathlib.Omega.{arith}
use Rattle.algebra.specs.Ring.{CommRing, Field, zero_add, mul_one, mul_zero, mul_nonzero}
use Rattle.algebra.specs.Solver.{ring3, ring4, ◌:+◌, ◌:*◌, ◌:≡◌}
use Rattle.algebra.specs.Series.{Series, tail, X, series}
use Rattle.algebra.proofs.Coefficients.{mul_at_zero, mul_at_suc}
use Rattle.algebra.proofs.Linear.{XMulAtSuc}
use Rattle.algebra.specs.Evaluation.{eval}
use Rattle.algebra.specs.Homomorphism.{Homomorphism}
use Rattle.algebra.specs.Sum.{sum, power}
use Rattle.algebra.proofs.Homomorphism.{keeps_zero}

module _ {K : Type 0} (R : CommRing K) where
  open R use {zero as 𝟘, one as 𝟙, add as ◌+◌, mul as ◌*◌, neg as -◌}
  open series R use {mul as ◌⊗◌}

  infixl 65 ◌+◌
  infixl 70 ◌*◌
  infix 75 -◌
  infixl 70 ◌⊗◌
  pub sum_cong : (n : ℕ) (f g : ℕ → K) → ((i : ℕ) → i < n → f i ≡ g i) → sum R n f ≡ sum R n g
  sum_cong zero f g e = refl
  sum_cong (suc n) f g e =
      ap₂ ◌+◌ (e 0 (omega arith)) (sum_cong n (tail f) (tail g) (λ i h. e (suc i) (omega arith)))

  pub sum_zero : (n : ℕ) (f : ℕ → K) → ((i : ℕ) → i < n → f i ≡ 𝟘) → sum R n f ≡ 𝟘
  sum_zero zero f e = refl
  sum_zero (suc n) f e =
      ap₂ ◌+◌ (e 0 (omega arith)) (sum_zero n (tail f) (λ i h. e (suc i) (omega arith))) ∙ R.add_zero 𝟘

  pub sum_add : (n : ℕ) (f g : ℕ → K) → sum R n (λ i. f i + g i) ≡ sum R n f + sum R n g
  sum_add zero f g = sym (R.add_zero 𝟘)
  sum_add (suc n) f g =
      ap (λ x. f 0 + g 0 + x) (sum_add n (tail f) (tail g))
      ∙ ring4 R (λ a b p q. a :+ b :+ (p :+ q) :≡ (a :+ p) :+ (b :+ q)) tt _ _ _ _

  pub sum_multiple : (n : ℕ) (c : K) (f : ℕ → K) → sum R n (λ i. c * f i) ≡ c * sum R n f
  sum_multiple zero c f = sym (mul_zero R c)
  sum_multiple (suc n) c f = ap (λ x. c * f 0 + x) (sum_multiple n c (tail f)) ∙ sym (R.mul_add c _ _)

  -- the last term of a sum
  pub sum_last : (n : ℕ) (f : ℕ → K) → sum R (suc n) f ≡ sum R n f + f n
  sum_last zero f = R.add_comm (f 0) 𝟘
  sum_last (suc n) f = ap (λ x. f 0 + x) (sum_last n (tail f)) ∙ sym (R.add_assoc _ _ _)

  pub sum_append : (m n : ℕ) (f : ℕ → K) → sum R (Nat.◌+◌ m n) f ≡ sum R m f + sum R n (λ i. f (Nat.◌+◌ m i))
  sum_append zero n f =
      let e : Nat.◌+◌ 0 n ≡ n = omega arith in
      ap (λ k. sum R k f) e
      ∙ sum_cong n f (λ i. f (Nat.◌+◌ 0 i)) (λ i h. ap f (omega arith))
      ∙ sym (zero_add R _)
  sum_append (suc m) n f =
      let e : Nat.◌+◌ (suc m) n ≡ suc (Nat.◌+◌ m n) = omega arith in
      ap (λ k. sum R k f) e
      ∙ ap (λ x. f 0 + x) (sum_append m n (tail f))
      ∙ sym (R.add_assoc _ _ _)
      ∙ ap
      (λ x. f 0 + sum R m (tail f) + x)
      (sum_cong n (λ i. f (suc (Nat.◌+◌ m i))) (λ i. f (Nat.◌+◌ (suc m) i)) (λ i h. ap f (omega arith)))

  -- a double sum in the other order
  pub sum_swap : (m n : ℕ) (f : ℕ → ℕ → K)
      → sum R m (λ i. sum R n (λ j. f i j)) ≡ sum R n (λ j. sum R m (λ i. f i j))
  sum_swap zero n f = sym (sum_zero n (λ j. 𝟘) (λ j h. refl))
  sum_swap (suc m) n f =
      ap (λ x. sum R n (f 0) + x) (sum_swap m n (λ i j. f (suc i) j))
      ∙ sym (sum_add n (f 0) (λ j. sum R m (λ i. f (suc i) j)))

  pub power_add : (a : K) (m n : ℕ) → power R a (Nat.◌+◌ m n) ≡ power R a m * power R a n
  power_add a zero n =
      let e : Nat.◌+◌ 0 n ≡ n = omega arith in
      ap (power R a) e ∙ sym (R.one_mul (power R a n))
  power_add a (suc m) n =
      let e : Nat.◌+◌ (suc m) n ≡ suc (Nat.◌+◌ m n) = omega arith in
      ap (power R a) e ∙ ap (λ x. a * x) (power_add a m n) ∙ sym (R.mul_assoc _ _ _)

  pub power_mul : (a b : K) (n : ℕ) → power R (a * b) n ≡ power R a n * power R b n
  power_mul a b zero = sym (R.one_mul 𝟙)
  power_mul a b (suc n) =
      ap (λ x. a * b * x) (power_mul a b n)
      ∙ ring4 R (λ a b p q. a :* b :* (p :* q) :≡ (a :* p) :* (b :* q)) tt _ _ _ _

  pub power_one : (n : ℕ) → power R 𝟙 n ≡ 𝟙
  power_one zero = refl
  power_one (suc n) = R.one_mul _ ∙ power_one n

  -- the value of a polynomial as the sum of its terms
  pub eval_as_sum : (d : ℕ) (f : Series K) (a : K) → eval R d f a ≡ sum R d (λ i. f i * power R a i)
  eval_as_sum zero f a = refl
  eval_as_sum (suc d) f a =
      ap₂
      ◌+◌
      (sym (mul_one R (f 0)))
      (ap (λ x. a * x) (eval_as_sum d (tail f) a)
      ∙ sym (sum_multiple d a (λ i. f (suc i) * power R a i))
      ∙ sum_cong
      d
      (λ i. a * (f (suc i) * power R a i))
      (λ i. f (suc i) * (a * power R a i))
      (λ i h. ring3 R (λ a f p. a :* (f :* p) :≡ f :* (a :* p)) tt _ _ _))

  -- the value at a·z is the value at z of the polynomial with coefficients a^i · f i
  pub eval_dilate : (d : ℕ) (f : Series K) (a z : K)
      → eval R d f (a * z) ≡ eval R d (λ i. power R a i * f i) z
  eval_dilate d f a z =
      eval_as_sum d f (a * z)
      ∙ sum_cong
      d
      (λ i. f i * power R (a * z) i)
      (λ i. power R a i * f i * power R z i)
      (λ i h.
      ap (λ x. f i * x) (power_mul a z i)
      ∙ ring3 R (λ f p q. f :* (p :* q) :≡ p :* f :* q) tt (f i) (power R a i) (power R z i))
      ∙ sym (eval_as_sum d (λ i. power R a i * f i) z)

  -- the coefficient of a product as a sum
  pub mul_as_sum : (f g : Series K) (n : ℕ)
      → (f ⊗ g) n ≡ sum R (suc n) (λ i. f i * g (Nat.◌-◌ n i))
  mul_as_sum f g zero = mul_at_zero R f g ∙ sym (R.add_zero _)
  mul_as_sum f g (suc n) =
      mul_at_suc R f g n
      ∙ ap₂
      ◌+◌
      (ap (λ k. f 0 * g k) (omega arith))
      (mul_as_sum (tail f) g n
      ∙ sum_cong
      (suc n)
      (λ i. f (suc i) * g (Nat.◌-◌ n i))
      (λ i. f (suc i) * g (Nat.◌-◌ (suc n) (suc i)))
      (λ i h. ap (λ k. f (suc i) * g k) (omega arith)))

  -- x^m · f starts at m
  pub XPowerMulAt : (m : ℕ) (f : Series K) (n : ℕ) → (power (series R) (X R) m ⊗ f) (Nat.◌+◌ m n) ≡ f n
  XPowerMulAt zero f n =
      let e : Nat.◌+◌ 0 n ≡ n = omega arith in
      ap (λ g. g (Nat.◌+◌ 0 n)) ((series R).one_mul f) ∙ ap f e
  XPowerMulAt (suc m) f n =
      let e : Nat.◌+◌ (suc m) n ≡ suc (Nat.◌+◌ m n) = omega arith in
      ap (power (series R) (X R) (suc m) ⊗ f) e
      ∙ ap (λ g. g (suc (Nat.◌+◌ m n))) ((series R).mul_assoc (X R) (power (series R) (X R) m) f)
      ∙ XMulAtSuc R (power (series R) (X R) m ⊗ f) (Nat.◌+◌ m n)
      ∙ XPowerMulAt m f n

-- a homomorphism takes sums to sums and powers to powers
module _ {K L : Type 0} (R : CommRing K) (S : CommRing L) (φ : K → L) (hom : Homomorphism R S φ) where
  pub sum_image : (n : ℕ) (f : ℕ → K) → φ (sum R n f) ≡ sum S n (λ i. φ (f i))
  sum_image zero f = keeps_zero R S φ hom
  sum_image (suc n) f = hom.keeps_add _ _ ∙ ap (S.add (φ (f 0))) (sum_image n (tail f))

  pub power_image : (a : K) (n : ℕ) → φ (power R a n) ≡ power S (φ a) n
  power_image a zero = hom.keeps_one
  power_image a (suc n) = hom.keeps_mul _ _ ∙ ap (S.mul (φ a)) (power_image a n)

module _ {K : Type 0} (F : Field K) where
  pub power_nonzero : (a : K) (n : ℕ) → (a ≡ F.ring.zero → ⊥) → power F.ring a n ≡ F.ring.zero → ⊥
  power_nonzero a zero h e = F.apart (sym e)
  power_nonzero a (suc n) h e = mul_nonzero F a (power F.ring a n) h (power_nonzero a n h) e
