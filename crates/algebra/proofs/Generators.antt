-- The generators of the lattice by recursion: those for k + 1 from index 1 on are y − V times those for k.
use mathlib.Core.Path.{◌≡◌, refl, sym, ◌∙◌, ap, ap₂, fun_ext}
use Prim.Native.Nat.{ℕ, zero, suc, ◌≤◌, ◌<◌}
use Prim.Native.Nat
use native.Mathlib.Omega.{arith}
use native.Mathlib.Decide.{dec_le}
use Rattle.algebra.specs.Ring.{CommRing, mul_one}
use Rattle.algebra.specs.Solver.{ring3, ◌:*◌, ◌:≡◌}
use Rattle.algebra.specs.Series.{Series, tail, constant, X, x_minus, series}
use Rattle.algebra.proofs.Coefficients.{constant_mul_at}
use Rattle.algebra.proofs.Linear.{head_tail}
use Rattle.algebra.specs.Degree.{Below}
use Rattle.algebra.specs.Sum.{sum, power}
use Rattle.algebra.specs.Bivariate.{Bivariate, scale, y_power}
use Rattle.algebra.specs.Lattice.{y_minus_power, generator, combination}
use Rattle.algebra.proofs.Degree.{zero_of_below, below_tail}
use Rattle.algebra.proofs.Sum.{sum_cong, sum_multiple}

module _ {K : Type 0} (R : CommRing K) where
  open series R use {zero as 𝟎, one as 𝟏, add as ◌⊕◌, mul as ◌⊗◌, neg as ⊖◌}
  open series (series R) use {one as 𝟙, add as ◌⊞◌, mul as ◌⊠◌, neg as ⊟◌}

  infixl 65 ◌⊕◌
  infixl 70 ◌⊗◌
  infix 75 ⊖◌
  infixl 65 ◌⊞◌
  infixl 70 ◌⊠◌
  infix 75 ⊟◌
  -- g(x)·Q as a product of polynomials in x and y
  pub scale_as_mul : (g : Series K) (Q : Bivariate K) → scale R g Q ≡ constant (series R) g ⊠ Q
  scale_as_mul g Q = fun_ext (λ c. sym (constant_mul_at (series R) g Q c))

  pub mul_scale : (P : Bivariate K) (g : Series K) (Q : Bivariate K) → P ⊠ scale R g Q ≡ scale R g (P ⊠ Q)
  mul_scale P g Q =
      ap (λ S. P ⊠ S) (scale_as_mul g Q)
      ∙ ring3 (series (series R)) (λ p g q. p :* (g :* q) :≡ g :* (p :* q)) tt P (constant (series R) g) Q
      ∙ sym (scale_as_mul g (P ⊠ Q))

  pub scale_scale : (f g : Series K) (Q : Bivariate K) → scale R f (scale R g Q) ≡ scale R (f ⊗ g) Q
  scale_scale f g Q = fun_ext (λ c. sym ((series R).mul_assoc f g (Q c)))

  pub scale_one : (Q : Bivariate K) → scale R 𝟏 Q ≡ Q
  scale_one Q = fun_ext (λ c. (series R).one_mul (Q c))

  pub constant_as_scale : (g : Series K) → constant (series R) g ≡ scale R g 𝟙
  constant_as_scale g = sym (scale_as_mul g 𝟙 ∙ mul_one (series (series R)) (constant (series R) g))

  module _ (A V : Series K) where
    abbrev picked : (k i : ℕ) → Dec (i ≤ k) → Bivariate K
    picked k i c =
        elim c [
          | yes h ↦ scale R (power (series R) A (Nat.◌-◌ k i)) (y_minus_power R V i)
          | no h ↦ y_minus_power R V k ⊠ y_power R (Nat.◌-◌ i k)
        ]

    pub generator_low : (k i : ℕ)
        → i ≤ k
        → generator R A V k i ≡ scale R (power (series R) A (Nat.◌-◌ k i)) (y_minus_power R V i)
    generator_low k i h = go (dec_le i k)
      where
        go : (c : Dec (i ≤ k)) → picked k i c ≡ scale R (power (series R) A (Nat.◌-◌ k i)) (y_minus_power R V i)
        go (yes t) = refl
        go (no t) = absurd (t h)

    pub generator_high : (k i : ℕ) → k < i → generator R A V k i ≡ y_minus_power R V k ⊠ y_power R (Nat.◌-◌ i k)
    generator_high k i h = go (dec_le i k)
      where
        go : (c : Dec (i ≤ k)) → picked k i c ≡ y_minus_power R V k ⊠ y_power R (Nat.◌-◌ i k)
        go (yes t) = absurd (omega arith)
        go (no t) = refl

    -- for multiplicity 0 the generators are the powers of y
    pub generator_none : (i : ℕ) → generator R A V 0 i ≡ y_power R i
    generator_none zero = go (dec_le 0 0)
      where
        go : (c : Dec (0 ≤ 0)) → picked 0 0 c ≡ 𝟙
        go (yes h) = let e : Nat.◌-◌ 0 0 ≡ 0 = omega arith in ap (λ m. scale R (power (series R) A m) 𝟙) e ∙ scale_one 𝟙
        go (no h) = absurd (omega arith)
    generator_none (suc i) = go (dec_le (suc i) 0)
      where
        go : (c : Dec (suc i ≤ 0)) → picked 0 (suc i) c ≡ y_power R (suc i)
        go (yes h) = absurd (omega arith)
        go (no h) =
            let e : Nat.◌-◌ (suc i) 0 ≡ suc i = omega arith in
            ap (λ m. 𝟙 ⊠ y_power R m) e ∙ (series (series R)).one_mul (y_power R (suc i))

    -- generator 0 is a power of A
    pub generator_zero : (k : ℕ) → generator R A V k 0 ≡ scale R (power (series R) A k) 𝟙
    generator_zero k = go (dec_le 0 k)
      where
        go : (c : Dec (0 ≤ k)) → picked k 0 c ≡ scale R (power (series R) A k) 𝟙
        go (yes h) = let e : Nat.◌-◌ k 0 ≡ k = omega arith in ap (λ m. scale R (power (series R) A m) 𝟙) e
        go (no h) = absurd (omega arith)

    pub generator_suc : (k i : ℕ) → generator R A V (suc k) (suc i) ≡ x_minus (series R) V ⊠ generator R A V k i
    generator_suc k i = go (dec_le (suc i) (suc k)) (dec_le i k)
      where
        Y : Bivariate K
        Y = x_minus (series R) V

        go : (c : Dec (suc i ≤ suc k)) (d : Dec (i ≤ k)) → picked (suc k) (suc i) c ≡ x_minus (series R) V ⊠ picked k i d
        go (yes h) (yes t) =
            let e : Nat.◌-◌ (suc k) (suc i) ≡ Nat.◌-◌ k i = omega arith in
            ap (λ m. scale R (power (series R) A m) (Y ⊠ y_minus_power R V i)) e
            ∙ sym (mul_scale Y (power (series R) A (Nat.◌-◌ k i)) (y_minus_power R V i))
        go (no h) (no t) =
            let e : Nat.◌-◌ (suc i) (suc k) ≡ Nat.◌-◌ i k = omega arith in
            (series (series R)).mul_assoc Y (y_minus_power R V k) (y_power R (Nat.◌-◌ (suc i) (suc k)))
            ∙ ap (λ m. Y ⊠ (y_minus_power R V k ⊠ y_power R m)) e
        go (yes h) (no t) = absurd (omega arith)
        go (no h) (yes t) = absurd (omega arith)

    -- y − V times a combination for k is one for k + 1 without generator 0
    pub combination_suc : (k l : ℕ) (h : ℕ → Series K)
        → combination R A V (suc k) (suc l) h
        ≡ scale R (h 0) (generator R A V (suc k) 0) ⊞ x_minus (series R) V ⊠ combination R A V k l (tail h)
    combination_suc k l h =
        ap
        (λ S. scale R (h 0) (generator R A V (suc k) 0) ⊞ S)
        (sum_cong
        (series (series R))
        l
        (λ i. scale R (h (suc i)) (generator R A V (suc k) (suc i)))
        (λ i. x_minus (series R) V ⊠ scale R (h (suc i)) (generator R A V k i))
        (λ i t.
        ap (scale R (h (suc i))) (generator_suc k i)
        ∙ sym (mul_scale (x_minus (series R) V) (h (suc i)) (generator R A V k i)))
        ∙ sum_multiple
        (series (series R))
        l
        (x_minus (series R) V)
        (λ i. scale R (h (suc i)) (generator R A V k i)))

  -- a polynomial is the sum of its terms in y
  pub terms_in_y : (l : ℕ) (Q : Bivariate K)
      → Below (series R) l Q
      → Q ≡ sum (series (series R)) l (λ i. scale R (Q i) (y_power R i))
  terms_in_y zero Q b = zero_of_below (series R) Q b
  terms_in_y (suc l) Q b =
      head_tail (series R) Q
      ∙ ap₂
      ◌⊞◌
      (constant_as_scale (Q 0))
      (ap (λ S. X (series R) ⊠ S) (terms_in_y l (tail Q) (below_tail (series R) b))
      ∙ sym (sum_multiple (series (series R)) l (X (series R)) (λ i. scale R (Q (suc i)) (y_power R i)))
      ∙ sum_cong
      (series (series R))
      l
      (λ i. X (series R) ⊠ scale R (Q (suc i)) (y_power R i))
      (λ i. scale R (Q (suc i)) (y_power R (suc i)))
      (λ i h. mul_scale (X (series R)) (Q (suc i)) (y_power R i)))
