-- Multiplicity at a point: of sums, multiples and products, and the order that it gives to Q(x, f(x)).
use mathlib.Core.Path.{◌≡◌, refl, sym, ◌∙◌, ap, ap₂, subst}
use mathlib.Core.Logic.{◌⊎◌, inl, inr}
use Prim.Native.Nat.{ℕ, zero, suc, ◌<◌, ◌≤◌}
use Prim.Native.Nat
use native.Mathlib.Omega.{arith}
use native.Mathlib.Decide.{dec_le}
use Rattle.algebra.specs.Ring.{CommRing, Field, no_zero_divisors, sub_nonzero}
use Rattle.algebra.specs.Series.{Series, tail, constant, X, x_minus, plus_x, series}
use Rattle.algebra.proofs.Coefficients.{add_at, mul_at_zero, mul_at_suc, mul_at_zero_of}
use Rattle.algebra.proofs.Linear.{plus_x_at_zero, XMulAtZero, head_tail}
use Rattle.algebra.specs.Degree.{Below, Divisible}
use Rattle.algebra.specs.Evaluation.{eval, taylor}
use Rattle.algebra.specs.Order.{Order}
use Rattle.algebra.specs.Bivariate.{Bivariate, Weighted, scale, substitute, local_expansion, Multiplicity}
use Rattle.algebra.proofs.Degree.{below_x_minus}
use Rattle.algebra.proofs.Divisibility.{divisible_zero, divisible_add, divisible_mul, divisible_weaken, divisible_cancel}
use Rattle.algebra.proofs.Taylor.{taylor_at_zero, taylor_x_minus}
use Rattle.algebra.proofs.Bivariate.{taylor_substitute}
use Rattle.algebra.proofs.LocalExpansion.{expanded, local_add, local_scale, local_mul}
use Rattle.algebra.proofs.Expansion.{eval_taylor}

module _ {K : Type 0} (R : CommRing K) where
  open R use {zero as 𝟘, one as 𝟙, add as ◌+◌, mul as ◌*◌, neg as -◌}
  open series R use {zero as 𝟎, one as 𝟏, add as ◌⊕◌, mul as ◌⊗◌, neg as ⊖◌}
  open series (series R) use {add as ◌⊞◌, mul as ◌⊠◌, neg as ⊟◌}

  infixl 65 ◌+◌
  infixl 70 ◌*◌
  infix 75 -◌
  infixl 65 ◌⊕◌
  infixl 70 ◌⊗◌
  infix 75 ⊖◌
  infixl 65 ◌⊞◌
  infixl 70 ◌⊠◌
  infix 75 ⊟◌
  pub multiplicity_add : (a b : K) (m d l : ℕ) (P Q : Bivariate K)
      → Multiplicity R a b m d l P
      → Multiplicity R a b m d l Q
      → Multiplicity R a b m d l (P ⊞ Q)
  multiplicity_add a b m d l P Q v w u r h =
      ap (λ S. S u r) (local_add R d l P Q a b)
      ∙ ap (λ f. f r) (add_at (series R) (local_expansion R d l P a b) (local_expansion R d l Q a b) u)
      ∙ add_at R _ _ r
      ∙ ap₂ ◌+◌ (v u r h) (w u r h)
      ∙ R.add_zero 𝟘

  -- a multiple by a polynomial in x keeps the multiplicity
  pub multiplicity_scale : (a b : K) (m c d e l : ℕ) (g : Series K) (Q : Bivariate K)
      → Nat.◌+◌ d e ≤ suc c
      → Below R d g
      → ((n : ℕ) → Below R e (Q n))
      → Multiplicity R a b m e l Q
      → Multiplicity R a b m c l (scale R g Q)
  multiplicity_scale a b m c d e l g Q h bg bQ v u r k =
      ap (λ f. f r) (local_scale R c d e l g Q a b u h bg bQ)
      ∙ mul_at_zero_of R (taylor R d g a) (local_expansion R e l Q a b u) r (λ i j p. inr (v u j (omega arith)))

  -- the coefficient of a product of series in x and y is zero where each product of coefficients is
  mul_at_at_zero_of : (P Q : Bivariate K) (u r : ℕ)
      → ((i j : ℕ) → Nat.◌+◌ i j ≡ u → (P i ⊗ Q j) r ≡ 𝟘)
      → (P ⊠ Q) u r ≡ 𝟘
  mul_at_at_zero_of P Q zero r h = ap (λ f. f r) (mul_at_zero (series R) P Q) ∙ h 0 0 refl
  mul_at_at_zero_of P Q (suc u) r h =
      ap (λ f. f r) (mul_at_suc (series R) P Q u)
      ∙ add_at R (P 0 ⊗ Q (suc u)) ((tail P ⊠ Q) u) r
      ∙ ap₂
      ◌+◌
      (h 0 (suc u) (omega arith))
      (mul_at_at_zero_of (tail P) Q u r (λ i j p. h (suc i) j (omega arith)))
      ∙ R.add_zero 𝟘

  -- multiplicities add under products
  pub multiplicity_mul : (a b : K) (p q c d e k l m : ℕ) (P Q : Bivariate K)
      → Nat.◌+◌ d e ≤ suc c
      → Nat.◌+◌ l m ≤ suc k
      → ((n : ℕ) → Below R d (P n))
      → ((n : ℕ) → Below R e (Q n))
      → Below (series R) l P
      → Below (series R) m Q
      → Multiplicity R a b p d l P
      → Multiplicity R a b q e m Q
      → Multiplicity R a b (Nat.◌+◌ p q) c k (P ⊠ Q)
  multiplicity_mul a b p q c d e k l m P Q h h' bP bQ yP yQ v w u r t =
      ap (λ S. S u r) (local_mul R c d e k l m P Q a b h h' bP bQ yP yQ)
      ∙ mul_at_at_zero_of L M u r (λ i j s. mul_at_zero_of R (L i) (M j) r (λ x y z. pick i j x y s z (dec_le p (Nat.◌+◌ i x))))
    where
      L : Bivariate K
      L = local_expansion R d l P a b

      M : Bivariate K
      M = local_expansion R e m Q a b

      pick : (i j x y : ℕ)
          → Nat.◌+◌ i j ≡ u
          → Nat.◌+◌ x y ≡ r
          → Dec (p ≤ Nat.◌+◌ i x)
          → (L i x ≡ 𝟘) ⊎ (M j y ≡ 𝟘)
      pick i j x y s z (yes g) = inr (w j y (omega arith))
      pick i j x y s z (no g) = inl (v i x (omega arith))

  -- a value at h, divisible by x, of a polynomial whose coefficient of y^u is divisible by x^(m − u)
  divisible_eval : (l m : ℕ) (L : Bivariate K) (h : Series K)
      → Divisible R 1 h
      → ((u r : ℕ) → Nat.◌+◌ u r < m → L u r ≡ 𝟘)
      → Divisible R m (eval (series R) l L h)
  divisible_eval zero m L h d v = divisible_zero R m
  divisible_eval (suc l) zero L h d v = λ n k. absurd (omega arith)
  divisible_eval (suc l) (suc m) L h d v =
      divisible_add
      R
      (λ n k. v 0 n (omega arith))
      (divisible_weaken
      R
      (omega arith)
      (divisible_mul R d (divisible_eval l m (tail L) h d (λ u r k. v (suc u) r (omega arith)))))

  -- if Q has multiplicity m at (a, f(a)) then Q(x, f(x)) vanishes at a to order m
  pub order_substitute : (a b : K) (m l s D : ℕ) (Q : Bivariate K) (f : Series K)
      → Weighted R s D Q
      → Below R (suc s) f
      → eval R (suc s) f a ≡ b
      → Multiplicity R a b m D l Q
      → Order R a m D (substitute R l Q f)
  order_substitute a b m l s D Q f w c e v =
      subst
      (Divisible R m)
      (sym (taylor_substitute R l s D Q f a w c ∙ ap (substitute R l (expanded R D Q a)) split ∙ sym (eval_taylor (series R) l (expanded R D Q a) (constant R b) h)))
      (divisible_eval l m (local_expansion R D l Q a b) h start v)
    where
      h : Series K
      h = X R ⊗ tail (taylor R (suc s) f a)

      split : taylor R (suc s) f a ≡ constant R b ⊕ h
      split =
          head_tail R (taylor R (suc s) f a)
          ∙ ap (λ x. constant R x ⊕ h) (taylor_at_zero R (suc s) f a ∙ e)

      start : Divisible R 1 h
      start zero k = XMulAtZero R (tail (taylor R (suc s) f a))
      start (suc n) k = absurd (omega arith)

module _ {K : Type 0} (F : Field K) where
  abbrev R : CommRing K
  R = F.ring

  open R use {zero as 𝟘, one as 𝟙, add as ◌+◌, mul as ◌*◌, neg as -◌}

  infixl 65 ◌+◌
  infixl 70 ◌*◌
  infix 75 -◌
  -- a factor x − c with c ≠ a does not count for the multiplicity at (a, b)
  pub multiplicity_cancel : (a b c : K) (m d l : ℕ) (Q : Bivariate K)
      → (a ≡ c → ⊥)
      → ((n : ℕ) → Below R d (Q n))
      → Multiplicity R a b m (suc d) l (scale R (x_minus R c) Q)
      → Multiplicity R a b m d l Q
  multiplicity_cancel a b c m d l Q h bQ v u r k =
      divisible_cancel
      R
      (suc r)
      (plus_x R (a + - c))
      (local_expansion R d l Q a b u)
      (λ x e.
      no_zero_divisors
      F
      (a + - c)
      x
      (sub_nonzero F a c h)
      (ap (λ y. y * x) (sym (plus_x_at_zero R (a + - c))) ∙ e))
      (λ n t.
      sym
      (ap (λ f. f n) (local_scale R (suc d) 2 d l (x_minus R c) Q a b u (omega arith) (below_x_minus R c) bQ)
      ∙ ap (λ g. (series R).mul g (local_expansion R d l Q a b u) n) (taylor_x_minus R 0 c a))
      ∙ v u n (omega arith))
      r
      (omega arith)
