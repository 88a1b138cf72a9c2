-- A factor y − V(x) with V(a) = b counts once for the multiplicity at (a, b).
use mathlib.Core.Path.{◌≡◌, refl, sym, ◌∙◌, ap, ap₂, subst, fun_ext}
use mathlib.Core.Logic.{inr}
use Prim.Native.Nat.{ℕ, zero, suc, ◌≤◌, ◌<◌}
use Prim.Native.Nat
use native.Mathlib.Omega.{arith}
use Rattle.algebra.specs.Ring.{CommRing, zero_add}
use Rattle.algebra.specs.Solver.{ring3, ◌:+◌, ◌:*◌, ◌:-◌, :-◌, ◌:≡◌}
use Rattle.algebra.specs.Series.{Series, tail, constant, shift, X, x_minus, plus_x, series}
use Rattle.algebra.proofs.Coefficients.{add_at, neg_at, mul_at_zero_of, constant_at_zero, constant_at_suc}
use Rattle.algebra.proofs.Linear.{XMulAtZero, XMulAtSuc, XAtZero, XAtOne, XAtSucSuc, head_tail, plus_x_at_zero, plus_x_mul_at_suc}
use Rattle.algebra.specs.Degree.{Below}
use Rattle.algebra.specs.Evaluation.{eval, taylor}
use Rattle.algebra.specs.Bivariate.{Bivariate, local_expansion, Multiplicity}
use Rattle.algebra.proofs.Degree.{below_zero, below_one, below_weaken, below_sub, below_x_minus}
use Rattle.algebra.proofs.Taylor.{taylor_at_zero, taylor_zero, taylor_add, taylor_neg, taylor_x_minus}
use Rattle.algebra.proofs.Powers.{taylor_one}
use Rattle.algebra.proofs.LocalExpansion.{expanded, local_mul}

module _ {K : Type 0} (R : CommRing K) where
  open R use {zero as 𝟘, one as 𝟙, add as ◌+◌, mul as ◌*◌, neg as -◌}
  open series R use {zero as 𝟎, one as 𝟏, add as ◌⊕◌, mul as ◌⊗◌, neg as ⊖◌}
  open series (series R) use {mul as ◌⊠◌}

  infixl 65 ◌+◌
  infixl 70 ◌*◌
  infix 75 -◌
  infixl 65 ◌⊕◌
  infixl 70 ◌⊗◌
  infix 75 ⊖◌
  infixl 70 ◌⊠◌
  -- if (x·g + y) · M has no coefficient of total index below m + 1, then M has none of total index below m
  local_divide : (m : ℕ) (g : Series K) (M : Bivariate K)
      → ((u r : ℕ) → Nat.◌+◌ u r < suc m → (plus_x (series R) (X R ⊗ g) ⊠ M) u r ≡ 𝟘)
      → (n u r : ℕ)
      → r < n
      → Nat.◌+◌ u r < m
      → M u r ≡ 𝟘
  local_divide m g M v zero u r k h = absurd (omega arith)
  local_divide m g M v (suc n) u r k h =
      sym (zero_add R (M u r))
      ∙ ap (λ x. x + M u r) (sym (rest r k h (λ s p q. local_divide m g M v n (suc u) s p q)))
      ∙ sym
      (ap (λ f. f r) (plus_x_mul_at_suc (series R) (X R ⊗ g) M u)
      ∙ add_at R (X R ⊗ g ⊗ M (suc u)) (M u) r)
      ∙ v (suc u) r (omega arith)
    where
      rest : (r : ℕ)
          → r < suc n
          → Nat.◌+◌ u r < m
          → ((s : ℕ) → s < n → Nat.◌+◌ (suc u) s < m → M (suc u) s ≡ 𝟘)
          → (X R ⊗ g ⊗ M (suc u)) r ≡ 𝟘
      rest zero k h ih =
          ap (λ f. f 0) ((series R).mul_assoc (X R) g (M (suc u))) ∙ XMulAtZero R (g ⊗ M (suc u))
      rest (suc r) k h ih =
          ap (λ f. f (suc r)) ((series R).mul_assoc (X R) g (M (suc u)))
          ∙ XMulAtSuc R (g ⊗ M (suc u)) r
          ∙ mul_at_zero_of R g (M (suc u)) r (λ i j p. inr (ih j (omega arith) (omega arith)))

  expanded_X : (e : ℕ) (a : K) (c : ℕ) → taylor R (suc e) (X (series R) c) a ≡ X (series R) c
  unfolding X shift constant
  expanded_X e a zero = taylor_zero R (suc e) a
  expanded_X e a (suc zero) = taylor_one R e a
  expanded_X e a (suc (suc c)) = taylor_zero R (suc e) a

  expanded_constant : (e : ℕ) (V : Series K) (a : K) (c : ℕ)
      → taylor R (suc e) (constant (series R) V c) a ≡ constant (series R) (taylor R (suc e) V a) c
  unfolding constant
  expanded_constant e V a zero = refl
  expanded_constant e V a (suc c) = taylor_zero R (suc e) a

  y_minus_at : (V : Series K) (c : ℕ)
      → x_minus (series R) V c ≡ X (series R) c ⊕ ⊖ constant (series R) V c
  y_minus_at V c =
      add_at (series R) (X (series R)) ((series (series R)).neg (constant (series R) V)) c
      ∙ ap (λ f. X (series R) c ⊕ f) (neg_at (series R) (constant (series R) V) c)

  -- y − V, with its coefficients expanded at x = a, is y − V(a + x)
  expanded_y_minus : (e : ℕ) (V : Series K) (a : K)
      → expanded R (suc e) (x_minus (series R) V) a ≡ x_minus (series R) (taylor R (suc e) V a)
  expanded_y_minus e V a =
      fun_ext
      (λ c.
      ap (λ f. taylor R (suc e) f a) (y_minus_at V c)
      ∙ taylor_add R (suc e) (X (series R) c) (⊖ constant (series R) V c) a
      ∙ ap₂
      ◌⊕◌
      (expanded_X e a c)
      (taylor_neg R (suc e) (constant (series R) V c) a ∙ ap ⊖◌ (expanded_constant e V a c))
      ∙ sym (y_minus_at (taylor R (suc e) V a) c))

  -- the coefficients of y − V have degree at most that of V
  pub below_y_minus : (e : ℕ) (V : Series K) → Below R (suc e) V → (c : ℕ) → Below R (suc e) (x_minus (series R) V c)
  below_y_minus e V b c =
      subst (Below R (suc e)) (sym (y_minus_at V c)) (below_sub R (x_part c) (constant_part c))
    where
      x_part : (c : ℕ) → Below R (suc e) (X (series R) c)
      x_part zero = subst (Below R (suc e)) (sym (XAtZero (series R))) (below_zero R (suc e))
      x_part (suc zero) = subst (Below R (suc e)) (sym (XAtOne (series R))) (below_weaken R (omega arith) (below_one R))
      x_part (suc (suc c)) = subst (Below R (suc e)) (sym (XAtSucSuc (series R) c)) (below_zero R (suc e))

      constant_part : (c : ℕ) → Below R (suc e) (constant (series R) V c)
      constant_part zero = subst (Below R (suc e)) (sym (constant_at_zero (series R) V)) b
      constant_part (suc c) = subst (Below R (suc e)) (sym (constant_at_suc (series R) V c)) (below_zero R (suc e))

  -- in local coordinates y − V is y + x·g
  local_y_minus : (e : ℕ) (V : Series K) (a b : K)
      → eval R (suc e) V a ≡ b
      → local_expansion R (suc e) 2 (x_minus (series R) V) a b
      ≡ plus_x (series R) (X R ⊗ ⊖ tail (taylor R (suc e) V a))
  local_y_minus e V a b h =
      ap (λ P. taylor (series R) 2 P (constant R b)) (expanded_y_minus e V a)
      ∙ taylor_x_minus (series R) 0 (taylor R (suc e) V a) (constant R b)
      ∙ ap
      (plus_x (series R))
      (ap
      (λ T. constant R b ⊕ ⊖ T)
      (head_tail R (taylor R (suc e) V a)
      ∙ ap
      (λ x. constant R x ⊕ X R ⊗ tail (taylor R (suc e) V a))
      (taylor_at_zero R (suc e) V a ∙ h))
      ∙ ring3
      (series R)
      (λ b x t. b :- (b :+ x :* t) :≡ x :* :- t)
      tt
      (constant R b)
      (X R)
      (tail (taylor R (suc e) V a)))

  -- y − V vanishes at (a, V(a))
  pub multiplicity_y_minus : (e : ℕ) (V : Series K) (a b : K)
      → eval R (suc e) V a ≡ b
      → Multiplicity R a b 1 (suc e) 2 (x_minus (series R) V)
  multiplicity_y_minus e V a b h zero zero k =
      ap (λ L. L 0 0) (local_y_minus e V a b h)
      ∙ ap (λ f. f 0) (plus_x_at_zero (series R) (X R ⊗ ⊖ tail (taylor R (suc e) V a)))
      ∙ XMulAtZero R (⊖ tail (taylor R (suc e) V a))
  multiplicity_y_minus e V a b h zero (suc r) k = absurd (omega arith)
  multiplicity_y_minus e V a b h (suc u) r k = absurd (omega arith)

  -- if (y − V) · Q has multiplicity m + 1 at (a, V(a)) then Q has multiplicity m
  pub multiplicity_divide : (a b : K) (m c d e k l : ℕ) (V : Series K) (Q : Bivariate K)
      → Nat.◌+◌ e d ≤ c
      → l < k
      → Below R (suc e) V
      → ((n : ℕ) → Below R d (Q n))
      → Below (series R) l Q
      → eval R (suc e) V a ≡ b
      → Multiplicity R a b (suc m) c k (x_minus (series R) V ⊠ Q)
      → Multiplicity R a b m d l Q
  multiplicity_divide a b m c d e k l V Q h h' bV bQ yQ p v u r t =
      local_divide m (⊖ tail (taylor R (suc e) V a)) (local_expansion R d l Q a b) w (suc r) u r (omega arith) t
    where
      w : (u r : ℕ)
          → Nat.◌+◌ u r < suc m
          → (plus_x (series R) (X R ⊗ ⊖ tail (taylor R (suc e) V a)) ⊠ local_expansion R d l Q a b) u r ≡ 𝟘
      w u r s =
          sym
          (ap
          (λ L. L u r)
          (local_mul
          R
          c
          (suc e)
          d
          k
          2
          l
          (x_minus (series R) V)
          Q
          a
          b
          (omega arith)
          (omega arith)
          (below_y_minus e V bV)
          bQ
          (below_x_minus (series R) V)
          yQ
          ∙ ap (λ L. L ⊠ local_expansion R d l Q a b) (local_y_minus e V a b p)))
          ∙ v u r s
