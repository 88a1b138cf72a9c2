-- The indeterminate x and the linear polynomials x − a and a + x, and the coefficients of their multiples.
use mathlib.Core.Path.{◌≡◌, refl, sym, ◌∙◌, ap, ap₂, fun_ext}
use Prim.Native.Nat.{ℕ, zero, suc}
use Rattle.algebra.specs.Ring.{CommRing, zero_add, zero_mul, add_mul}
use Rattle.algebra.specs.Solver.{ring3, ring4, ◌:+◌, ◌:*◌, ◌:-◌, ◌:≡◌}
use Rattle.algebra.specs.Series.{Series, tail, constant, shift, X, x_minus, plus_x, series}
use Rattle.algebra.proofs.Coefficients.{
  add_at,
  neg_at,
  constant_at_zero,
  constant_mul_at,
  shift_at_zero,
  shift_at_suc,
}

module _ {K : Type 0} (R : CommRing K) where
  open R use {zero as 𝟘, one as 𝟙, add as ◌+◌, mul as ◌*◌, neg as -◌}
  open series R use {zero as 𝟎, one as 𝟏, add as ◌⊕◌, mul as ◌⊗◌, neg as ⊖◌}

  infixl 65 ◌+◌
  infixl 70 ◌*◌
  infix 75 -◌
  infixl 65 ◌⊕◌
  infixl 70 ◌⊗◌
  infix 75 ⊖◌
  pub shift_mul : (f g : Series K) → shift R f ⊗ g ≡ shift R (f ⊗ g)
  unfolding series shift
  shift_mul f g =
      fun_ext
      (elim [
        | zero ↦ zero_mul R (g 0)
        | suc n ↦ ap (λ x. x + (f ⊗ g) n) (zero_mul R (g (suc n))) ∙ zero_add R ((f ⊗ g) n)
      ])

  pub XMul : (f : Series K) → X R ⊗ f ≡ shift R f
  unfolding series X
  XMul f = shift_mul (constant R 𝟙) f ∙ ap (shift R) ((series R).one_mul f)

  pub XMulAtZero : (f : Series K) → (X R ⊗ f) 0 ≡ 𝟘
  XMulAtZero f = ap (λ g. g 0) (XMul f) ∙ shift_at_zero R f

  pub XMulAtSuc : (f : Series K) (n : ℕ) → (X R ⊗ f) (suc n) ≡ f n
  XMulAtSuc f n = ap (λ g. g (suc n)) (XMul f) ∙ shift_at_suc R f n

  -- a series is its first coefficient and x times its tail
  pub head_tail : (f : Series K) → f ≡ constant R (f 0) ⊕ X R ⊗ tail f
  unfolding series constant
  head_tail f =
      fun_ext
      (elim [
        | zero ↦ sym (ap (λ x. f 0 + x) (XMulAtZero (tail f)) ∙ R.add_zero (f 0))
        | suc n ↦ sym (ap (λ x. 𝟘 + x) (XMulAtSuc (tail f) n) ∙ zero_add R (f (suc n)))
      ])

  -- the product by its first factor's head and tail
  pub mul_head_tail : (f g : Series K) → f ⊗ g ≡ constant R (f 0) ⊗ g ⊕ X R ⊗ (tail f ⊗ g)
  mul_head_tail f g =
      ap (λ h. h ⊗ g) (head_tail f)
      ∙ ring4 (series R) (λ c x t g. (c :+ x :* t) :* g :≡ c :* g :+ x :* (t :* g)) tt _ _ _ _

  x_minus_mul : (a : K) (f : Series K) → x_minus R a ⊗ f ≡ X R ⊗ f ⊕ ⊖ (constant R a ⊗ f)
  x_minus_mul a f = ring3 (series R) (λ x c f. (x :- c) :* f :≡ x :* f :- c :* f) tt _ _ _

  pub x_minus_mul_at_zero : (a : K) (f : Series K) → (x_minus R a ⊗ f) 0 ≡ - (a * f 0)
  x_minus_mul_at_zero a f =
      ap (λ g. g 0) (x_minus_mul a f)
      ∙ add_at R (X R ⊗ f) (⊖ (constant R a ⊗ f)) 0
      ∙ ap₂ ◌+◌ (XMulAtZero f) (neg_at R (constant R a ⊗ f) 0 ∙ ap -◌ (constant_mul_at R a f 0))
      ∙ zero_add R (- (a * f 0))

  pub x_minus_mul_at_suc : (a : K) (f : Series K) (n : ℕ) → (x_minus R a ⊗ f) (suc n) ≡ f n + - (a * f (suc n))
  x_minus_mul_at_suc a f n =
      ap (λ g. g (suc n)) (x_minus_mul a f)
      ∙ add_at R (X R ⊗ f) (⊖ (constant R a ⊗ f)) (suc n)
      ∙ ap₂
      ◌+◌
      (XMulAtSuc f n)
      (neg_at R (constant R a ⊗ f) (suc n) ∙ ap -◌ (constant_mul_at R a f (suc n)))

  plus_x_mul : (a : K) (f : Series K) → plus_x R a ⊗ f ≡ constant R a ⊗ f ⊕ X R ⊗ f
  plus_x_mul a f = add_mul (series R) (constant R a) (X R) f

  pub plus_x_mul_at_zero : (a : K) (f : Series K) → (plus_x R a ⊗ f) 0 ≡ a * f 0
  plus_x_mul_at_zero a f =
      ap (λ g. g 0) (plus_x_mul a f)
      ∙ add_at R (constant R a ⊗ f) (X R ⊗ f) 0
      ∙ ap₂ ◌+◌ (constant_mul_at R a f 0) (XMulAtZero f)
      ∙ R.add_zero (a * f 0)

  pub plus_x_mul_at_suc : (a : K) (f : Series K) (n : ℕ) → (plus_x R a ⊗ f) (suc n) ≡ a * f (suc n) + f n
  plus_x_mul_at_suc a f n =
      ap (λ g. g (suc n)) (plus_x_mul a f)
      ∙ add_at R (constant R a ⊗ f) (X R ⊗ f) (suc n)
      ∙ ap₂ ◌+◌ (constant_mul_at R a f (suc n)) (XMulAtSuc f n)

  pub tail_X_mul : (f : Series K) → tail (X R ⊗ f) ≡ f
  tail_X_mul f = fun_ext (XMulAtSuc f)

  pub XAtZero : X R 0 ≡ 𝟘
  unfolding X shift
  XAtZero = refl

  pub XAtOne : X R 1 ≡ 𝟙
  unfolding X shift constant
  XAtOne = refl

  pub XAtSucSuc : (n : ℕ) → X R (suc (suc n)) ≡ 𝟘
  unfolding X shift constant
  XAtSucSuc n = refl

  pub plus_x_at_zero : (a : K) → plus_x R a 0 ≡ a
  plus_x_at_zero a = add_at R (constant R a) (X R) 0 ∙ ap₂ ◌+◌ (constant_at_zero R a) XAtZero ∙ R.add_zero a
