-- Homomorphisms keep zero and negatives, and act on the coefficients of power series; the ones used here.
use mathlib.Core.Path.{◌≡◌, sym, ◌∙◌, ap, ap₂, fun_ext}
use Prim.Native.Nat.{ℕ, zero, suc}
use Rattle.algebra.specs.Ring.{CommRing, add_cancel_left, neg_unique}
use Rattle.algebra.specs.Series.{Series, tail, constant, series}
use Rattle.algebra.proofs.Coefficients.{add_at, mul_at_zero, mul_at_suc, one_constant, constant_at_zero, constant_at_suc, constant_add, constant_mul}
use Rattle.algebra.specs.Homomorphism.{Homomorphism}

module _ {K L : Type 0} (R : CommRing K) (S : CommRing L) (φ : K → L) (hom : Homomorphism R S φ) where
  pub keeps_zero : φ R.zero ≡ S.zero
  keeps_zero =
      add_cancel_left
      S
      (φ R.zero)
      (φ R.zero)
      S.zero
      (sym (hom.keeps_add R.zero R.zero) ∙ ap φ (R.add_zero R.zero) ∙ sym (S.add_zero (φ R.zero)))

  pub keeps_neg : (a : K) → φ (R.neg a) ≡ S.neg (φ a)
  keeps_neg a =
      neg_unique S (φ a) (φ (R.neg a)) (sym (hom.keeps_add a (R.neg a)) ∙ ap φ (R.add_neg a) ∙ keeps_zero)

  product_at : (f g : Series K) (n : ℕ)
      → φ ((series R).mul f g n) ≡ (series S).mul (λ k. φ (f k)) (λ k. φ (g k)) n
  product_at f g zero = ap φ (mul_at_zero R f g) ∙ hom.keeps_mul (f 0) (g 0) ∙ sym (mul_at_zero S _ _)
  product_at f g (suc n) =
      ap φ (mul_at_suc R f g n)
      ∙ hom.keeps_add _ _
      ∙ ap₂ S.add (hom.keeps_mul (f 0) (g (suc n))) (product_at (tail f) g n)
      ∙ sym (mul_at_suc S _ _ n)

  one_at : (n : ℕ) → φ ((series R).one n) ≡ (series S).one n
  one_at zero =
      ap (λ f. φ (f 0)) (one_constant R)
      ∙ ap φ (constant_at_zero R R.one)
      ∙ hom.keeps_one
      ∙ sym (ap (λ f. f 0) (one_constant S) ∙ constant_at_zero S S.one)
  one_at (suc n) =
      ap (λ f. φ (f (suc n))) (one_constant R)
      ∙ ap φ (constant_at_suc R R.one n)
      ∙ keeps_zero
      ∙ sym (ap (λ f. f (suc n)) (one_constant S) ∙ constant_at_suc S S.one n)

  -- a homomorphism acts on power series, coefficient by coefficient
  pub on_coefficients : Homomorphism (series R) (series S) (λ f n. φ (f n))
  on_coefficients =
      record {
        keeps_add =
            λ f g. fun_ext (λ n. ap φ (add_at R f g n) ∙ hom.keeps_add (f n) (g n) ∙ sym (add_at S (λ k. φ (f k)) (λ k. φ (g k)) n));
        keeps_mul = λ f g. fun_ext (product_at f g);
        keeps_one = fun_ext one_at;
      }

module _ {K : Type 0} (R : CommRing K) where
  pub constant_homomorphism : Homomorphism R (series R) (constant R)
  constant_homomorphism =
      record { keeps_add = constant_add R; keeps_mul = constant_mul R; keeps_one = sym (one_constant R) }

  -- the constant term
  pub at_zero_homomorphism : Homomorphism (series R) R (λ f. f 0)
  at_zero_homomorphism =
      record {
        keeps_add = λ f g. add_at R f g 0;
        keeps_mul = mul_at_zero R;
        keeps_one = ap (λ f. f 0) (one_constant R) ∙ constant_at_zero R R.one;
      }
