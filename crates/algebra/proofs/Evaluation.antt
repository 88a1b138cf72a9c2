-- Evaluation at a point is a homomorphism on the polynomials of bounded degree, whatever the bound.
use mathlib.Core.Path.{◌≡◌, refl, sym, ◌∙◌, ap, ap₂}
use mathlib.Core.List.{List, [], ◌∷◌}
use lib.ListN.{length}
use Prim.Native.Nat.{ℕ, zero, suc, ◌≤◌, ◌<◌}
use Prim.Native.Nat
use native.Mathlib.Omega.{arith}
use Rattle.algebra.specs.Ring.{CommRing, zero_add, mul_zero, zero_mul, mul_one}
use Rattle.algebra.specs.Solver.{ring1, ring2, ring3, ring4, ring5, :0, ◌:+◌, ◌:*◌, ◌:-◌, :-◌, ◌:≡◌}
use Rattle.algebra.specs.Series.{Series, tail, constant, X, x_minus, plus_x, series}
use Rattle.algebra.proofs.Coefficients.{one_constant, constant_at_zero, constant_mul_at}
use Rattle.algebra.proofs.Linear.{XMulAtZero, tail_X_mul, mul_head_tail}
use Rattle.algebra.specs.Degree.{Below}
use Rattle.algebra.specs.Evaluation.{eval, horner, from_list}
use Rattle.algebra.specs.Homomorphism.{Homomorphism}
use Rattle.algebra.proofs.Degree.{below_tail, below_mul, below_constant, below_x_minus, zero_of_below}
use Rattle.algebra.proofs.Homomorphism.{keeps_zero}

module _ {K : Type 0} (R : CommRing K) where
  open R use {zero as 𝟘, one as 𝟙, add as ◌+◌, mul as ◌*◌, neg as -◌}
  open series R use {zero as 𝟎, one as 𝟏, add as ◌⊕◌, mul as ◌⊗◌, neg as ⊖◌}

  infixl 65 ◌+◌
  infixl 70 ◌*◌
  infix 75 -◌
  infixl 65 ◌⊕◌
  infixl 70 ◌⊗◌
  infix 75 ⊖◌
  -- the value depends on the first d coefficients alone
  pub eval_cong : (d : ℕ) (f g : Series K) (a : K)
      → ((n : ℕ) → n < d → f n ≡ g n)
      → eval R d f a ≡ eval R d g a
  eval_cong zero f g a e = refl
  eval_cong (suc d) f g a e =
      ap₂ (λ x y. x + a * y) (e 0 (omega arith)) (eval_cong d (tail f) (tail g) a (λ n h. e (suc n) (omega arith)))

  pub eval_zero : (d : ℕ) (a : K) → eval R d 𝟎 a ≡ 𝟘
  unfolding series
  eval_zero zero a = refl
  eval_zero (suc d) a = ap (λ x. 𝟘 + a * x) (eval_zero d a) ∙ ring1 R (λ a. :0 :+ a :* :0 :≡ :0) tt a

  pub eval_add : (d : ℕ) (f g : Series K) (a : K) → eval R d (f ⊕ g) a ≡ eval R d f a + eval R d g a
  unfolding series
  eval_add zero f g a = sym (R.add_zero 𝟘)
  eval_add (suc d) f g a =
      ap (λ x. f 0 + g 0 + a * x) (eval_add d (tail f) (tail g) a)
      ∙ ring5 R (λ f g a p q. f :+ g :+ a :* (p :+ q) :≡ (f :+ a :* p) :+ (g :+ a :* q)) tt _ _ _ _ _

  pub eval_neg : (d : ℕ) (f : Series K) (a : K) → eval R d (⊖ f) a ≡ - eval R d f a
  unfolding series
  eval_neg zero f a = ring1 R (λ a. :0 :≡ :- :0) tt a
  eval_neg (suc d) f a =
      ap (λ x. - f 0 + a * x) (eval_neg d (tail f) a)
      ∙ ring3 R (λ f a p. :- f :+ a :* :- p :≡ :- (f :+ a :* p)) tt _ _ _

  pub eval_multiple : (d : ℕ) (c : K) (f : Series K) (a : K) → eval R d (constant R c ⊗ f) a ≡ c * eval R d f a
  eval_multiple d c f a = eval_cong d _ (λ n. c * f n) a (λ n h. constant_mul_at R c f n) ∙ each d f
    where
      each : (d : ℕ) (f : Series K) → eval R d (λ n. c * f n) a ≡ c * eval R d f a
      each zero f = sym (mul_zero R c)
      each (suc d) f =
          ap (λ x. c * f 0 + a * x) (each d (tail f))
          ∙ ring4 R (λ c f a p. c :* f :+ a :* (c :* p) :≡ c :* (f :+ a :* p)) tt _ _ _ _

  -- any bound of the degree gives the same value
  pub eval_bound : (d e : ℕ) (f : Series K) (a : K) → Below R d f → d ≤ e → eval R e f a ≡ eval R d f a
  eval_bound d zero f a b h = zero_bound d (omega arith)
    where
      zero_bound : (d : ℕ) → d ≤ 0 → 𝟘 ≡ eval R d f a
      zero_bound zero h = refl
      zero_bound (suc d) h = absurd (omega arith)
  eval_bound zero (suc e) f a b h =
      ap₂ (λ x y. x + a * y) (b 0 (omega arith)) (eval_bound zero e (tail f) a (λ n k. b (suc n) (omega arith)) (omega arith))
      ∙ ring1 R (λ a. :0 :+ a :* :0 :≡ :0) tt a
  eval_bound (suc d) (suc e) f a b h =
      ap (λ x. f 0 + a * x) (eval_bound d e (tail f) a (below_tail R b) (omega arith))

  pub eval_X_mul : (d : ℕ) (f : Series K) (a : K) → eval R (suc d) (X R ⊗ f) a ≡ a * eval R d f a
  eval_X_mul d f a =
      ap₂ (λ x g. x + a * eval R d g a) (XMulAtZero R f) (tail_X_mul R f) ∙ zero_add R _

  product_value : (c d e : ℕ) (f g : Series K) (a : K)
      → Nat.◌+◌ d e ≤ c
      → Below R d f
      → Below R e g
      → eval R c (f ⊗ g) a ≡ eval R d f a * eval R e g a
  product_value c zero e f g a h b b' =
      ap (λ k. eval R c (k ⊗ g) a) (zero_of_below R f b)
      ∙ ap (λ k. eval R c k a) (zero_mul (series R) g)
      ∙ eval_zero c a
      ∙ sym (zero_mul R (eval R e g a))
  product_value zero (suc d) e f g a h b b' = absurd (omega arith)
  product_value (suc c) (suc d) e f g a h b b' =
      ap (λ k. eval R (suc c) k a) (mul_head_tail R f g)
      ∙ eval_add (suc c) (constant R (f 0) ⊗ g) (X R ⊗ (tail f ⊗ g)) a
      ∙ ap₂
      ◌+◌
      (eval_multiple (suc c) (f 0) g a ∙ ap (λ x. f 0 * x) (eval_bound e (suc c) g a b' (omega arith)))
      (eval_X_mul c (tail f ⊗ g) a
      ∙ ap (λ x. a * x) (product_value c d e (tail f) g a (omega arith) (below_tail R b) b'))
      ∙ ring4 R (λ f g a p. f :* g :+ a :* (p :* g) :≡ (f :+ a :* p) :* g) tt _ _ _ _

  -- the value of a product is the product of the values
  pub eval_mul : (c d e : ℕ) (f g : Series K) (a : K)
      → Nat.◌+◌ d e ≤ suc c
      → Below R d f
      → Below R e g
      → eval R c (f ⊗ g) a ≡ eval R d f a * eval R e g a
  eval_mul c d e f g a h b b' =
      sym (eval_bound c (suc c) (f ⊗ g) a (below_mul R h b b') (omega arith))
      ∙ product_value (suc c) d e f g a h b b'

  pub eval_constant : (d : ℕ) (c a : K) → eval R (suc d) (constant R c) a ≡ c
  eval_constant d c a =
      eval_bound 1 (suc d) (constant R c) a (below_constant R c) (omega arith)
      ∙ ap (λ x. x + a * 𝟘) (constant_at_zero R c)
      ∙ ring2 R (λ c a. c :+ a :* :0 :≡ c) tt c a

  pub eval_one : (d : ℕ) (a : K) → eval R (suc d) 𝟏 a ≡ 𝟙
  eval_one d a = ap (λ f. eval R (suc d) f a) (one_constant R) ∙ eval_constant d 𝟙 a

  pub eval_X : (d : ℕ) (a : K) → eval R (suc (suc d)) (X R) a ≡ a
  eval_X d a =
      ap (λ f. eval R (suc (suc d)) f a) (sym (mul_one (series R) (X R)))
      ∙ eval_X_mul (suc d) 𝟏 a
      ∙ ap (λ x. a * x) (eval_one d a)
      ∙ mul_one R a

  pub eval_x_minus : (d : ℕ) (b a : K) → eval R (suc (suc d)) (x_minus R b) a ≡ a + - b
  eval_x_minus d b a =
      eval_add (suc (suc d)) (X R) (⊖ constant R b) a
      ∙ ap₂ ◌+◌ (eval_X d a) (eval_neg (suc (suc d)) (constant R b) a ∙ ap -◌ (eval_constant (suc d) b a))

  pub eval_plus_x : (d : ℕ) (b a : K) → eval R (suc (suc d)) (plus_x R b) a ≡ b + a
  eval_plus_x d b a =
      eval_add (suc (suc d)) (constant R b) (X R) a ∙ ap₂ ◌+◌ (eval_constant (suc d) b a) (eval_X d a)

  pub eval_x_minus_mul : (d : ℕ) (b : K) (f : Series K) (a : K)
      → Below R d f
      → eval R (suc d) (x_minus R b ⊗ f) a ≡ (a + - b) * eval R d f a
  eval_x_minus_mul d b f a h =
      eval_mul (suc d) 2 d (x_minus R b) f a (omega arith) (below_x_minus R b) h
      ∙ ap (λ x. x * eval R d f a) (eval_x_minus 0 b a)

  pub below_from_list : (cs : List K) → Below R (length cs) (from_list R cs)
  below_from_list [] n h = refl
  below_from_list (c ∷ cs) zero h = absurd (omega arith)
  below_from_list (c ∷ cs) (suc n) h = below_from_list cs n (omega arith)

  pub horner_eval : (cs : List K) (a : K) → horner R cs a ≡ eval R (length cs) (from_list R cs) a
  horner_eval [] a = refl
  horner_eval (c ∷ cs) a = ap (λ x. c + a * x) (horner_eval cs a)

-- a homomorphism takes values to values
module _ {K L : Type 0} (R : CommRing K) (S : CommRing L) (φ : K → L) (hom : Homomorphism R S φ) where
  pub eval_image : (d : ℕ) (f : Series K) (a : K) → φ (eval R d f a) ≡ eval S d (λ n. φ (f n)) (φ a)
  eval_image zero f a = keeps_zero R S φ hom
  eval_image (suc d) f a =
      hom.keeps_add _ _
      ∙ ap (S.add (φ (f 0))) (hom.keeps_mul _ _ ∙ ap (S.mul (φ a)) (eval_image d (tail f) a))

  pub below_image : {d : ℕ} {f : Series K} → Below R d f → Below S d (λ n. φ (f n))
  below_image b n h = ap φ (b n h) ∙ keeps_zero R S φ hom
