-- Leading monomials in the order of weighted degree, then of the power of y: of differences and of multiples by x − a.
use mathlib.Core.Path.{◌≡◌, sym, ◌∙◌, ap, ap₂, fun_ext}
use Prim.Native.Nat.{ℕ, zero, suc, ◌≤◌, ◌<◌, ◌-◌}
use Prim.Native.Nat
use native.Mathlib.Omega.{arith}
use native.Mathlib.Decide.{dec_le}
use Rattle.algebra.specs.Ring.{CommRing}
use Rattle.algebra.specs.Ring
use Rattle.algebra.specs.Solver.{ring1, ring2, :0, ◌:*◌, ◌:-◌, :-◌, ◌:≡◌}
use Rattle.algebra.specs.Series.{Series, constant, x_minus, series}
use Rattle.algebra.proofs.Coefficients.{zero_at, add_at, neg_at, constant_mul_at}
use Rattle.algebra.proofs.Linear.{x_minus_mul_at_zero, x_minus_mul_at_suc}
use Rattle.algebra.specs.Degree.{Below}
use Rattle.algebra.specs.Bivariate.{Bivariate, Weighted, scale}
use Rattle.algebra.specs.Koetter.{AtMost, Before, Head, less}
use Rattle.algebra.proofs.Degree.{below_sub}

pub at_most_trans : (a i b j c k : ℕ) → AtMost a i b j → AtMost b j c k → AtMost a i c k
at_most_trans a i b j c k h g = (omega arith, λ e. go (omega arith) (omega arith))
  where
    go : a ≡ b → b ≡ c → i ≤ k
    go e f = let x : i ≤ j = h.1 e in let y : j ≤ k = g.1 f in omega arith

module _ {K : Type 0} (R : CommRing K) where
  open R use {zero as 𝟘, one as 𝟙, add as ◌+◌, mul as ◌*◌, neg as -◌}

  infixl 65 ◌+◌
  infixl 70 ◌*◌
  infix 75 -◌
  pub before_weaken : (s a i b j : ℕ) (Q : Bivariate K) → AtMost a i b j → Before R s a i Q → Before R s b j Q
  before_weaken s a i b j Q h w c x g = w c x (at_most_trans a i b j (Nat.◌+◌ x (Nat.◌*◌ s c)) c h g)

  pub before_weighted : (s e j : ℕ) (Q : Bivariate K) → Before R s e j Q → Weighted R s (suc e) Q
  before_weighted s e j Q w c i h = w c i (omega arith, λ q. absurd (omega arith))

  pub head_weighted : (s D e j : ℕ) (Q : Bivariate K) → e < D → Head R s e j Q → Weighted R s D Q
  head_weighted s D e j Q h k c i g = k.rest c i (omega arith, λ q. absurd (omega arith))

  -- each coefficient of a power of y has degree at most e
  pub head_below : (s e j : ℕ) (Q : Bivariate K) → Before R s e j Q → (n : ℕ) → Below R (suc e) (Q n)
  head_below s e j Q w n i h = w n i (omega arith, λ q. absurd (omega arith))

  -- a polynomial with a head is not zero
  pub head_nonzero : (s e j : ℕ) (Q : Bivariate K) → Head R s e j Q → Q ≡ (series (series R)).zero → ⊥
  head_nonzero s e j Q h q =
      h.leads (ap (λ S. S j (e - Nat.◌*◌ s j)) q ∙ ap (λ f. f (e - Nat.◌*◌ s j)) (zero_at (series R) j) ∙ zero_at R (e - Nat.◌*◌ s j))

  -- the head of a polynomial of degree below l in y stands at a power of y below l
  pub head_narrow : (s l e j : ℕ) (Q : Bivariate K) → Below (series R) l Q → Head R s e j Q → j < l
  head_narrow s l e j Q b h = go (dec_le l j)
    where
      go : Dec (l ≤ j) → j < l
      go (yes k) = absurd (h.leads (ap (λ f. f (e - Nat.◌*◌ s j)) (b j k) ∙ zero_at R (e - Nat.◌*◌ s j)))
      go (no k) = omega arith

  -- P − k·Q, coefficient by coefficient
  pub less_at : (P : Bivariate K) (k : K) (Q : Bivariate K) (c i : ℕ) → less R P k Q c i ≡ P c i + - (k * Q c i)
  less_at P k Q c i =
      ap (λ f. f i) (add_at (series R) P ((series (series R)).neg (scale R (constant R k) Q)) c)
      ∙ add_at R (P c) ((series (series R)).neg (scale R (constant R k) Q) c) i
      ∙ ap
      (λ x. P c i + x)
      (ap (λ f. f i) (neg_at (series R) (scale R (constant R k) Q) c)
      ∙ neg_at R (scale R (constant R k) Q c) i
      ∙ ap -◌ (constant_mul_at R k (Q c) i))

  -- a row whose coefficients are those of P − k·Q is P − k·Q
  pub is_less : (S P : Bivariate K) (k : K) (Q : Bivariate K)
      → ((c i : ℕ) → S c i ≡ P c i + - (k * Q c i))
      → S ≡ less R P k Q
  is_less S P k Q h = fun_ext (λ c. fun_ext (λ i. h c i ∙ sym (less_at P k Q c i)))

  pub less_zero : (P Q : Bivariate K) → less R P 𝟘 Q ≡ P
  less_zero P Q = sym (is_less P P 𝟘 Q (λ c i. ring2 R (λ p q. p :≡ p :- :0 :* q) tt (P c i) (Q c i)))

  pub before_less : (s e j : ℕ) (P : Bivariate K) (k : K) (Q : Bivariate K)
      → Before R s e j P
      → Before R s e j Q
      → Before R s e j (less R P k Q)
  before_less s e j P k Q v w c i h =
      less_at P k Q c i ∙ ap₂ (λ x y. x + - (k * y)) (v c i h) (w c i h) ∙ ring1 R (λ k. :0 :- k :* :0 :≡ :0) tt k

  -- what stands before the head does not touch it
  pub head_less : (s e j : ℕ) (P : Bivariate K) (k : K) (Q : Bivariate K)
      → Head R s e j P
      → Before R s e j Q
      → Head R s e j (less R P k Q)
  head_less s e j P k Q h w =
      record {
        fits = h.fits;
        leads = λ q. h.leads (sym same ∙ q);
        rest = before_less s e (suc j) P k Q h.rest (before_weaken s e j e (suc j) Q (omega arith) w);
      }
    where
      n : ℕ
      n = e - Nat.◌*◌ s j

      same : less R P k Q j n ≡ P j n
      same =
          let g : Nat.◌*◌ s j ≤ e = h.fits in
          less_at P k Q j n
          ∙ ap (λ y. P j n + - (k * y)) (w j n (omega arith))
          ∙ ring2 R (λ p k. p :- k :* :0 :≡ p) tt (P j n) k

  -- a factor x − a raises the head by one
  pub head_x_minus : (s e j : ℕ) (a : K) (Q : Bivariate K) → Head R s e j Q → Head R s (suc e) j (scale R (x_minus R a) Q)
  head_x_minus s e j a Q h =
      record {
        fits = let g : Nat.◌*◌ s j ≤ e = h.fits in omega arith;
        leads = λ q. h.leads (sym same ∙ q);
        rest = rest;
      }
    where
      same : scale R (x_minus R a) Q j (suc e - Nat.◌*◌ s j) ≡ Q j (e - Nat.◌*◌ s j)
      same =
          let g : Nat.◌*◌ s j ≤ e = h.fits in
          let p : suc e - Nat.◌*◌ s j ≡ suc (e - Nat.◌*◌ s j) = omega arith in
          ap (scale R (x_minus R a) Q j) p
          ∙ x_minus_mul_at_suc R a (Q j) (e - Nat.◌*◌ s j)
          ∙ ap (λ y. Q j (e - Nat.◌*◌ s j) + - (a * y)) (h.rest j (suc (e - Nat.◌*◌ s j)) (omega arith, λ q. absurd (omega arith)))
          ∙ ring2 R (λ p a. p :- a :* :0 :≡ p) tt (Q j (e - Nat.◌*◌ s j)) a

      rest : Before R s (suc e) (suc j) (scale R (x_minus R a) Q)
      rest c zero k =
          x_minus_mul_at_zero R a (Q c)
          ∙ ap (λ x. - (a * x)) (h.rest c 0 (omega arith, λ q. absurd (omega arith)))
          ∙ ring1 R (λ a. :- (a :* :0) :≡ :0) tt a
      rest c (suc i) k =
          x_minus_mul_at_suc R a (Q c) i
          ∙ ap₂
          (λ x y. x + - (a * y))
          (h.rest c i (omega arith, λ q. k.1 (omega arith)))
          (h.rest c (suc i) (omega arith, λ q. absurd (omega arith)))
          ∙ ring1 R (λ a. :0 :- a :* :0 :≡ :0) tt a

  pub narrow_scale : (l : ℕ) (g : Series K) (Q : Bivariate K) → Below (series R) l Q → Below (series R) l (scale R g Q)
  narrow_scale l g Q b c h = ap ((series R).mul g) (b c h) ∙ Ring.mul_zero (series R) g

  pub narrow_less : (l : ℕ) (P : Bivariate K) (k : K) (Q : Bivariate K)
      → Below (series R) l P
      → Below (series R) l Q
      → Below (series R) l (less R P k Q)
  narrow_less l P k Q b c = below_sub (series R) b (narrow_scale l (constant R k) Q c)
