-- Polynomials in x and y with some bound of the degree in x that vanish at a point: sums, multiples and products.
use mathlib.Core.Path.{sym, ◌∙◌, ap, subst}
use Prim.Native.Nat.{ℕ, zero, suc, ◌≤◌, ◌<◌}
use Prim.Native.Nat
use native.Mathlib.Omega.{arith}
use Rattle.algebra.specs.Ring.{CommRing}
use Rattle.algebra.specs.Series.{Series, tail, series}
use Rattle.algebra.proofs.Coefficients.{zero_at}
use Rattle.algebra.specs.Degree.{Below}
use Rattle.algebra.specs.Sum.{sum}
use Rattle.algebra.specs.Order.{Order}
use Rattle.algebra.specs.Bivariate.{Bivariate, scale, Multiplicity}
use Rattle.algebra.proofs.Degree.{below_zero, below_add, below_mul, below_weaken}
use Rattle.algebra.proofs.LocalExpansion.{local_bound_y}
use Rattle.algebra.proofs.Multiplicity.{multiplicity_add, multiplicity_scale, multiplicity_mul}
use Rattle.algebra.proofs.MultiplicityBounds.{multiplicity_bound, multiplicity_bound_y, multiplicity_order, below_product, below_sum_of, below_scale_y}

module _ {K : Type 0} (R : CommRing K) where
  open series (series R) use {zero as 𝟬, add as ◌⊞◌, mul as ◌⊠◌}

  infixl 65 ◌⊞◌
  infixl 70 ◌⊠◌
  module _ (a b : K) where
    -- Q has degree below l in y, some degree in x, and multiplicity m at (a, b)
    abbrev pub Meets : ℕ → ℕ → Bivariate K → Type 0
    Meets m l Q = (d : ℕ) × ((c : ℕ) → Below R d (Q c)) × Below (series R) l Q × Multiplicity R a b m d l Q

    pub meets_at : {m l : ℕ} {Q : Bivariate K} (d : ℕ)
        → ((c : ℕ) → Below R d (Q c))
        → Meets m l Q
        → Multiplicity R a b m d l Q
    meets_at {m} {l} {Q} d bd q = multiplicity_bound R a b m q.0 d l Q q.1 bd q.3

    pub meets_weaken : {m k l : ℕ} {Q : Bivariate K} → k ≤ l → Meets m k Q → Meets m l Q
    meets_weaken {m} {k} {l} {Q} h q = (
      q.0,
      q.1,
      below_weaken (series R) h q.2,
      multiplicity_bound_y R a b m q.0 k l Q q.2 h q.3,
    )

    pub meets_zero : (m l : ℕ) → Meets m l 𝟬
    meets_zero m l = (
      0,
      zeros,
      below_zero (series R) l,
      λ u r h.
          ap (λ L. L u r) (local_bound_y R 0 0 l 𝟬 a b (below_zero (series R) 0) (omega arith))
          ∙ ap (λ f. f r) (zero_at (series R) u)
          ∙ zero_at R r,
    )
      where
        zeros : (c : ℕ) → Below R 0 (𝟬 c)
        zeros c = subst (Below R 0) (sym (zero_at (series R) c)) (below_zero R 0)

    pub meets_add : {m l : ℕ} {P Q : Bivariate K} → Meets m l P → Meets m l Q → Meets m l (P ⊞ Q)
    meets_add {m} {l} {P} {Q} p q =
        let d : ℕ = Nat.◌+◌ p.0 q.0 in
        let bP : (c : ℕ) → Below R d (P c) = λ c. below_weaken R (omega arith) (p.1 c) in
        let bQ : (c : ℕ) → Below R d (Q c) = λ c. below_weaken R (omega arith) (q.1 c) in (
          d,
          below_sum_of R d P Q bP bQ,
          below_add (series R) p.2 q.2,
          multiplicity_add R a b m d l P Q (meets_at d bP p) (meets_at d bQ q),
        )

    -- a multiple by a polynomial in x
    pub meets_scale : {m l : ℕ} {Q : Bivariate K} (e : ℕ) (g : Series K)
        → Below R e g
        → Meets m l Q
        → Meets m l (scale R g Q)
    meets_scale {m} {l} {Q} e g bg q = (
      Nat.◌+◌ e q.0,
      λ c. below_mul R (omega arith) bg (q.1 c),
      below_scale_y R g Q q.2,
      multiplicity_scale R a b m (Nat.◌+◌ e q.0) e q.0 l g Q (omega arith) bg q.1 q.3,
    )

    -- a multiple by a polynomial in x that vanishes at a
    pub meets_order : {n l : ℕ} {Q : Bivariate K} (m e : ℕ) (g : Series K)
        → Below R e g
        → Order R a m e g
        → Meets n l Q
        → Meets m l (scale R g Q)
    meets_order {n} {l} {Q} m e g bg o q = (
      Nat.◌+◌ e q.0,
      λ c. below_mul R (omega arith) bg (q.1 c),
      below_scale_y R g Q q.2,
      multiplicity_order R a b m (Nat.◌+◌ e q.0) e q.0 l g Q (omega arith) bg q.1 o,
    )

    pub meets_mul : {m n l k : ℕ} {P Q : Bivariate K} (j : ℕ)
        → Nat.◌+◌ l k ≤ suc j
        → Meets m l P
        → Meets n k Q
        → Meets (Nat.◌+◌ m n) j (P ⊠ Q)
    meets_mul {m} {n} {l} {k} {P} {Q} j h p q =
        let d : ℕ = Nat.◌+◌ p.0 q.0 in (
          d,
          below_product R d p.0 q.0 P Q (omega arith) p.1 q.1,
          below_mul (series R) h p.2 q.2,
          multiplicity_mul R a b m n d p.0 q.0 j l k P Q (omega arith) h p.1 q.1 p.2 q.2 p.3 q.3,
        )

    pub meets_sum : {m l : ℕ} (n : ℕ) (P : ℕ → Bivariate K)
        → ((i : ℕ) → i < n → Meets m l (P i))
        → Meets m l (sum (series (series R)) n P)
    meets_sum {m} {l} zero P p = meets_zero m l
    meets_sum (suc n) P p = meets_add (p 0 (omega arith)) (meets_sum n (tail P) (λ i h. p (suc i) (omega arith)))
