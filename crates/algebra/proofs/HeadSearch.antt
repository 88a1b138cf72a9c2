-- The head of a polynomial is found by going down the monomials in their order.
use mathlib.Core.Path.{◌≡◌, sym, ◌∙◌, ap, ap₂, fun_ext}
use mathlib.Core.Logic.{◌⊎◌, inl, inr}
use Prim.Native.Nat.{ℕ, zero, suc, ◌+◌, ◌*◌, ◌-◌, ◌≤◌, ◌<◌}
use native.Mathlib.Omega.{arith}
use native.Mathlib.Decide.{dec_le, ℕ_discrete}
use Rattle.algebra.specs.Ring.{CommRing, Field}
use Rattle.algebra.specs.Series.{series}
use Rattle.algebra.proofs.Coefficients.{zero_at}
use Rattle.algebra.specs.Degree.{Below}
use Rattle.algebra.specs.Bivariate.{Bivariate, Weighted}
use Rattle.algebra.specs.Koetter.{AtMost, Before, Head}
use Rattle.algebra.proofs.Head.{at_most_trans}

-- induction along the lexicographic order of the pairs (e, j) with j at most l
module _ (l : ℕ) (T : ℕ → ℕ → Type 0) where
  rise : (e : ℕ) → ((j : ℕ) → j < l → T e j → T e (suc j)) → T e 0 → (j : ℕ) → j ≤ l → T e j
  rise e across t zero h = t
  rise e across t (suc j) h = across j h (rise e across t j (omega arith))

  first : T 0 0 → ((e : ℕ) → T e l → T (suc e) 0) → ((e j : ℕ) → j < l → T e j → T e (suc j)) → (e : ℕ) → T e 0
  first base down across zero = base
  first base down across (suc e) = down e (rise e (across e) (first base down across e) l (omega arith))

  pub lexicographic : T 0 0
      → ((e : ℕ) → T e l → T (suc e) 0)
      → ((e j : ℕ) → j < l → T e j → T e (suc j))
      → (e j : ℕ)
      → j ≤ l
      → T e j
  lexicographic base down across e j h = rise e (across e) (first base down across e) j h

module _ {K : Type 0} (R : CommRing K) where
  -- no monomial stands before (0, 0)
  pub before_none : (s : ℕ) (Q : Bivariate K) → Before R s 0 0 Q → Q ≡ (series (series R)).zero
  before_none s Q w =
      fun_ext
      (λ c.
      fun_ext (λ i. w c i (omega arith) ∙ sym (ap (λ f. f i) (zero_at (series R) c) ∙ zero_at R i)))

  pub weighted_before : (s e : ℕ) (Q : Bivariate K) → Weighted R s e Q → Before R s e 0 Q
  weighted_before s e Q w c i h = w c i h.0

  -- of weighted degree e there are the powers of y below l
  pub before_down : (s l e : ℕ) (Q : Bivariate K) → Below (series R) l Q → Before R s (suc e) 0 Q → Before R s e l Q
  before_down s l e Q b w c i h = go (dec_le l c)
    where
      go : Dec (l ≤ c) → Q c i ≡ R.zero
      go (yes k) = ap (λ f. f i) (b c k) ∙ zero_at R i
      go (no k) = w c i (strict (ℕ_discrete e (i + s * c)), λ q. omega arith)
        where
          strict : Dec (e ≡ i + s * c) → suc e ≤ i + s * c
          strict (yes q) = absurd (k (h.1 q))
          strict (no q) = omega arith

  -- one monomial less
  pub before_across : (s e j : ℕ) (Q : Bivariate K)
      → Before R s e (suc j) Q
      → (s * j ≤ e → Q j (e - s * j) ≡ R.zero)
      → Before R s e j Q
  before_across s e j Q w z c i h = go (ℕ_discrete c j) (ℕ_discrete e (i + s * c))
    where
      go : Dec (c ≡ j) → Dec (e ≡ i + s * c) → Q c i ≡ R.zero
      go (yes p) (yes q) =
          let t : e ≡ i + s * j = q ∙ ap (λ x. i + s * x) p in
          let n : i ≡ e - s * j = omega arith in
          ap₂ Q p n ∙ z (omega arith)
      go (yes p) (no q) = w c i (h.0, λ t. absurd (q t))
      go (no p) (yes q) = let t : j ≤ c = h.1 q in w c i (h.0, λ _. omega arith)
      go (no p) (no q) = w c i (h.0, λ t. absurd (q t))

module _ {K : Type 0} (F : Field K) where
  abbrev R : CommRing K
  R = F.ring

  -- a head before (e, j)
  abbrev Found : ℕ → Bivariate K → ℕ → ℕ → Type 0
  Found s Q e j = (Q ≡ (series (series R)).zero) ⊎ ((d i : ℕ) × AtMost d (suc i) e j × Head R s d i Q)

  found_weaken : (s : ℕ) (Q : Bivariate K) (a i b j : ℕ) → AtMost a i b j → Found s Q a i → Found s Q b j
  found_weaken s Q a i b j h (inl z) = inl z
  found_weaken s Q a i b j h (inr f) = inr (f.0, f.1, at_most_trans f.0 (suc f.1) a i b j f.2 h, f.3)

  find : (s l : ℕ) (Q : Bivariate K) → Below (series R) l Q → (e j : ℕ) → j ≤ l → Before R s e j Q → Found s Q e j
  find s l Q b = lexicographic l (λ e j. Before R s e j Q → Found s Q e j) base down across
    where
      base : Before R s 0 0 Q → Found s Q 0 0
      base w = inl (before_none R s Q w)

      down : (e : ℕ) → (Before R s e l Q → Found s Q e l) → Before R s (suc e) 0 Q → Found s Q (suc e) 0
      down e ih w =
          found_weaken s Q e l (suc e) 0 (omega arith, λ q. absurd (omega arith)) (ih (before_down R s l e Q b w))

      across : (e j : ℕ)
          → j < l
          → (Before R s e j Q → Found s Q e j)
          → Before R s e (suc j) Q
          → Found s Q e (suc j)
      across e j h ih w = go (dec_le (s * j) e) (F.decide (Q j (e - s * j)) R.zero)
        where
          less_one : ((s * j ≤ e) → Q j (e - s * j) ≡ R.zero) → Found s Q e (suc j)
          less_one z = found_weaken s Q e j e (suc j) (omega arith) (ih (before_across R s e j Q w z))

          go : Dec (s * j ≤ e) → Dec (Q j (e - s * j) ≡ R.zero) → Found s Q e (suc j)
          go (no k) d = less_one (λ i. absurd (k i))
          go (yes k) (yes z) = less_one (λ i. z)
          go (yes k) (no z) = inr (e, j, omega arith, record { fits = k; leads = z; rest = w })

  -- a polynomial of weighted degree below e that is not zero has a head of weighted degree below e
  pub find_head : (s l e : ℕ) (Q : Bivariate K)
      → Below (series R) l Q
      → Weighted R s e Q
      → (Q ≡ (series (series R)).zero → ⊥)
      → (d j : ℕ) × (d < e) × Head R s d j Q
  find_head s l e Q b w h = go (find s l Q b e 0 (omega arith) (weighted_before R s e Q w))
    where
      go : Found s Q e 0 → (d j : ℕ) × (d < e) × Head R s d j Q
      go (inl z) = absurd (h z)
      go (inr f) = (f.0, f.1, strict (ℕ_discrete f.0 e), f.3)
        where
          strict : Dec (f.0 ≡ e) → f.0 < e
          strict (yes q) = let t : suc f.1 ≤ 0 = f.2.1 q in absurd (omega arith)
          strict (no q) = let t : f.0 ≤ e = f.2.0 in omega arith
