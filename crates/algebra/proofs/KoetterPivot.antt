-- The pivot is found by going through the rows once, and so there is a step for every condition.
use mathlib.Core.Path.{◌≡◌, refl, sym, subst}
use mathlib.Core.List.{List, [], ◌∷◌}
use mathlib.Core.Logic.{◌⊎◌, inl, inr}
use Prim.Native.Nat.{ℕ, zero, suc, ◌≤◌, ◌<◌}
use native.Mathlib.Omega.{arith}
use native.Mathlib.Decide.{dec_lt, ℕ_discrete}
use Rattle.algebra.specs.Ring.{CommRing, Field}
use Rattle.algebra.specs.Series.{x_minus}
use Rattle.algebra.specs.Bivariate.{Bivariate, scale}
use Rattle.algebra.specs.Conditions.{Condition, discrepancy}
use Rattle.algebra.specs.Koetter.{State, Live, AtMost, less, Step, Steps}

-- what holds below n and at n holds below n + 1
upto : {T : ℕ → Type 0} (n : ℕ) → ((j : ℕ) → j < n → T j) → T n → (j : ℕ) → j < suc n → T j
upto {T} n h k j i = go (ℕ_discrete j n)
  where
    go : Dec (j ≡ n) → T j
    go (yes e) = subst T (sym e) k
    go (no e) = h j (omega arith)

module _ {K : Type 0} (F : Field K) (D l : ℕ) (c : Condition K) (st : State K) where
  abbrev R : CommRing K
  R = F.ring

  -- the discrepancy of row j
  abbrev pub Δ : ℕ → K
  Δ j = discrepancy R D l (st.rows j) c

  -- p is the pivot among the rows below n
  pub record Leads (n p : ℕ) : Type 0 where
    pub under : p < n
    pub live : Live D l st p
    pub fails : Δ p ≡ R.zero → ⊥
    pub least : (j : ℕ) → j < n → Live D l st j → (Δ j ≡ R.zero → ⊥) → AtMost (st.degrees p) p (st.degrees j) j

  -- of the rows below n every live one meets the condition
  abbrev pub NoneFails : ℕ → Type 0
  NoneFails n = (j : ℕ) → j < n → Live D l st j → Δ j ≡ R.zero

  pub none_yet : NoneFails 0
  none_yet j h = absurd (omega arith)

  -- row n is not live or meets the condition
  pub none_more : (n : ℕ) → NoneFails n → (Live D l st n → Δ n ≡ R.zero) → NoneFails (suc n)
  none_more n h k = upto {T = λ j. Live D l st j → Δ j ≡ R.zero} n h k

  -- row n is the first that fails
  pub leads_first : (n : ℕ) → NoneFails n → Live D l st n → (Δ n ≡ R.zero → ⊥) → Leads (suc n) n
  leads_first n h k f =
      record {
        under = omega arith;
        live = k;
        fails = f;
        least = upto {T = λ j. Live D l st j → (Δ j ≡ R.zero → ⊥) → AtMost (st.degrees n) n (st.degrees j) j} n (λ j i a b. absurd (b (h j i a))) (λ a b. omega arith);
      }

  -- row n has a lower degree
  pub leads_lower : (n p : ℕ) → Leads n p → Live D l st n → (Δ n ≡ R.zero → ⊥) → st.degrees n < st.degrees p → Leads (suc n) n
  leads_lower n p h k f g =
      record {
        under = omega arith;
        live = k;
        fails = f;
        least = upto
            {T = λ j. Live D l st j → (Δ j ≡ R.zero → ⊥) → AtMost (st.degrees n) n (st.degrees j) j}
            n
            (λ j i a b. let t : st.degrees p ≤ st.degrees j = (h.least j i a b).0 in (omega arith, λ e. absurd (omega arith)))
            (λ a b. omega arith);
      }

  -- row n is not live, meets the condition, or has no lower degree
  pub leads_still : (n p : ℕ) → Leads n p → (Live D l st n → (Δ n ≡ R.zero → ⊥) → st.degrees p ≤ st.degrees n) → Leads (suc n) p
  leads_still n p h k =
      record {
        under = let t : p < n = h.under in omega arith;
        live = h.live;
        fails = h.fails;
        least = upto
            {T = λ j. Live D l st j → (Δ j ≡ R.zero → ⊥) → AtMost (st.degrees p) p (st.degrees j) j}
            n
            h.least
            (λ a b. (k a b, λ e. let t : p < n = h.under in omega arith));
      }

  scan : (n : ℕ) → n ≤ l → NoneFails n ⊎ ((p : ℕ) × Leads n p)
  scan zero h = inl none_yet
  scan (suc n) h = go (scan n (omega arith)) (dec_lt (st.degrees n) D) (F.decide (Δ n) R.zero)
    where
      go : NoneFails n ⊎ ((p : ℕ) × Leads n p)
          → Dec (st.degrees n < D)
          → Dec (Δ n ≡ R.zero)
          → NoneFails (suc n) ⊎ ((p : ℕ) × Leads (suc n) p)
      go (inl k) (no a) b = inl (none_more n k (λ i. absurd (a i.1)))
      go (inl k) (yes a) (yes b) = inl (none_more n k (λ i. b))
      go (inl k) (yes a) (no b) = inr (n, leads_first n k (h, a) b)
      go (inr k) (no a) b = inr (k.0, leads_still n k.0 k.1 (λ i f. absurd (a i.1)))
      go (inr k) (yes a) (yes b) = inr (k.0, leads_still n k.0 k.1 (λ i f. absurd (f b)))
      go (inr k) (yes a) (no b) = compare (dec_lt (st.degrees n) (st.degrees k.0))
        where
          compare : Dec (st.degrees n < st.degrees k.0) → NoneFails (suc n) ⊎ ((p : ℕ) × Leads (suc n) p)
          compare (yes g) = inr (n, leads_lower n k.0 k.1 (h, a) b g)
          compare (no g) = inr (k.0, leads_still n k.0 k.1 (λ i f. omega arith))

  -- the rows and degrees after a step with the pivot p
  abbrev next_row : (p j : ℕ) → Dec (j ≡ p) → Bivariate K
  next_row p j (yes e) = scale R (x_minus R c.abscissa) (st.rows j)
  next_row p j (no e) = less R (st.rows j) (R.mul (Δ j) (F.inv (Δ p))) (st.rows p)

  abbrev next_degree : (p j : ℕ) → Dec (j ≡ p) → ℕ
  next_degree p j (yes e) = suc (st.degrees j)
  next_degree p j (no e) = st.degrees j

  -- for every condition there is a step
  pub step_exists : (st' : State K) × Step F D l c st st'
  step_exists = go (scan l (omega arith))
    where
      go : NoneFails l ⊎ ((p : ℕ) × Leads l p) → (st' : State K) × Step F D l c st st'
      go (inl h) = (st, inl (record { met = λ j k. h j k.0 k; row = λ j k. refl; degree = λ j k. refl }))
      go (inr h) = (
        record { rows = λ j. next_row p j (ℕ_discrete j p); degrees = λ j. next_degree p j (ℕ_discrete j p) },
        inr (
          p,
          record {
            live = h.1.live;
            fails = h.1.fails;
            least = λ j k f. h.1.least j k.0 k f;
            row = λ j k ne. other_row j ne (ℕ_discrete j p);
            degree = λ j k ne. other_degree j ne (ℕ_discrete j p);
            pivot_row = λ k. own_row (ℕ_discrete p p);
            pivot_degree = own_degree (ℕ_discrete p p);
          },
        ),
      )
        where
          p : ℕ
          p = h.0

          other_row : (j : ℕ)
              → (j ≡ p → ⊥)
              → (d : Dec (j ≡ p))
              → next_row p j d ≡ less R (st.rows j) (R.mul (Δ j) (F.inv (Δ p))) (st.rows p)
          other_row j ne (yes e) = absurd (ne e)
          other_row j ne (no e) = refl

          other_degree : (j : ℕ) → (j ≡ p → ⊥) → (d : Dec (j ≡ p)) → next_degree p j d ≡ st.degrees j
          other_degree j ne (yes e) = absurd (ne e)
          other_degree j ne (no e) = refl

          own_row : (d : Dec (p ≡ p)) → next_row p p d ≡ scale R (x_minus R c.abscissa) (st.rows p)
          own_row (yes e) = refl
          own_row (no e) = absurd (e refl)

          own_degree : (d : Dec (p ≡ p)) → next_degree p p d ≡ suc (st.degrees p)
          own_degree (yes e) = refl
          own_degree (no e) = absurd (e refl)

-- and a run of steps over every list of conditions
pub steps_exist : {K : Type 0} (F : Field K) (D l : ℕ) (cs : List (Condition K)) (st : State K) → (st' : State K) × Steps F D l cs st st'
steps_exist F D l [] st = (st, refl)
steps_exist {K} F D l (c ∷ cs) st =
    let a : (via : State K) × Step F D l c st via = step_exists F D l c st in
    let b : (st' : State K) × Steps F D l cs a.0 st' = steps_exist F D l cs a.0 in
    (b.0, (a.0, a.1, b.1))
