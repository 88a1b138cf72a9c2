-- The rows after the others are cleared by the pivot and the pivot is multiplied by x − a, one by one.
use Rattle.std.proofs.Common.{◌≡◌, ℕ, suc, ◌+◌, ◌*◌, ◌<◌, ◌≤◌, cond, eqb, ltb, ◌⊎◌, List, [], length, get_or, set, sym, refl, ap, ◌∙◌, inl, inr, mul_comm, arith, length-set, get_or-set_other, get_or-set_same}
use Rattle.std.proofs.lemmas.List.{get_or_past}
use Rattle.std.proofs.lemmas.Bool.{cases_lt, cond-false, ne_eqb}
use Rattle.field.specs.Meaning.{Meaning, product_of}
use Rattle.bivariate.specs.Combinations.{row_length, discrepancy_of, minus_polynomial_of, times_polynomial_of}
use Rattle.field.proofs.Making.{length_made, made_at}
use Rattle.bivariate.proofs.Parts.{pick_below, pick_above}
use Rattle.interpolation.specs.Rows.{inverse_or_zero, live_discrepancy_of, discrepancies_of, cleared_row_of, cleared_of, raised_of, reduced_of}
use Rattle.interpolation.proofs.Filling.{discrepancy_at, cleared_at, cleared_none}

-- past the length of row c the weighted degree is above e
pub past_length : (bound weight c i e : ℕ) → bound ≤ 256 → e < bound → row_length bound weight c ≤ i → e < i + weight * c
unfolding row_length
past_length bound weight c i e s h k =
    let q : weight * c ≡ c * weight = mul_comm weight c in
    let n : ℕ = c * weight in
    omega arith

-- one place before its length too, where e + 1 is below the bound
pub past_spare : (bound weight c i e : ℕ) → bound ≤ 256 → suc e < bound → row_length bound weight c ≤ suc i → e < i + weight * c
unfolding row_length
past_spare bound weight c i e s h k =
    let q : weight * c ≡ c * weight = mul_comm weight c in
    let n : ℕ = c * weight in
    omega arith

module _ (m : Meaning) (rows : List (List (List ℕ))) (degrees : List ℕ) (l bound weight a b u r : ℕ) where
  abbrev ds : List ℕ
  ds = discrepancies_of m rows degrees l bound weight a b u r

  -- the discrepancy of a live row
  pub live_at : (j : ℕ)
      → j < 8
      → j < l
      → get_or degrees j 0 < bound
      → get_or ds j 0 ≡ discrepancy_of m (get_or rows j []) l bound weight a b u r
  unfolding discrepancies_of live_discrepancy_of
  live_at j h k d =
      made_at (discrepancy_at m rows degrees l bound weight a b u r) 8 j 0 h
      ∙ pick_below j l (live_discrepancy_of m (get_or rows j []) (get_or degrees j 0) l bound weight a b u r) 0 k
      ∙ pick_below (get_or degrees j 0) bound (discrepancy_of m (get_or rows j []) l bound weight a b u r) 0 d

  -- other rows have the discrepancy 0
  pub dead_at : (j : ℕ) → j < 8 → ((j < l) → (get_or degrees j 0 < bound) → ⊥) → get_or ds j 0 ≡ 0
  unfolding discrepancies_of live_discrepancy_of
  dead_at j h dead = made_at (discrepancy_at m rows degrees l bound weight a b u r) 8 j 0 h ∙ go (cases_lt j l) (cases_lt (get_or degrees j 0) bound)
    where
      go : (j < l) ⊎ (l ≤ j) → (get_or degrees j 0 < bound) ⊎ (bound ≤ get_or degrees j 0) → discrepancy_at m rows degrees l bound weight a b u r j ≡ 0
      go (inl x) (inl y) = absurd (dead x y)
      go (inl x) (inr y) =
          pick_below j l (live_discrepancy_of m (get_or rows j []) (get_or degrees j 0) l bound weight a b u r) 0 x
          ∙ pick_above (get_or degrees j 0) bound (discrepancy_of m (get_or rows j []) l bound weight a b u r) 0 y
      go (inr x) y = pick_above j l (live_discrepancy_of m (get_or rows j []) (get_or degrees j 0) l bound weight a b u r) 0 x

  pub length_discrepancies : length ds ≡ 8
  unfolding discrepancies_of
  length_discrepancies = length_made (discrepancy_at m rows degrees l bound weight a b u r) 8

module _ (m : Meaning) (p : ℕ) (discrepancies degrees : List ℕ) (a l bound weight : ℕ) (rows : List (List (List ℕ))) (hp : p < 8) (long : length discrepancies ≡ 8) where
  abbrev source : List (List ℕ)
  source = get_or rows p []

  abbrev factor : ℕ
  factor = inverse_or_zero m (get_or discrepancies p 0)

  abbrev cleared : List (List (List ℕ))
  cleared = cleared_of m source factor l bound weight (set discrepancies p 0) rows

  abbrev reduced : List (List (List ℕ))
  reduced = reduced_of m p discrepancies degrees a l bound weight rows

  abbrev degree : ℕ
  degree = get_or degrees p 0 + 1

  abbrev product : List (List ℕ)
  product = times_polynomial_of m a l bound weight (get_or cleared p [])

  long_cleared : length cleared ≡ 8
  unfolding cleared_of
  long_cleared = length_made (cleared_at m source factor l bound weight (set discrepancies p 0) rows) 8

  cleared_row : (j : ℕ) → j < 8 → get_or cleared j [] ≡ cleared_row_of m source factor l bound weight (get_or (set discrepancies p 0) j 0) (get_or rows j [])
  unfolding cleared_of
  cleared_row j h = made_at (cleared_at m source factor l bound weight (set discrepancies p 0) rows) 8 j [] h

  -- the pivot is not cleared
  cleared_pivot : get_or cleared p [] ≡ source
  cleared_pivot =
      cleared_row p hp
      ∙ sym
      (cleared_none
      m
      source
      factor
      l
      bound
      weight
      (get_or (set discrepancies p 0) p 0)
      source
      (get_or-set_same discrepancies p 0 0 (omega arith)))

  raised : reduced ≡ cond (ltb degree bound) (set cleared p product) cleared
  unfolding reduced_of raised_of
  raised = refl

  -- the other rows
  pub reduced_other : (j : ℕ) → j < 8 → (j ≡ p → ⊥) → get_or reduced j [] ≡ cleared_row_of m source factor l bound weight (get_or discrepancies j 0) (get_or rows j [])
  reduced_other j h ne =
      ap (λ x. get_or x j []) raised
      ∙ go (cases_lt degree bound)
      ∙ cleared_row j h
      ∙ ap (λ d. cleared_row_of m source factor l bound weight d (get_or rows j [])) (get_or-set_other discrepancies p j 0 0 ne)
    where
      go : (degree < bound) ⊎ (bound ≤ degree) → get_or (cond (ltb degree bound) (set cleared p product) cleared) j [] ≡ get_or cleared j []
      go (inl k) = ap (λ x. get_or x j []) (pick_below degree bound (set cleared p product) cleared k) ∙ get_or-set_other cleared p j product [] ne
      go (inr k) = ap (λ x. get_or x j []) (pick_above degree bound (set cleared p product) cleared k)

  -- the pivot, where it stays live
  pub reduced_pivot : degree < bound → get_or reduced p [] ≡ times_polynomial_of m a l bound weight source
  reduced_pivot h =
      ap (λ x. get_or x p []) (raised ∙ pick_below degree bound (set cleared p product) cleared h)
      ∙ get_or-set_same cleared p product [] (let e : length cleared ≡ 8 = long_cleared in omega arith)
      ∙ ap (times_polynomial_of m a l bound weight) cleared_pivot

  -- and where it does not
  pub reduced_dead : bound ≤ degree → get_or reduced p [] ≡ source
  reduced_dead h = ap (λ x. get_or x p []) (raised ∙ pick_above degree bound (set cleared p product) cleared h) ∙ cleared_pivot

  pub reduced_past : (j : ℕ) → 8 ≤ j → get_or reduced j [] ≡ []
  reduced_past j h = ap (λ x. get_or x j []) raised ∙ go (cases_lt degree bound)
    where
      go : (degree < bound) ⊎ (bound ≤ degree) → get_or (cond (ltb degree bound) (set cleared p product) cleared) j [] ≡ []
      go (inl k) =
          ap (λ x. get_or x j []) (pick_below degree bound (set cleared p product) cleared k)
          ∙ get_or_past (set cleared p product) j [] (let e : length cleared ≡ 8 = long_cleared in let f : length (set cleared p product) ≡ length cleared = length-set cleared p product in omega arith)
      go (inr k) =
          ap (λ x. get_or x j []) (pick_above degree bound (set cleared p product) cleared k)
          ∙ get_or_past cleared j [] (let e : length cleared ≡ 8 = long_cleared in omega arith)

-- a row whose discrepancy is not 0
pub cleared_by : (m : Meaning) (source : List (List ℕ)) (factor l bound weight d : ℕ) (q : List (List ℕ))
    → (d ≡ 0 → ⊥)
    → cleared_row_of m source factor l bound weight d q ≡ minus_polynomial_of m (product_of m d factor) l bound weight q source
unfolding cleared_row_of
cleared_by m source factor l bound weight d q h =
    cond-false (eqb d 0) q (minus_polynomial_of m (product_of m d factor) l bound weight q source) (ne_eqb d 0 h)

-- the calls of the reduction, one after the other
pub reduced_by : (m : Meaning) (p : ℕ) (discrepancies degrees : List ℕ) (a l bound weight : ℕ) (rows : List (List (List ℕ))) (factor : ℕ) (cleared result : List (List (List ℕ)))
    → factor ≡ inverse_or_zero m (get_or discrepancies p 0)
    → cleared ≡ cleared_of m (get_or rows p []) factor l bound weight (set discrepancies p 0) rows
    → result ≡ raised_of m p (get_or degrees p 0 + 1) a l bound weight cleared
    → result ≡ reduced_of m p discrepancies degrees a l bound weight rows
unfolding reduced_of
reduced_by m p discrepancies degrees a l bound weight rows factor cleared result f c r =
    r
    ∙ ap
    (raised_of m p (get_or degrees p 0 + 1) a l bound weight)
    (c ∙ ap (λ k. cleared_of m (get_or rows p []) k l bound weight (set discrepancies p 0) rows) f)
