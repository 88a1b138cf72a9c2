-- The numbers of the rows and polynomials that the functions make.
use Rattle.std.proofs.Common.{◌≡◌, ℕ, suc, ◌+◌, ◌-◌, ◌*◌, ◌<◌, ◌≤◌, min, ◌⊎◌, List, [], get_or, sym, refl, ap, ◌∙◌, inl, inr, add-mul, mul-add, arith}
use Rattle.std.proofs.lemmas.Bool.{cases_lt}
use Rattle.field.specs.Meaning.{Meaning, sum_of, negative_of, product_of}
use Rattle.bivariate.specs.Horner.{before, nested_of}
use Rattle.bivariate.specs.Combinations.{row_length, plus_of, minus_of, times_of, changed}
use Rattle.bivariate.specs.Lifted.{Room}
use Rattle.bivariate.specs.Roots.{lower_row, lower_of, shift_step_of, raise_row, raise_of}
use Rattle.bivariate.proofs.Searching.{lower_at, raise_at, shift_at}
use Rattle.field.proofs.Making.{made_at, made_past}
use Rattle.bivariate.proofs.Parts.{pick_below, pick_above}
use Rattle.bivariate.proofs.Steps.{nested_at}
use Rattle.bivariate.proofs.Writing.{plus_at, changing}

pub row_length_256 : (bound weight c : ℕ) → row_length bound weight c ≤ 256
unfolding row_length
row_length_256 bound weight c = let n : ℕ = bound - c * weight in let h : min n 256 ≤ 256 = omega arith in h

pub row_length_bound : (bound weight c : ℕ) → row_length bound weight c ≤ bound
unfolding row_length
row_length_bound bound weight c = let k : ℕ = c * weight in let h : min (bound - k) 256 ≤ bound = omega arith in h

-- a row of a higher power of y is no longer
pub row_length_falls : (bound weight c : ℕ) → row_length bound weight (suc c) ≤ row_length bound weight c
unfolding row_length
row_length_falls bound weight c =
    let e : (c + 1) * weight ≡ c * weight + 1 * weight = add-mul c 1 weight in
    let up : suc c ≡ c + 1 = omega arith in
    let f : suc c * weight ≡ (c + 1) * weight = ap (λ n. n * weight) up in
    let a : ℕ = c * weight in
    let b : ℕ = suc c * weight in
    let h : min (bound - suc c * weight) 256 ≤ min (bound - c * weight) 256 = omega arith in
    h

-- a row that is moved up by its power of y is within its length where y weighs one less
pub row_length_raised : (bound s c i : ℕ) → c ≤ i → row_length bound s c ≤ i → i < 256 → row_length bound (suc s) c ≤ i - c
unfolding row_length
row_length_raised bound s c i k h t =
    let p : c * (s + 1) ≡ c * s + c * 1 = mul-add c s 1 in
    let x : suc s ≡ s + 1 = omega arith in
    let y : c * suc s ≡ c * (s + 1) = ap (λ n. c * n) x in
    let a : ℕ = c * s in
    omega arith

-- there is room where y weighs at least 1 and the bound is at most 256
pub room_for : (l bound weight : ℕ) → l ≤ 8 → 1 ≤ weight → bound ≤ 256 → Room l bound weight
unfolding row_length
room_for l bound weight small h k c j =
    let s : ℕ = weight - 1 in
    let x : weight ≡ s + 1 = omega arith in
    let p : c * (s + 1) ≡ c * s + c * 1 = mul-add c s 1 in
    let y : c * weight ≡ c * (s + 1) = ap (λ n. c * n) x in
    omega arith

module _ (m : Meaning) (k len : ℕ) (target source : List ℕ) where
  pub plus_below : (i : ℕ) → i < len → i < 256 → get_or (plus_of m k len target source) i 0 ≡ sum_of m (get_or target i 0) (product_of m k (get_or source i 0))
  unfolding plus_of
  plus_below i h l =
      made_at (plus_at m k len target source) 256 i 0 l
      ∙ pick_below i len (sum_of m (get_or target i 0) (product_of m k (get_or source i 0))) (get_or target i 0) h

  -- from len on the target is as it was
  pub plus_keeps : (i : ℕ) → len ≤ i → (256 ≤ i → get_or target i 0 ≡ 0) → get_or (plus_of m k len target source) i 0 ≡ get_or target i 0
  unfolding plus_of
  plus_keeps i h e = go (cases_lt i 256)
    where
      go : (i < 256) ⊎ (256 ≤ i) → get_or (plus_of m k len target source) i 0 ≡ get_or target i 0
      go (inl l) =
          made_at (plus_at m k len target source) 256 i 0 l
          ∙ pick_above i len (sum_of m (get_or target i 0) (product_of m k (get_or source i 0))) (get_or target i 0) h
      go (inr l) = made_past (plus_at m k len target source) 256 i 0 l ∙ sym (e l)

  pub plus_above : (i : ℕ) → len ≤ i → get_or target i 0 ≡ 0 → get_or (plus_of m k len target source) i 0 ≡ 0
  plus_above i h e = plus_keeps i h (λ _. e) ∙ e

  pub minus_as_plus : minus_of m k len target source ≡ plus_of m (negative_of m k) len target source
  unfolding minus_of
  minus_as_plus = refl

module _ (m : Meaning) (a len : ℕ) (row : List ℕ) where
  pub times_below : (i : ℕ) → i < len → i < 256 → get_or (times_of m a len row) i 0 ≡ sum_of m (before 0 row i) (product_of m (negative_of m a) (get_or row i 0))
  unfolding times_of nested_of
  times_below i h l =
      made_at (nested_at m len (negative_of m a) 0 row) 256 i 0 l
      ∙ pick_below i len (sum_of m (before 0 row i) (product_of m (negative_of m a) (get_or row i 0))) (get_or row i 0) h

  pub times_above : (i : ℕ) → len ≤ i → get_or row i 0 ≡ 0 → get_or (times_of m a len row) i 0 ≡ 0
  unfolding times_of nested_of
  times_above i h e = go (cases_lt i 256)
    where
      go : (i < 256) ⊎ (256 ≤ i) → get_or (times_of m a len row) i 0 ≡ 0
      go (inl l) =
          made_at (nested_at m len (negative_of m a) 0 row) 256 i 0 l
          ∙ pick_above i len (sum_of m (before 0 row i) (product_of m (negative_of m a) (get_or row i 0))) (get_or row i 0) h
          ∙ e
      go (inr l) = made_past (nested_at m len (negative_of m a) 0 row) 256 i 0 l

module _ (l : ℕ) (f : ℕ → List ℕ → List ℕ) (q : List (List ℕ)) where
  pub changed_below : (c : ℕ) → c < l → c < 8 → get_or (changed l f q) c [] ≡ f c (get_or q c [])
  unfolding changed
  changed_below c h k = made_at (changing l f q) 8 c [] k ∙ pick_below c l (f c (get_or q c [])) (get_or q c []) h

  pub changed_above : (c i : ℕ) → l ≤ c → get_or (get_or q c []) i 0 ≡ 0 → get_or (get_or (changed l f q) c []) i 0 ≡ 0
  unfolding changed
  changed_above c i h e = go (cases_lt c 8)
    where
      go : (c < 8) ⊎ (8 ≤ c) → get_or (get_or (changed l f q) c []) i 0 ≡ 0
      go (inl k) =
          ap (λ row. get_or row i 0) (made_at (changing l f q) 8 c [] k ∙ pick_above c l (f c (get_or q c [])) (get_or q c []) h) ∙ e
      go (inr k) = ap (λ row. get_or row i 0) (made_past (changing l f q) 8 c [] k)

module _ (m : Meaning) (g l bound weight n : ℕ) (q : List (List ℕ)) where
  pub step_before : (r : ℕ) → r < n → r < 8 → get_or (shift_step_of m g l bound weight n q) r [] ≡ get_or q r []
  unfolding shift_step_of
  step_before r h k = made_at (shift_at m g l bound weight n q) 8 r [] k ∙ pick_below r n (get_or q r []) _ h

  pub step_inside : (r : ℕ)
      → n ≤ r
      → suc r < l
      → l ≤ 8
      → get_or (shift_step_of m g l bound weight n q) r [] ≡ plus_of m g (row_length bound weight (suc r)) (get_or q r []) (get_or q (suc r) [])
  unfolding shift_step_of
  step_inside r h k small =
      made_at (shift_at m g l bound weight n q) 8 r [] (omega arith)
      ∙ pick_above r n (get_or q r []) _ h
      ∙ pick_below (suc r) (min l 8) (plus_of m g (row_length bound weight (suc r)) (get_or q r []) (get_or q (suc r) [])) (get_or q r []) (omega arith)

  -- the last row below l is as it was, and those from l on are zero
  pub step_after : (r i : ℕ)
      → n ≤ r
      → l ≤ suc r
      → (8 ≤ r → get_or (get_or q r []) i 0 ≡ 0)
      → get_or (get_or (shift_step_of m g l bound weight n q) r []) i 0 ≡ get_or (get_or q r []) i 0
  unfolding shift_step_of
  step_after r i h k e = go (cases_lt r 8)
    where
      go : (r < 8) ⊎ (8 ≤ r) → get_or (get_or (shift_step_of m g l bound weight n q) r []) i 0 ≡ get_or (get_or q r []) i 0
      go (inl s) =
          ap
          (λ row. get_or row i 0)
          (made_at (shift_at m g l bound weight n q) 8 r [] s
          ∙ pick_above r n (get_or q r []) _ h
          ∙ pick_above (suc r) (min l 8) (plus_of m g (row_length bound weight (suc r)) (get_or q r []) (get_or q (suc r) [])) (get_or q r []) (omega arith))
      go (inr s) = ap (λ row. get_or row i 0) (made_past (shift_at m g l bound weight n q) 8 r [] s) ∙ sym (e s)

module _ (c : ℕ) (row : List ℕ) where
  pub raise_below : (i : ℕ) → i < c → get_or (raise_row c row) i 0 ≡ 0
  unfolding raise_row
  raise_below i h = go (cases_lt i 256)
    where
      go : (i < 256) ⊎ (256 ≤ i) → get_or (raise_row c row) i 0 ≡ 0
      go (inl k) = made_at (raise_at c row) 256 i 0 k ∙ pick_below i c 0 (get_or row (i - c) 0) h
      go (inr k) = made_past (raise_at c row) 256 i 0 k

  pub raise_inside : (i : ℕ) → c ≤ i → i < 256 → get_or (raise_row c row) i 0 ≡ get_or row (i - c) 0
  unfolding raise_row
  raise_inside i h k = made_at (raise_at c row) 256 i 0 k ∙ pick_above i c 0 (get_or row (i - c) 0) h

  pub raise_past : (i : ℕ) → 256 ≤ i → get_or (raise_row c row) i 0 ≡ 0
  unfolding raise_row
  raise_past i h = made_past (raise_at c row) 256 i 0 h

module _ (q : List (List ℕ)) where
  pub raised_row : (c : ℕ) → c < 8 → get_or (raise_of q) c [] ≡ raise_row c (get_or q c [])
  unfolding raise_of
  raised_row c h = changed_below 8 raise_row q c h h

  pub raised_past : (c i : ℕ) → 8 ≤ c → get_or (get_or q c []) i 0 ≡ 0 → get_or (get_or (raise_of q) c []) i 0 ≡ 0
  unfolding raise_of
  raised_past c i h e = changed_above 8 raise_row q c i h e

  pub lowered_row : (c : ℕ) → c < 8 → get_or (lower_of q) c [] ≡ lower_row (get_or q c [])
  unfolding lower_of
  lowered_row c h = changed_below 8 (λ _ row. lower_row row) q c h h

  pub lowered_past : (c i : ℕ) → 8 ≤ c → get_or (get_or q c []) i 0 ≡ 0 → get_or (get_or (lower_of q) c []) i 0 ≡ 0
  unfolding lower_of
  lowered_past c i h e = changed_above 8 (λ _ row. lower_row row) q c i h e

-- what stands at i of the lowered row
pub lower_entry : (row : List ℕ) (i : ℕ) → (256 ≤ i → get_or row (suc i) 0 ≡ 0) → get_or (lower_row row) i 0 ≡ get_or row (suc i) 0
unfolding lower_row
lower_entry row i e = go (cases_lt i 256)
  where
    go : (i < 256) ⊎ (256 ≤ i) → get_or (lower_row row) i 0 ≡ get_or row (suc i) 0
    go (inl h) = made_at (lower_at row) 256 i 0 h
    go (inr h) = made_past (lower_at row) 256 i 0 h ∙ sym (e h)
