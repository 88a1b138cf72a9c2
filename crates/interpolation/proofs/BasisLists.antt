-- A basis as two lists: what the functions that write its rows do to them.
use Rattle.std.proofs.Common.{◌≡◌, ℕ, ◌+◌, ◌<◌, ◌≤◌, cond, ltb, ◌⊎◌, List, [], length, get_or, set, take, replicate, sym, refl, ap, ◌∙◌, subst, ap₂, inl, inr, min, arith}
use Rattle.std.specs.List.{range_with_len}
use Rattle.std.proofs.lemmas.List.{map-set, get_or-map, length-map, set-get_or, get_or-take, length-take}
use Rattle.std.proofs.lemmas.Simd.{map-map}
use Rattle.std.proofs.Math.Seq.{map-set_same}
use Rattle.std.proofs.lemmas.Bool.{cases_lt}
use Rattle.field.specs.Meaning.{Meaning}
use Rattle.field.specs.Made.{made}
use Rattle.field.proofs.Making.{Upto, upto_none, upto_write, upto_all}
use Rattle.bivariate.proofs.Parts.{pick_below, pick_above}
use Rattle.bivariate.specs.Combinations.{times_polynomial_of, y_power_of}
use Rattle.interpolation.specs.declared.basis.BasisRow.{BasisRow}
use Rattle.interpolation.specs.Bases.{rows_of, degrees_of, start_row, start_of}
use Rattle.interpolation.specs.Rows.{start_rows, start_degrees, live_discrepancy_of, discrepancies_of, inverse_or_zero, cleared_row_of, cleared_of, raised_row_of, raised_of, reduced_of}
use Rattle.interpolation.proofs.Filling.{discrepancy_at, discrepancies_more, discrepancies_all, cleared_at, cleared_more, cleared_all}
use Rattle.interpolation.proofs.Reducing.{reduced_by}

-- what stands past the end of a basis
abbrev pub blank : BasisRow
blank = record { polynomial = []; degree = 0 }

pub start_rows_are : (weight : ℕ) → rows_of (start_of weight) ≡ start_rows
unfolding rows_of start_rows start_of start_row made
start_rows_are weight = map-map (λ r. r.polynomial) (start_row weight) (range_with_len 0 8)

pub start_degrees_are : (weight : ℕ) → degrees_of (start_of weight) ≡ start_degrees weight
unfolding degrees_of start_degrees start_of start_row made
start_degrees_are weight = map-map (λ r. r.degree) (start_row weight) (range_with_len 0 8)

-- before j stand the powers of y
unfoldable pub Powers : List (List (List ℕ)) → ℕ → List (List (List ℕ)) → Type 0
Powers was j rows = Upto [] y_power_of was j rows

module _ (was : List (List (List ℕ))) where
  pub powers_none : Powers was 0 was
  unfolding Powers
  powers_none = upto_none [] y_power_of was

  pub powers_more : (j : ℕ) (rows : List (List (List ℕ))) (q : List (List ℕ)) → j < length was → Powers was j rows → q ≡ y_power_of j → Powers was (j + 1) (set rows j q)
  unfolding Powers
  powers_more j rows q h u e = upto_write [] y_power_of was j rows q h u e

  pub powers_all : (j : ℕ) (rows : List (List (List ℕ))) → length was ≡ 8 → 8 ≤ j → Powers was j rows → rows ≡ start_rows
  unfolding Powers start_rows
  powers_all j rows e h u = upto_all [] y_power_of was 8 j rows e u (λ k l m. absurd (omega arith))

module _ (basis : List BasisRow) where
  pub length_rows : length (rows_of basis) ≡ length basis
  unfolding rows_of
  length_rows = length-map basis (λ r. r.polynomial)

  pub length_degrees : length (degrees_of basis) ≡ length basis
  unfolding degrees_of
  length_degrees = length-map basis (λ r. r.degree)

  pub row_at : (j : ℕ) → j < length basis → get_or (rows_of basis) j [] ≡ (get_or basis j blank).polynomial
  unfolding rows_of
  row_at j h = get_or-map (λ r. r.polynomial) basis j blank [] h

  pub degree_at : (j : ℕ) → j < length basis → get_or (degrees_of basis) j 0 ≡ (get_or basis j blank).degree
  unfolding degrees_of
  degree_at j h = get_or-map (λ r. r.degree) basis j blank 0 h

  -- one row written
  pub rows_set : (j : ℕ) (r : BasisRow) → rows_of (set basis j r) ≡ set (rows_of basis) j r.polynomial
  unfolding rows_of
  rows_set j r = map-set (λ r. r.polynomial) basis j r

  pub degrees_set : (j : ℕ) (r : BasisRow) → degrees_of (set basis j r) ≡ set (degrees_of basis) j r.degree
  unfolding degrees_of
  degrees_set j r = map-set (λ r. r.degree) basis j r

pub row_read : (basis : List BasisRow) (j : ℕ) → length basis ≡ 8 → j < 8 → (get_or basis j blank).polynomial ≡ get_or (rows_of basis) j []
row_read basis j long h = sym (row_at basis j (omega arith))

-- row j of the first n rows
module _ (basis : List BasisRow) (l n j : ℕ) (long : length basis ≡ 8) (e : n ≡ min l 8) (h : j < length (take n basis)) where
  pub first_below : (j < l) × (j < 8)
  first_below =
      let f : length (take n basis) ≡ min n (length basis) = length-take n basis in
      let a : j < l = omega arith in
      let b : j < 8 = omega arith in
      (a, b)

  pub first_row : get_or (take n basis) j blank ≡ get_or basis j blank
  first_row =
      let f : length (take n basis) ≡ min n (length basis) = length-take n basis in
      get_or-take n basis j blank (omega arith)

  pub first_degree : (get_or (take n basis) j blank).degree ≡ get_or (degrees_of basis) j 0
  first_degree = ap (λ row. row.degree) first_row ∙ sym (degree_at basis j (omega (arith, first_below.1, long)))

-- where the degrees are as they were, so is the length
length_kept : (was now : List BasisRow) → degrees_of now ≡ degrees_of was → length now ≡ length was
length_kept was now e = sym (length_degrees now) ∙ ap length e ∙ length_degrees was

-- the rows below j after the elimination, with the degrees as they were
unfoldable pub Eliminating : Meaning → List (List ℕ) → ℕ → ℕ → ℕ → ℕ → List ℕ → List BasisRow → ℕ → List BasisRow → Type 0
Eliminating m source factor l bound weight discrepancies was j now =
    Upto [] (cleared_at m source factor l bound weight discrepancies (rows_of was)) (rows_of was) j (rows_of now)
    × (degrees_of now ≡ degrees_of was)

module _ (m : Meaning) (source : List (List ℕ)) (factor l bound weight : ℕ) (discrepancies : List ℕ) (was : List BasisRow) where
  pub eliminating_none : Eliminating m source factor l bound weight discrepancies was 0 was
  unfolding Eliminating
  eliminating_none = (upto_none _ _ _, refl)

  pub eliminating_more : (j : ℕ) (now : List BasisRow) (row : BasisRow)
      → length was ≡ 8
      → j < 8
      → Eliminating m source factor l bound weight discrepancies was j now
      → row.polynomial ≡ cleared_row_of m source factor l bound weight (get_or discrepancies j 0) (get_or now j blank).polynomial
      → row.degree ≡ (get_or now j blank).degree
      → Eliminating m source factor l bound weight discrepancies was (j + 1) (set now j row)
  unfolding Eliminating degrees_of
  eliminating_more j now row long h u e d =
      let same : length now ≡ length was = length_kept was now u.1 in
      let n : length (rows_of was) ≡ length was = length_rows was in (
        subst
            (Upto [] (cleared_at m source factor l bound weight discrepancies (rows_of was)) (rows_of was) (j + 1))
            (sym (rows_set now j row))
            (cleared_more
            m
            source
            factor
            l
            bound
            weight
            discrepancies
            (rows_of was)
            j
            (rows_of now)
            row.polynomial
            (omega arith)
            u.0
            (e ∙ ap (cleared_row_of m source factor l bound weight (get_or discrepancies j 0)) (sym (row_at now j (omega arith))))),
        map-set_same (λ (r : BasisRow). r.degree) now j row blank d ∙ u.1,
      )

  pub eliminating_rows : (j : ℕ) (now : List BasisRow)
      → length was ≡ 8
      → 8 ≤ j
      → Eliminating m source factor l bound weight discrepancies was j now
      → rows_of now ≡ cleared_of m source factor l bound weight discrepancies (rows_of was)
  unfolding Eliminating
  eliminating_rows j now long h u =
      cleared_all m source factor l bound weight discrepancies (rows_of was) j (rows_of now) (length_rows was ∙ long) h u.0

  pub eliminating_degrees : (j : ℕ) (now : List BasisRow)
      → Eliminating m source factor l bound weight discrepancies was j now
      → degrees_of now ≡ degrees_of was
  unfolding Eliminating
  eliminating_degrees j now u = u.1

-- the discrepancies of the rows below j, and zeros after them
unfoldable pub Discrepant : Meaning → List BasisRow → ℕ → ℕ → ℕ → ℕ → ℕ → ℕ → ℕ → ℕ → List ℕ → Type 0
Discrepant m basis l bound weight a b u r j xs =
    Upto 0 (discrepancy_at m (rows_of basis) (degrees_of basis) l bound weight a b u r) (replicate 8 0) j xs

module _ (m : Meaning) (basis : List BasisRow) (l bound weight a b u r : ℕ) where
  pub discrepant_none : Discrepant m basis l bound weight a b u r 0 (replicate 8 0)
  unfolding Discrepant
  discrepant_none = upto_none _ _ _

  pub discrepant_more : (n j : ℕ) (xs : List ℕ) (v : ℕ)
      → length basis ≡ 8
      → n ≡ min l 8
      → j < length (take n basis)
      → Discrepant m basis l bound weight a b u r j xs
      → v ≡ live_discrepancy_of m (get_or (take n basis) j blank).polynomial (get_or (take n basis) j blank).degree l bound weight a b u r
      → Discrepant m basis l bound weight a b u r (j + 1) (set xs j v)
  unfolding Discrepant
  discrepant_more n j xs v long e h d k =
      let f : length (take n basis) ≡ min n (length basis) = length-take n basis in
      let g : get_or (take n basis) j blank ≡ get_or basis j blank = first_row basis l n j long e h in
      discrepancies_more
      m
      (rows_of basis)
      (degrees_of basis)
      l
      bound
      weight
      a
      b
      u
      r
      j
      xs
      v
      (omega arith)
      (omega arith)
      d
      (k
      ∙ ap₂
      (λ x y. live_discrepancy_of m x y l bound weight a b u r)
      (ap (λ row. row.polynomial) g ∙ sym (row_at basis j (omega arith)))
      (first_degree basis l n j long e h))

  pub discrepant_all : (n j : ℕ) (xs : List ℕ)
      → length basis ≡ 8
      → n ≡ min l 8
      → length (take n basis) ≤ j
      → Discrepant m basis l bound weight a b u r j xs
      → xs ≡ discrepancies_of m (rows_of basis) (degrees_of basis) l bound weight a b u r
  unfolding Discrepant
  discrepant_all n j xs long e h d =
      let f : length (take n basis) ≡ min n (length basis) = length-take n basis in
      discrepancies_all m (rows_of basis) (degrees_of basis) l bound weight a b u r j xs (omega arith) d

-- the pivot raised after the elimination
module _ (m : Meaning) (p : ℕ) (discrepancies : List ℕ) (a l bound weight : ℕ) (was cleared : List BasisRow) (row : BasisRow) where
  pub reduced_rows : (factor : ℕ)
      → length was ≡ 8
      → p < 8
      → factor ≡ inverse_or_zero m (get_or discrepancies p 0)
      → rows_of cleared ≡ cleared_of m (get_or was p blank).polynomial factor l bound weight (set discrepancies p 0) (rows_of was)
      → degrees_of cleared ≡ degrees_of was
      → row.polynomial ≡ raised_row_of m ((get_or cleared p blank).degree + 1) a l bound weight (get_or cleared p blank).polynomial
      → rows_of (set cleared p row) ≡ reduced_of m p discrepancies (degrees_of was) a l bound weight (rows_of was)
  unfolding raised_row_of raised_of
  reduced_rows factor long h f rows degrees raised =
      reduced_by
      m
      p
      discrepancies
      (degrees_of was)
      a
      l
      bound
      weight
      (rows_of was)
      factor
      (rows_of cleared)
      (rows_of (set cleared p row))
      f
      (rows ∙ ap (λ q. cleared_of m q factor l bound weight (set discrepancies p 0) (rows_of was)) (sym (row_at was p (omega arith))))
      (rows_set cleared p row
      ∙ ap (set (rows_of cleared) p) (raised ∙ ap₂ up (ap (λ d. d + 1) degree) (sym (row_at cleared p (omega (arith, same, long, h)))))
      ∙ pulled (cases_lt (get_or (degrees_of was) p 0 + 1) bound))
    where
      same : length cleared ≡ length was
      same = length_kept was cleared degrees

      up : ℕ → List (List ℕ) → List (List ℕ)
      up d q = cond (ltb d bound) (times_polynomial_of m a l bound weight q) q

      degree : (get_or cleared p blank).degree ≡ get_or (degrees_of was) p 0
      degree = sym (degree_at cleared p (omega (arith, same, long, h))) ∙ ap (λ ds. get_or ds p 0) degrees

      q : List (List ℕ)
      q = get_or (rows_of cleared) p []

      d : ℕ
      d = get_or (degrees_of was) p 0 + 1

      pulled : (d < bound) ⊎ (bound ≤ d)
          → set (rows_of cleared) p (up d q)
          ≡ cond (ltb d bound) (set (rows_of cleared) p (times_polynomial_of m a l bound weight q)) (rows_of cleared)
      pulled (inl k) =
          ap (set (rows_of cleared) p) (pick_below d bound (times_polynomial_of m a l bound weight q) q k)
          ∙ sym (pick_below d bound (set (rows_of cleared) p (times_polynomial_of m a l bound weight q)) (rows_of cleared) k)
      pulled (inr k) =
          ap (set (rows_of cleared) p) (pick_above d bound (times_polynomial_of m a l bound weight q) q k)
          ∙ set-get_or (rows_of cleared) p []
          ∙ sym (pick_above d bound (set (rows_of cleared) p (times_polynomial_of m a l bound weight q)) (rows_of cleared) k)

  pub reduced_degrees : length was ≡ 8
      → p < 8
      → degrees_of cleared ≡ degrees_of was
      → row.degree ≡ (get_or cleared p blank).degree + 1
      → degrees_of (set cleared p row) ≡ set (degrees_of was) p (get_or (degrees_of was) p 0 + 1)
  reduced_degrees long h degrees raised =
      let same : length cleared ≡ length was = length_kept was cleared degrees in
      degrees_set cleared p row
      ∙ ap₂
      (λ ds d. set ds p d)
      degrees
      (raised ∙ ap (λ d. d + 1) (sym (degree_at cleared p (omega (arith, same, long, h))) ∙ ap (λ ds. get_or ds p 0) degrees))

module _ (p bound : ℕ) (was cleared : List BasisRow) where
  pub reduced_live : length was ≡ 8
      → p < 8
      → degrees_of cleared ≡ degrees_of was
      → get_or (degrees_of was) p 0 < bound
      → (get_or cleared p blank).degree < bound
  reduced_live long h degrees k =
      let same : length cleared ≡ length was = length_kept was cleared degrees in
      subst (λ (d : ℕ). d < bound) (ap (λ ds. get_or ds p 0) (sym degrees) ∙ degree_at cleared p (omega (arith, same, long, h))) k
