-- The loops that fill a list from its start on, and the choices that they write.
use Rattle.std.proofs.Common.{◌≡◌, ℕ, ◌+◌, ◌<◌, ◌≤◌, min, cond, eqb, ltb, List, [], length, get_or, set, replicate, sym, ap, ◌∙◌, arith}
use lib.ListN.{length-replicate, get_or-replicate}
use Rattle.std.proofs.lemmas.Bool.{cond-true, cond-false, eq-eqb, ne_eqb}
use Rattle.field.specs.Meaning.{Meaning, product_of}
use Rattle.field.specs.Made.{made}
use Rattle.bivariate.specs.Combinations.{minus_polynomial_of}
use Rattle.field.proofs.Making.{Upto, upto_here, upto_write, upto_all}
use Rattle.bivariate.proofs.Parts.{pick_below, pick_above}
use Rattle.interpolation.specs.Rows.{live_discrepancy_of, discrepancies_of, cleared_row_of, cleared_of}

-- every entry is written
pub filled : {X : Type 0} (d : X) (f : ℕ → X) (was : List X) (n i : ℕ) (xs : List X)
    → length was ≡ n
    → n ≤ i
    → Upto d f was i xs
    → xs ≡ made n f
filled d f was n i xs e h u = upto_all d f was n i xs e u (λ k a b. absurd (omega arith))

-- the discrepancy of row j
abbrev pub discrepancy_at : Meaning → List (List (List ℕ)) → List ℕ → ℕ → ℕ → ℕ → ℕ → ℕ → ℕ → ℕ → ℕ → ℕ
discrepancy_at m rows degrees l bound weight a b u r j =
    cond (ltb j l) (live_discrepancy_of m (get_or rows j []) (get_or degrees j 0) l bound weight a b u r) 0

module _ (m : Meaning) (rows : List (List (List ℕ))) (degrees : List ℕ) (l bound weight a b u r : ℕ) where
  pub discrepancies_more : (j : ℕ) (xs : List ℕ) (v : ℕ)
      → j < l
      → j < 8
      → Upto 0 (discrepancy_at m rows degrees l bound weight a b u r) (replicate 8 0) j xs
      → v ≡ live_discrepancy_of m (get_or rows j []) (get_or degrees j 0) l bound weight a b u r
      → Upto 0 (discrepancy_at m rows degrees l bound weight a b u r) (replicate 8 0) (j + 1) (set xs j v)
  discrepancies_more j xs v h k up e =
      upto_write
      0
      (discrepancy_at m rows degrees l bound weight a b u r)
      (replicate 8 0)
      j
      xs
      v
      (let q : length (replicate {A = ℕ} 8 0) ≡ 8 = length-replicate {A = ℕ} 8 0 in omega arith)
      up
      (e ∙ sym (pick_below j l (live_discrepancy_of m (get_or rows j []) (get_or degrees j 0) l bound weight a b u r) 0 h))

  pub discrepancies_all : (j : ℕ) (xs : List ℕ)
      → min l 8 ≤ j
      → Upto 0 (discrepancy_at m rows degrees l bound weight a b u r) (replicate 8 0) j xs
      → xs ≡ discrepancies_of m rows degrees l bound weight a b u r
  unfolding discrepancies_of
  discrepancies_all j xs h up =
      upto_all
      0
      (discrepancy_at m rows degrees l bound weight a b u r)
      (replicate 8 0)
      8
      j
      xs
      (length-replicate {A = ℕ} 8 0)
      up
      (λ k p q.
      get_or-replicate {A = ℕ} 8 k 0 0 q
      ∙ sym (pick_above k l (live_discrepancy_of m (get_or rows k []) (get_or degrees k 0) l bound weight a b u r) 0 (omega arith)))

-- row j after the clearing
abbrev pub cleared_at : Meaning → List (List ℕ) → ℕ → ℕ → ℕ → ℕ → List ℕ → List (List (List ℕ)) → ℕ → List (List ℕ)
cleared_at m source factor l bound weight discrepancies rows j =
    cleared_row_of m source factor l bound weight (get_or discrepancies j 0) (get_or rows j [])

module _ (m : Meaning) (source : List (List ℕ)) (factor l bound weight : ℕ) (discrepancies : List ℕ) (was : List (List (List ℕ))) where
  pub cleared_more : (j : ℕ) (xs : List (List (List ℕ))) (row : List (List ℕ))
      → j < length was
      → Upto [] (cleared_at m source factor l bound weight discrepancies was) was j xs
      → row ≡ cleared_row_of m source factor l bound weight (get_or discrepancies j 0) (get_or xs j [])
      → Upto [] (cleared_at m source factor l bound weight discrepancies was) was (j + 1) (set xs j row)
  cleared_more j xs row h u e =
      upto_write
      []
      (cleared_at m source factor l bound weight discrepancies was)
      was
      j
      xs
      row
      h
      u
      (e
      ∙ ap
      (cleared_row_of m source factor l bound weight (get_or discrepancies j 0))
      (upto_here [] (cleared_at m source factor l bound weight discrepancies was) was j xs u))

  pub cleared_all : (j : ℕ) (xs : List (List (List ℕ)))
      → length was ≡ 8
      → 8 ≤ j
      → Upto [] (cleared_at m source factor l bound weight discrepancies was) was j xs
      → xs ≡ cleared_of m source factor l bound weight discrepancies was
  unfolding cleared_of
  cleared_all j xs e h u = filled [] (cleared_at m source factor l bound weight discrepancies was) was 8 j xs e h u

module _ (m : Meaning) (source : List (List ℕ)) (factor l bound weight d : ℕ) (q : List (List ℕ)) where
  -- a row with the discrepancy 0 stays as it is
  pub cleared_none : d ≡ 0 → q ≡ cleared_row_of m source factor l bound weight d q
  unfolding cleared_row_of
  cleared_none e = sym (cond-true (eqb d 0) q (minus_polynomial_of m (product_of m d factor) l bound weight q source) (eq-eqb d 0 e))

  pub cleared_some : (k : ℕ) (xs : List (List ℕ))
      → (d ≡ 0 → ⊥)
      → k ≡ product_of m d factor
      → xs ≡ minus_polynomial_of m k l bound weight q source
      → xs ≡ cleared_row_of m source factor l bound weight d q
  unfolding cleared_row_of
  cleared_some k xs h e f =
      f
      ∙ ap (λ n. minus_polynomial_of m n l bound weight q source) e
      ∙ sym (cond-false (eqb d 0) q (minus_polynomial_of m (product_of m d factor) l bound weight q source) (ne_eqb d 0 h))
