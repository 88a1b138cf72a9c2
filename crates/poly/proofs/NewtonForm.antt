-- The steps of the loops that work out Newton's form.
use Rattle.std.proofs.Common.{◌≡◌, ℕ, zero, suc, ◌+◌, ◌<◌, ◌≤◌, cond, ltb, List, [], ◌∷◌, ◌++◌, append-nil, append_assoc, length, length-append, get_or, set, sym, refl, ap, ◌∙◌, ap₂, ⊎_elim, add-one, arith}
use Rattle.std.proofs.Math.Seq.{get_or-append_seam}
use Rattle.std.proofs.lemmas.Bool.{cases_eq, cond-true, cond-false, lt-ltb, le-ltb}
use Rattle.field.specs.Meaning.{Meaning, sum_of, product_of}
use Rattle.poly.specs.Arithmetic.{difference_of, quotient_of, slope_of, nest_of}
use Rattle.poly.specs.Newton.{made, divided_at, swept_at, sweep_of, reduced, coefficients_of, nested_from, nested_of}
use Rattle.field.proofs.Making.{Upto, upto_from, upto_write, upto_all, length_made, made_at, made_is, made_same}

module _ (m : Meaning) (α : List ℕ) where
  -- up to place j nothing is divided
  pub swept_kept : (d : ℕ → ℕ) (j i : ℕ) → i ≤ j → swept_at m α d j i ≡ d i
  unfolding swept_at
  swept_kept d j i h = cond-false (ltb j i) _ _ (le-ltb j i h)

  -- past it each value is
  pub swept_divided : (d : ℕ → ℕ) (j i : ℕ) → j < i → swept_at m α d j i ≡ divided_at m α d j i
  unfolding swept_at
  swept_divided d j i h = cond-true (ltb j i) _ _ (lt-ltb j i h)

  swept_same : (d e : ℕ → ℕ) (j i : ℕ) → d i ≡ e i → d j ≡ e j → swept_at m α d j i ≡ swept_at m α e j i
  unfolding swept_at divided_at
  swept_same d e j i p q = ap₂ (λ x y. cond (ltb j i) (quotient_of m (difference_of m x y) (difference_of m (get_or α i 0) (get_or α j 0))) x) p q

  pub sweep_start : (was : List ℕ) (j : ℕ) → Upto 0 (swept_at m α (λ i. get_or was i 0) j) was (j + 1) was
  sweep_start was j = upto_from 0 _ was (j + 1) (λ k h. sym (swept_kept (λ i. get_or was i 0) j k (omega arith)))

  pub sweep_more : (was xs : List ℕ) (j i origin point y : ℕ)
      → Upto 0 (swept_at m α (λ i. get_or was i 0) j) was i xs
      → i < length was
      → j < i
      → origin ≡ get_or α j 0
      → point ≡ get_or α i 0
      → y ≡ slope_of m origin (get_or was j 0) point (get_or xs i 0)
      → Upto 0 (swept_at m α (λ i. get_or was i 0) j) was (i + 1) (set xs i y)
  unfolding divided_at
  sweep_more was xs j i origin point y u h l o p q =
      upto_write
      0
      _
      was
      i
      xs
      y
      h
      u
      (q
      ∙ ap₂ (λ x z. slope_of m x (get_or was j 0) z (get_or xs i 0)) o p
      ∙ ap (slope_of m (get_or α j 0) (get_or was j 0) (get_or α i 0)) (u.left i (omega arith))
      ∙ sym (swept_divided (λ i. get_or was i 0) j i l))

  pub sweep_all : (was xs : List ℕ) (j i : ℕ) → Upto 0 (swept_at m α (λ i. get_or was i 0) j) was i xs → length was ≤ i → xs ≡ sweep_of m α j was
  unfolding sweep_of
  sweep_all was xs j i u h = upto_all 0 _ was (length was) i xs refl u (λ k l n. absurd (omega arith))

  pub reduced_start : (β : List ℕ) → β ≡ made (length β) (reduced m α β 0)
  unfolding reduced
  reduced_start β = made_is _ β (length β) 0 refl (λ i h. refl)

  pub reduced_more : (β xs ys : List ℕ) (j : ℕ)
      → j < length β
      → xs ≡ made (length β) (reduced m α β j)
      → ys ≡ sweep_of m α j xs
      → ys ≡ made (length β) (reduced m α β (j + 1))
  unfolding reduced sweep_of
  reduced_more β xs ys j h e s =
      s
      ∙ ap (sweep_of m α j) e
      ∙ ap (λ n. made n (swept_at m α (λ i. get_or (made (length β) (reduced m α β j)) i 0) j)) (length_made (reduced m α β j) (length β))
      ∙ made_same _ _ (length β) 0 (λ i k. swept_same _ (reduced m α β j) j i (made_at _ (length β) i 0 k) (made_at _ (length β) j 0 h))
      ∙ ap (λ x. made (length β) (reduced m α β x)) (sym (add-one j))

  pub reduced_all : (β xs : List ℕ) (j : ℕ)
      → xs ≡ made (length β) (reduced m α β j)
      → length β ≤ j
      → j ≤ length β
      → xs ≡ coefficients_of m α β
  unfolding coefficients_of
  reduced_all β xs j e h k = let p : j ≡ length β = omega arith in e ∙ ap (λ x. made (length β) (reduced m α β x)) p

  -- Newton's form from its last term in: of the coefficients, those in rest are left, and v is the value of the terms after them
  pub record Worked (coefficients : List ℕ) (z : ℕ) (rest : List ℕ) (v : ℕ) : Type 0 where
    pub after : List ℕ
    pub whole : coefficients ≡ rest ++ after
    pub value : v ≡ nested_from m α (λ k. get_or coefficients k 0) z (length after) (length rest)

  pub worked_start : (cs : List ℕ) (z : ℕ) → Worked cs z cs 0
  unfolding nested_from
  worked_start cs z = record { after = []; whole = sym (append-nil cs); value = refl }

  pub worked_turn : (cs : List ℕ) (z : ℕ) (rest : List ℕ) (c v point s : ℕ) → Worked cs z (rest ++ c ∷ []) v → point ≡ get_or α (length rest) 0 → s ≡ nest_of m point c z v → Worked cs z rest s
  unfolding nested_from
  worked_turn cs z rest c v point s w p e = record {
    after = c ∷ w.after;
    whole = whole;
    value = e ∙ ap₂ (λ x y. nest_of m x c z y) p (w.value ∙ ap (nested_from m α (λ k. get_or cs k 0) z (length w.after)) longer) ∙ ap (λ x. nest_of m (get_or α (length rest) 0) x z (nested_from m α (λ k. get_or cs k 0) z (length w.after) (suc (length rest)))) (sym here);
  }
    where
      whole : cs ≡ rest ++ c ∷ w.after
      whole = w.whole ∙ append_assoc rest (c ∷ []) w.after

      longer : length (rest ++ c ∷ []) ≡ suc (length rest)
      longer = length-append rest (c ∷ []) ∙ add-one (length rest)

      here : get_or cs (length rest) 0 ≡ c
      here = ap (λ xs. get_or xs (length rest) 0) whole ∙ get_or-append_seam rest c w.after 0

  pub worked_end : (cs : List ℕ) (z : ℕ) (rest : List ℕ) (v : ℕ) → length rest ≡ 0 → Worked cs z rest v → v ≡ nested_of m α cs z
  unfolding nested_of
  worked_end cs z [] v e w = w.value ∙ ap (λ n. nested_from m α (λ k. get_or cs k 0) z n 0) (ap length (sym w.whole))
  worked_end cs z (c ∷ rest) v e w = absurd (omega (arith, e))

  -- only the coefficients of the terms matter
  pub nested_same : (d e : ℕ → ℕ) (z n i : ℕ) → ((k : ℕ) → i ≤ k → k < i + n → d k ≡ e k) → nested_from m α d z n i ≡ nested_from m α e z n i
  unfolding nested_from
  nested_same d e z zero i h = refl
  nested_same d e z (suc n) i h =
      ap₂ (λ x y. sum_of m x (product_of m (difference_of m z (get_or α i 0)) y)) (h i (omega arith) (omega arith)) (nested_same d e z n (suc i) (λ k a b. h k (omega arith) (omega arith)))

  -- the value at place i changes no more once it was divided against all places before it
  pub reduced_final : (β : List ℕ) (j i : ℕ) → i ≤ j → reduced m α β j i ≡ reduced m α β i i
  unfolding reduced
  reduced_final β zero i h = let e : i ≡ 0 = omega arith in ap (λ x. get_or β i 0) e ∙ sym (ap (λ x. reduced m α β x i) e)
  reduced_final β (suc j) i h = ⊎_elim
      (λ e. ap (λ x. reduced m α β x i) (sym e))
      (λ ne. swept_kept (reduced m α β j) j i (omega arith) ∙ reduced_final β j i (omega arith))
      (cases_eq i (suc j))
