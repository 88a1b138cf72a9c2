-- What stands in the workspace after a polynomial was written to it.
use Rattle.std.proofs.Common.{◌≡◌, ℕ, ◌+◌, ◌-◌, ◌*◌, ◌/◌, ◌%◌, ◌<◌, ◌≤◌, min, ◌&&◌, ltb, ◌⊎◌, List, [], length, get_or, drop, sym, ap, ◌∙◌, subst, inl, inr, mod-lt, div-lt_iff_lt-mul, div-add-mod', arith}
use mathlib.Core.Path.{fun_ext}
use Rattle.std.proofs.lemmas.List.{ext_get_or, get_or-drop, length-drop}
use Rattle.std.proofs.lemmas.Bool.{cases_lt, cond-true, cond-false, lt-ltb, le-ltb, and_from, and_left, and_right}
use Rattle.algebra.specs.Operations.{Lawful}
use Rattle.algebra.specs.Elements.{into}
use Rattle.field.specs.Meaning.{Meaning, operations}
use Rattle.plan.specs.declared.Plan.{Plan}
use Rattle.plan.proofs.Facts as facts
use Rattle.bivariate.specs.Combinations.{row_length}
use Rattle.bivariate.specs.Flat.{flat_of}
use Rattle.bivariate.specs.Lifted.{polynomial_of, Sized}
use Rattle.bivariate.proofs.Flattening.{flat_length, flat_place, flat_rest, flat_beyond}
use Rattle.code.specs.Listing.{weight_of, width_of, coefficient_at, polynomial_in, Held}

module _ (p : Plan) (m : Meaning) (q : List (List ℕ)) (was : List ℕ) (room : 32768 ≤ length was) (sized : Sized (operations m) p.l (width_of p) (weight_of p) q) where
  -- the workspace as it is written
  abbrev full : List ℕ
  full = flat_of q p.l (width_of p) was

  rows : min p.l 8 ≡ p.l
  rows = let h : p.l ≤ 8 = p.l_high in omega arith

  columns : min (width_of p) 256 ≡ width_of p
  columns = let h = facts.bound_high p in omega arith

  -- coefficient i of row c
  entry : (c i : ℕ) → c < p.l → i < width_of p → get_or full (c * width_of p + i) 0 ≡ get_or (get_or q c []) i 0
  entry c i h k =
      ap (λ n. get_or full (c * n + i) 0) (sym columns)
      ∙ flat_place q p.l (width_of p) was room c i (omega (arith, rows)) (omega (arith, columns))

  -- a place from D on is past each row
  past : (c i : ℕ) → width_of p ≤ i → row_length (width_of p) (weight_of p) c ≤ i
  unfolding row_length
  past c i k = let n : ℕ = c * weight_of p in omega arith

  -- the polynomial in the workspace is the one that was written
  coefficient : (c i : ℕ) → coefficient_at p full c i ≡ get_or (get_or q c []) i 0
  coefficient c i = go (cases_lt c p.l) (cases_lt i (width_of p))
    where
      go : (c < p.l) ⊎ (p.l ≤ c) → (i < width_of p) ⊎ (width_of p ≤ i) → coefficient_at p full c i ≡ get_or (get_or q c []) i 0
      go (inl h) (inl k) =
          cond-true
          (ltb c p.l && ltb i (width_of p))
          (get_or full (c * width_of p + i) 0)
          0
          (and_from (ltb c p.l) (ltb i (width_of p)) (lt-ltb c p.l h) (lt-ltb i (width_of p) k))
          ∙ entry c i h k
      go (inr h) k =
          cond-false (ltb c p.l && ltb i (width_of p)) (get_or full (c * width_of p + i) 0) 0 (and_left (ltb c p.l) (ltb i (width_of p)) (le-ltb c p.l h))
          ∙ sym (sized.narrow c i h)
      go (inl h) (inr k) =
          cond-false (ltb c p.l && ltb i (width_of p)) (get_or full (c * width_of p + i) 0) 0 (and_right (ltb c p.l) (ltb i (width_of p)) (le-ltb i (width_of p) k))
          ∙ sym (sized.within c i (past c i k))

  pub written : (law : Lawful (operations m)) → polynomial_in p m law full ≡ polynomial_of (operations m) law q
  written law = fun_ext (λ c. fun_ext (λ i. ap (into (operations m) law) (coefficient c i)))

  -- each number of the polynomial is an element
  element : (i : ℕ) → i < p.l * width_of p → get_or full i 0 < m.size
  element i h =
      let D : ℕ = width_of p in
      let d : 0 < D = let b = facts.bound_low p in omega arith in
      let e : i / D * D + i % D ≡ i = div-add-mod' i D in
      let c : i / D < p.l = (div-lt_iff_lt-mul {k = D} {x = i} {y = p.l} d).1 h in
      let r : i % D < D = mod-lt i d in
      subst (λ (x : ℕ). get_or full x 0 < m.size) e (subst (λ (x : ℕ). x < m.size) (sym (entry (i / D) (i % D) c r)) (sized.elements (i / D) (i % D)))

  pub held : Held p m was full
  held =
      record {
        long = flat_length q p.l (width_of p) was room;
        elements = element;
        zeros = λ i h k. flat_rest q p.l (width_of p) was room i (subst (λ (n : ℕ). n * min (width_of p) 256 ≤ i) (sym rows) (subst (λ (n : ℕ). p.l * n ≤ i) (sym columns) h)) k;
        beyond =
            let l : length full ≡ length was = flat_length q p.l (width_of p) was room in
            ext_get_or
            0
            (drop 32768 full)
            (drop 32768 was)
            (length-drop 32768 full ∙ ap (λ n. n - 32768) l ∙ sym (length-drop 32768 was))
            (λ i h.
            let k : length (drop 32768 full) ≡ length full - 32768 = length-drop 32768 full in
            get_or-drop 32768 full i 0
            ∙ flat_beyond q p.l (width_of p) was room (32768 + i) (omega arith) (omega arith)
            ∙ sym (get_or-drop 32768 was i 0));
      }
