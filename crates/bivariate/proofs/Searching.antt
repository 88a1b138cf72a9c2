-- The steps of the loops of the search for roots.
use Rattle.std.proofs.Common.{◌≡◌, ℕ, zero, suc, ◌+◌, ◌-◌, ◌<◌, ◌≤◌, min, Bool, true, false, cond, ◌&&◌, eqb, ltb, ◌⊎◌, ◌≢◌, List, [], ◌∷◌, ◌++◌, length, take, drop, get_or, set, length-set, get_or-set_other, get_or-set_same, sym, refl, ap, ◌∙◌, subst, ap₂, inl, inr, arith}
use Rattle.std.specs.List.{list_all}
use Rattle.std.proofs.Math.Bool.{and_comm}
use Rattle.std.proofs.lemmas.List.Folds.{list_all_more}
use Rattle.std.proofs.lemmas.List.{get_or_past, get_or-drop, get_or_append_left, length-take, length-drop, length-append}
use Rattle.std.proofs.lemmas.Bool.{cases_eq, cases_lt, and_from, and_left, and_right, and_parts, eq-eqb, ne_eqb, eqb-true, eqb-false}
use Rattle.field.specs.Meaning.{Meaning, sum_of, product_of}
use Rattle.bivariate.specs.Horner.{value_of}
use Rattle.bivariate.specs.Combinations.{row_length, plus_of}
use Rattle.bivariate.specs.Roots.{column, all_zero, column_value_of, lower_row, raise_row, shift_step_of, shift_of}
use Rattle.bivariate.proofs.Backwards.{Left, left_all, left_more, left_read, left_length, length_first}
use Rattle.bivariate.proofs.Steps.{value_none, value_suc}
use Rattle.field.proofs.Making.{Upto, upto_none, upto_from, upto_write, upto_all, upto_here, made_is}
use Rattle.bivariate.proofs.Parts.{pick_below, pick_above}

module _ (f : ℕ → ℕ) where
  pub all_zero_none : all_zero f 0 ≡ true
  unfolding all_zero
  all_zero_none = refl

  pub all_zero_suc : (n : ℕ) → all_zero f (suc n) ≡ (eqb (f n) 0 && all_zero f n)
  unfolding all_zero
  all_zero_suc n = refl

  pub all_zero_more : (n : ℕ) → f n ≡ 0 → all_zero f n ≡ true → all_zero f (n + 1) ≡ true
  all_zero_more n e h =
      let up : n + 1 ≡ suc n = omega arith in
      ap (all_zero f) up ∙ all_zero_suc n ∙ and_from (eqb (f n) 0) (all_zero f n) (eq-eqb (f n) 0 e) h

  -- one that is not zero
  pub all_zero_not : (n c : ℕ) → c < n → (f c ≡ 0 → ⊥) → false ≡ all_zero f n
  all_zero_not zero c h k = absurd (omega arith)
  all_zero_not (suc n) c h k = go (cases_eq c n) (λ l. all_zero_not n c l k)
    where
      go : (c ≡ n) ⊎ (c ≡ n → ⊥) → (c < n → false ≡ all_zero f n) → false ≡ all_zero f (suc n)
      go (inl e) r =
          sym (all_zero_suc n ∙ and_left (eqb (f n) 0) (all_zero f n) (ne_eqb (f n) 0 (λ z. k (ap f e ∙ z))))
      go (inr e) r = sym (all_zero_suc n ∙ and_right (eqb (f n) 0) (all_zero f n) (sym (r (omega arith))))

  pub all_zero_end : (n c : ℕ) → c ≡ n → all_zero f c ≡ true → true ≡ all_zero f n
  all_zero_end n c e h = sym h ∙ ap (all_zero f) e

  -- what the answer yes says
  pub all_zero_at : (n c : ℕ) → all_zero f n ≡ true → c < n → f c ≡ 0
  all_zero_at zero c h l = absurd (omega arith)
  all_zero_at (suc n) c h l = go (cases_eq c n) (and_parts (eqb (f n) 0) (all_zero f n) (sym (all_zero_suc n) ∙ h)) (λ e k. all_zero_at n c e k)
    where
      go : (c ≡ n) ⊎ (c ≡ n → ⊥) → (eqb (f n) 0 ≡ true) × (all_zero f n ≡ true) → (all_zero f n ≡ true → c < n → f c ≡ 0) → f c ≡ 0
      go (inl e) p r = ap f e ∙ eqb-true (f n) 0 p.0
      go (inr e) p r = r p.1 (omega arith)

  -- numbers that are all zero
  pub all_zero_from : (n : ℕ) → ((c : ℕ) → c < n → f c ≡ 0) → all_zero f n ≡ true
  all_zero_from zero h = all_zero_none
  all_zero_from (suc n) h =
      all_zero_suc n
      ∙ and_from (eqb (f n) 0) (all_zero f n) (eq-eqb (f n) 0 (h n (omega arith))) (all_zero_from n (λ c k. h c (omega arith)))

-- the first numbers of a list, tested one after the other
tested : {X : Type 0} (p : X → Bool) (f : ℕ → ℕ) (xs : List X) (d : X) (n : ℕ)
    → n ≤ length xs
    → ((i : ℕ) → i < n → p (get_or xs i d) ≡ eqb (f i) 0)
    → list_all p (take n xs) ≡ all_zero f n
tested p f xs d zero h k = sym (all_zero_none f)
tested p f xs d (suc n) h k =
    let up : suc n ≡ n + 1 = omega arith in
    ap (λ j. list_all p (take j xs)) up
    ∙ list_all_more p xs n d (omega arith)
    ∙ ap₂ (λ x y. x && y) (tested p f xs d n (omega arith) (λ i l. k i (omega arith))) (k n (omega arith))
    ∙ and_comm (all_zero f n) (eqb (f n) 0)
    ∙ sym (all_zero_suc f n)

-- the constant terms of the first rows
pub zeros_of_rows : (l n : ℕ) (q : List (List ℕ)) (b : Bool)
    → b ≡ list_all (λ row. eqb (get_or row 0 0) 0) (take n q)
    → length q ≡ 8
    → n ≡ min l 8
    → b ≡ all_zero (column q 0) (min l 8)
zeros_of_rows l n q b e h k =
    e
    ∙ tested (λ row. eqb (get_or row 0 0) 0) (column q 0) q [] n (omega arith) (λ i l. refl)
    ∙ ap (all_zero (column q 0)) k

-- the first numbers were all found to be zero
unfoldable pub Zeros : (ℕ → ℕ) → ℕ → Type 0
Zeros f i = all_zero f i ≡ true

module _ (f : ℕ → ℕ) where
  pub zeros_none : Zeros f 0
  unfolding Zeros
  zeros_none = all_zero_none f

  pub zeros_more : (i : ℕ) (b : Bool) → Zeros f i → b ≡ eqb (f i) 0 → b ≡ true → Zeros f (i + 1)
  unfolding Zeros
  zeros_more i b z e h = all_zero_more f i (eqb-true (f i) 0 (sym e ∙ h)) z

  pub zeros_broken : (i n k : ℕ) (b : Bool) → i < n → n ≡ k → b ≡ eqb (f i) 0 → b ≡ false → false ≡ all_zero f k
  zeros_broken i n k b l q e h = all_zero_not f k i (omega arith) (eqb-false (f i) 0 (sym e ∙ h))

  pub zeros_all : (i n k : ℕ) → Zeros f i → n ≤ i → i ≤ n → n ≡ k → true ≡ all_zero f k
  unfolding Zeros
  zeros_all i n k z h l q = all_zero_end f k i (omega arith) z

-- the value in y of what was read of a column, from the highest row down
unfoldable pub Valuing : Meaning → ℕ → ℕ → List (List ℕ) → ℕ → List (List ℕ) → ℕ → Type 0
Valuing m g l q i rest value =
    Left [] q (min l 8) rest × (value ≡ value_of m g (column q i) (length rest) (min l 8 - length rest))

module _ (m : Meaning) (g l : ℕ) (q : List (List ℕ)) (i : ℕ) where
  pub valuing_none : (n : ℕ) → length q ≡ 8 → n ≡ min l 8 → Valuing m g l q i (take n q) 0
  unfolding Valuing
  valuing_none n h e =
      let f : length (take n q) ≡ n = length_first [] q n (omega arith) in
      let r : take n q ≡ take (min l 8) q = ap (λ k. take k q) e in
      (subst (Left [] q (min l 8)) (sym r) (left_all [] q (min l 8) (omega arith)), value_none m g (column q i) (length (take n q)) (min l 8) (omega arith))

  pub valuing_more : (rest new : List (List ℕ)) (row : List ℕ) (value next : ℕ)
      → Valuing m g l q i rest value
      → rest ≡ new ++ row ∷ []
      → next ≡ sum_of m (get_or row i 0) (product_of m g value)
      → Valuing m g l q i new next
  unfolding Valuing
  valuing_more rest new row value next u is v =
      let c : ℕ = length new in
      let up : length rest ≡ suc c = left_length [] q (min l 8) rest new row is u.0 in
      let few : length rest ≤ min l 8 = u.0.short in
      let back : min l 8 - c ≡ suc (min l 8 - length rest) = omega arith in (
        left_more [] q (min l 8) rest new row is u.0,
        v
            ∙ ap₂
            (λ x y. sum_of m (get_or x i 0) (product_of m g y))
            (left_read [] q (min l 8) rest new row is u.0)
            (u.1 ∙ ap (λ x. value_of m g (column q i) x (min l 8 - length rest)) up)
            ∙ sym (value_suc m g (column q i) c (min l 8 - length rest))
            ∙ ap (value_of m g (column q i) c) (sym back),
      )

  pub valuing_all : (rest : List (List ℕ)) (value : ℕ) → Valuing m g l q i rest value → length rest ≡ 0 → value ≡ column_value_of m g l q i
  unfolding Valuing column_value_of
  valuing_all rest value u e =
      let f : min l 8 - length rest ≡ min l 8 = omega arith in u.1 ∙ ap₂ (value_of m g (column q i)) e f

module _ (was : List ℕ) where
  -- what stands at i after the move down
  abbrev pub lower_at : ℕ → ℕ
  lower_at i = get_or was (suc i) 0

module _ (c : ℕ) (was : List ℕ) where
  -- what stands at i after the move up
  abbrev pub raise_at : ℕ → ℕ
  raise_at i = cond (ltb i c) 0 (get_or was (i - c) 0)

-- the first coefficients of the row are those of the row c places up
unfoldable pub Raising : ℕ → List ℕ → ℕ → List ℕ → Type 0
Raising c was i xs = Upto 0 (raise_at c was) was i xs

module _ (c : ℕ) (was : List ℕ) where
  pub raising_none : Raising c was 0 was
  unfolding Raising
  raising_none = upto_none 0 (raise_at c was) was

  pub raising_more : (i : ℕ) (xs : List ℕ) (v : ℕ)
      → length was ≡ 256
      → i < 256
      → Raising c was i xs
      → v ≡ cond (ltb i c) 0 (get_or was (i - c) 0)
      → Raising c was (i + 1) (set xs i v)
  unfolding Raising
  raising_more i xs v e h u q = upto_write 0 (raise_at c was) was i xs v (omega arith) u q

  pub raising_end : (i : ℕ) (xs : List ℕ) → length was ≡ 256 → 256 ≤ i → Raising c was i xs → xs ≡ raise_row c was
  unfolding Raising raise_row
  raising_end i xs e h u = upto_all 0 (raise_at c was) was 256 i xs e u (λ j a b. absurd (omega arith))

module _ (m : Meaning) (g l bound weight c : ℕ) (was : List (List ℕ)) where
  -- row r after a step of the expansion
  abbrev pub shift_at : ℕ → List ℕ
  shift_at r =
      cond
      (ltb r c)
      (get_or was r [])
      (cond
      (ltb (suc r) (min l 8))
      (plus_of m g (row_length bound weight (suc r)) (get_or was r []) (get_or was (suc r) []))
      (get_or was r []))

  shift_below : (r : ℕ) → r < c → shift_at r ≡ get_or was r []
  shift_below r h = pick_below r c (get_or was r []) _ h

  shift_inside : (r : ℕ) → c ≤ r → suc r < min l 8 → shift_at r ≡ plus_of m g (row_length bound weight (suc r)) (get_or was r []) (get_or was (suc r) [])
  shift_inside r h k =
      pick_above r c (get_or was r []) _ h
      ∙ pick_below (suc r) (min l 8) (plus_of m g (row_length bound weight (suc r)) (get_or was r []) (get_or was (suc r) [])) (get_or was r []) k

  shift_past : (r : ℕ) → c ≤ r → min l 8 ≤ suc r → shift_at r ≡ get_or was r []
  shift_past r h k =
      pick_above r c (get_or was r []) _ h
      ∙ pick_above (suc r) (min l 8) (plus_of m g (row_length bound weight (suc r)) (get_or was r []) (get_or was (suc r) [])) (get_or was r []) k

-- the rows below r after a step of the expansion, in a loop over those from c on
unfoldable pub Shifting : Meaning → ℕ → ℕ → ℕ → ℕ → ℕ → List (List ℕ) → ℕ → List (List ℕ) → Type 0
Shifting m g l bound weight c was r xs = Upto [] (shift_at m g l bound weight c was) was r xs

module _ (m : Meaning) (g l bound weight c : ℕ) (was : List (List ℕ)) where
  pub shifting_none : Shifting m g l bound weight c was c was
  unfolding Shifting
  shifting_none = upto_from [] (shift_at m g l bound weight c was) was c (λ k h. sym (shift_below m g l bound weight c was k h))

  pub shifting_more : (r n few len : ℕ) (xs : List (List ℕ)) (row : List ℕ)
      → length was ≡ 8
      → c ≤ r
      → n ≡ min l 8
      → few ≡ n - 1
      → r < few
      → Shifting m g l bound weight c was r xs
      → len ≡ row_length bound weight (r + 1)
      → row ≡ plus_of m g len (get_or xs r []) (get_or xs (r + 1) [])
      → Shifting m g l bound weight c was (r + 1) (set xs r row)
  unfolding Shifting
  shifting_more r n few len xs row q h a b k u d e =
      let f : ℕ → List ℕ = shift_at m g l bound weight c was in
      let up : r + 1 ≡ suc r = omega arith in
      upto_write
      []
      f
      was
      r
      xs
      row
      (omega arith)
      u
      (e
      ∙ ap₂ (λ x y. plus_of m g len x y) (upto_here [] f was r xs u) (u.left (r + 1) (omega arith) ∙ ap (λ j. get_or was j []) up)
      ∙ ap (λ x. plus_of m g x (get_or was r []) (get_or was (suc r) [])) (d ∙ ap (row_length bound weight) up)
      ∙ sym (shift_inside m g l bound weight c was r h (omega arith)))

  pub shifting_all : (r n few : ℕ) (xs : List (List ℕ))
      → length was ≡ 8
      → c ≤ r
      → n ≡ min l 8
      → few ≡ n - 1
      → few ≤ r
      → Shifting m g l bound weight c was r xs
      → xs ≡ shift_step_of m g l bound weight c was
  unfolding Shifting shift_step_of
  shifting_all r n few xs e h a b k u =
      upto_all
      []
      (shift_at m g l bound weight c was)
      was
      8
      r
      xs
      e
      u
      (λ j p d. sym (shift_past m g l bound weight c was j (omega arith) (omega arith)))

module _ (m : Meaning) (g l bound weight : ℕ) where
  pub shift_zero : (q : List (List ℕ)) → shift_of m g l bound weight 0 q ≡ q
  unfolding shift_of
  shift_zero q = refl

  pub shift_suc : (n : ℕ) (q : List (List ℕ))
      → shift_of m g l bound weight (suc n) q ≡ shift_of m g l bound weight n (shift_step_of m g l bound weight n q)
  unfolding shift_of
  shift_suc n q = refl

-- what is left of the expansion leads to the expansion of the polynomial at the start
unfoldable pub Expanded : Meaning → ℕ → ℕ → ℕ → ℕ → List (List ℕ) → ℕ → List (List ℕ) → Type 0
Expanded m g l bound weight was c q = shift_of m g l bound weight c q ≡ shift_of m g l bound weight (min l 8) was

module _ (m : Meaning) (g l bound weight : ℕ) (was : List (List ℕ)) where
  pub expanded_none : (n : ℕ) → n ≡ min l 8 → Expanded m g l bound weight was n was
  unfolding Expanded
  expanded_none n e = ap (λ k. shift_of m g l bound weight k was) e

  -- one step more
  pub expanded_more : (c : ℕ) (q next : List (List ℕ))
      → 0 < c
      → Expanded m g l bound weight was c q
      → next ≡ shift_step_of m g l bound weight (c - 1) q
      → Expanded m g l bound weight was (c - 1) next
  unfolding Expanded
  expanded_more c q next h e s =
      let up : c ≡ suc (c - 1) = omega arith in
      ap (shift_of m g l bound weight (c - 1)) s
      ∙ sym (shift_suc m g l bound weight (c - 1) q)
      ∙ ap (λ n. shift_of m g l bound weight n q) (sym up)
      ∙ e

  pub expanded_all : (c : ℕ) (q : List (List ℕ)) → c ≤ 0 → Expanded m g l bound weight was c q → q ≡ shift_of m g l bound weight (min l 8) was
  unfolding Expanded
  expanded_all c q h e =
      let z : 0 ≡ c = omega arith in
      sym (shift_zero m g l bound weight q) ∙ ap (λ n. shift_of m g l bound weight n q) z ∙ e

-- the row turned by one place, with 0 put at its end
pub lowered_is : (was xs : List ℕ) → length was ≡ 256 → xs ≡ drop 1 was ++ take 1 was → set xs 255 0 ≡ lower_row was
unfolding lower_row
lowered_is was xs e r = made_is (lower_at was) (set xs 255 0) 256 0 (length-set xs 255 0 ∙ long) (λ k h. go k h (cases_lt k 255))
  where
    long : length xs ≡ 256
    long =
        let a : length xs ≡ length (drop 1 was ++ take 1 was) = ap length r in
        let b : length (drop 1 was ++ take 1 was) ≡ length (drop 1 was) + length (take 1 was) = length-append (drop 1 was) (take 1 was) in
        let c : length (drop 1 was) ≡ length was - 1 = length-drop 1 was in
        let d : length (take 1 was) ≡ min 1 (length was) = length-take 1 was in
        omega arith

    go : (k : ℕ) → k < 256 → (k < 255) ⊎ (255 ≤ k) → get_or (set xs 255 0) k 0 ≡ lower_at was k
    go k h (inl l) =
        let c : length (drop 1 was) ≡ length was - 1 = length-drop 1 was in
        let ne : k ≢ 255 = omega arith in
        let up : 1 + k ≡ suc k = omega arith in
        get_or-set_other xs 255 k 0 0 ne
        ∙ ap (λ ys. get_or ys k 0) r
        ∙ get_or_append_left (drop 1 was) (take 1 was) 0 k (omega arith)
        ∙ get_or-drop 1 was k 0
        ∙ ap (λ j. get_or was j 0) up
    go k h (inr l) =
        let q : k ≡ 255 = omega arith in
        ap (λ j. get_or (set xs 255 0) j 0) q
        ∙ get_or-set_same xs 255 0 0 (let a : length xs ≡ 256 = long in omega arith)
        ∙ sym (get_or_past was (suc k) 0 (omega arith))
