-- The steps of the loops that write a polynomial into a workspace.
use Rattle.std.proofs.Common.{◌≡◌, ℕ, ◌+◌, ◌-◌, ◌*◌, ◌/◌, ◌%◌, ◌<◌, ◌≤◌, min, cond, ltb, ◌⊎◌, List, [], ◌++◌, length, take, drop, replicate, get_or, set, sym, refl, ap, ◌∙◌, subst, ap₂, inl, inr, add-mul, mul-le-mul, arith}
use lib.Arith.{digits_div, digits_mod}
use lib.ListN.{length-replicate, get_or-replicate}
use Rattle.std.proofs.lemmas.List.{get_or_past, get_or-take, get_or-drop, get_or_append_left, get_or-append_right, length-take, length-drop, length-append}
use Rattle.std.proofs.lemmas.Bool.{cases_lt}
use Rattle.bivariate.specs.Flat.{cleared_of, pasted_of, rows_of, flat_of}
use Rattle.field.proofs.Making.{Upto, upto_none, upto_write, upto_all, length_made, made_at, made_past, made_is}
use Rattle.bivariate.proofs.Parts.{part_all, pick_below, pick_above}

module _ (count : ℕ) (was : List ℕ) where
  abbrev pub clear_at : ℕ → ℕ
  clear_at p = cond (ltb p count) 0 (get_or was p 0)

  -- the first numbers overwritten by zeros
  pub cleared_is : (xs : List ℕ)
      → count ≤ length was
      → xs ≡ replicate {A = ℕ} (length (take count was)) 0
      → xs ++ drop count was ≡ cleared_of count was
  unfolding cleared_of
  cleared_is xs h e =
      part_all
      0
      clear_at
      was
      count
      (length was)
      count
      xs
      refl
      h
      (let f : length (take count was) ≡ min count (length was) = length-take count was in omega arith)
      (record {
        long = ap length e ∙ length-replicate {A = ℕ} (length (take count was)) 0;
        done = λ k l n.
            ap (λ ys. get_or ys k 0) e
            ∙ get_or-replicate {A = ℕ} (length (take count was)) k 0 0 n
            ∙ sym (pick_below k count 0 (get_or was k 0) l);
        left = λ k l n.
            let f : length (take count was) ≡ min count (length was) = length-take count was in absurd (omega arith);
      })
      (λ k l n. sym (pick_above k count 0 (get_or was k 0) l))

-- before i stand the coefficients of the row
unfoldable pub Copying : List ℕ → List ℕ → ℕ → List ℕ → Type 0
Copying row was i part = Upto 0 (λ k. get_or row k 0) was i part

module _ (row was : List ℕ) where
  pub copying_none : Copying row was 0 was
  unfolding Copying
  copying_none = upto_none 0 (λ k. get_or row k 0) was

  pub copying_more : (i c : ℕ) (part : List ℕ) → i < length was → Copying row was i part → c ≡ get_or row i 0 → Copying row was (i + 1) (set part i c)
  unfolding Copying
  copying_more i c part h u e = upto_write 0 (λ k. get_or row k 0) was i part c h u e

  pub copying_all : (i : ℕ) (part : List ℕ)
      → length was ≤ length row
      → length was ≤ i
      → Copying row was i part
      → part ≡ take (length was) row
  unfolding Copying
  copying_all i part short h u =
      upto_all 0 (λ k. get_or row k 0) was (length was) i part refl u (λ k l j. absurd (omega arith))
      ∙ sym (made_is
      (λ k. get_or row k 0)
      (take (length was) row)
      (length was)
      0
      (let e : length (take (length was) row) ≡ min (length was) (length row) = length-take (length was) row in omega arith)
      (λ k l. get_or-take (length was) row k 0 l))

module _ (start width : ℕ) (row was : List ℕ) where
  abbrev pub paste_at : ℕ → ℕ
  paste_at p = cond (ltb p start) (get_or was p 0) (cond (ltb p (start + width)) (get_or row (p - start) 0) (get_or was p 0))

  paste_below : (p : ℕ) → p < start → paste_at p ≡ get_or was p 0
  paste_below p h = pick_below p start (get_or was p 0) _ h

  paste_inside : (p : ℕ) → start ≤ p → p < start + width → paste_at p ≡ get_or row (p - start) 0
  paste_inside p h k = pick_above p start (get_or was p 0) _ h ∙ pick_below p (start + width) (get_or row (p - start) 0) (get_or was p 0) k

  paste_above : (p : ℕ) → start + width ≤ p → paste_at p ≡ get_or was p 0
  paste_above p h =
      pick_above p start (get_or was p 0) _ (omega arith) ∙ pick_above p (start + width) (get_or row (p - start) 0) (get_or was p 0) h

  -- a part overwritten by the start of the row
  pub pasted_is : (mid n : ℕ) (part : List ℕ)
      → start + width ≤ length was
      → width ≤ length row
      → mid ≡ width
      → n ≡ min mid (length was - start)
      → part ≡ take n row
      → take start was ++ (part ++ drop mid (drop start was)) ≡ pasted_of start width row was
  unfolding pasted_of
  pasted_is mid n part fits narrow at few was_taken = made_is paste_at all (length was) 0 long (λ p h. go p h (cases_lt p start) (cases_lt p (start + width)))
    where
      is : part ≡ take width row
      is = let e : n ≡ width = omega arith in was_taken ∙ ap (λ k. take k row) e

      rest : List ℕ
      rest = drop mid (drop start was)

      all : List ℕ
      all = take start was ++ (part ++ rest)

      first : length (take start was) ≡ start
      first = let e : length (take start was) ≡ min start (length was) = length-take start was in omega arith

      second : length part ≡ width
      second =
          let e : length (take width row) ≡ min width (length row) = length-take width row in
          let f : length part ≡ length (take width row) = ap length is in
          omega arith

      third : length rest ≡ length was - start - width
      third =
          length-drop mid (drop start was) ∙ ap₂ (λ x y. x - y) (length-drop start was) at

      long : length all ≡ length was
      long =
          let e : length all ≡ length (take start was) + length (part ++ rest) = length-append (take start was) (part ++ rest) in
          let f : length (part ++ rest) ≡ length part + length rest = length-append part rest in
          let a : length (take start was) ≡ start = first in
          let b : length part ≡ width = second in
          let c : length rest ≡ length was - start - width = third in
          omega arith

      after : (p : ℕ) → start ≤ p → get_or all p 0 ≡ get_or (part ++ rest) (p - start) 0
      after p h = get_or-append_right (take start was) (part ++ rest) start p 0 first h

      go : (p : ℕ) → p < length was → (p < start) ⊎ (start ≤ p) → (p < start + width) ⊎ (start + width ≤ p) → get_or all p 0 ≡ paste_at p
      go p h (inl k) x =
          let a : length (take start was) ≡ start = first in
          get_or_append_left (take start was) (part ++ rest) 0 p (omega arith) ∙ get_or-take start was p 0 k ∙ sym (paste_below p k)
      go p h (inr k) (inl j) =
          let b : length part ≡ width = second in
          after p k
          ∙ get_or_append_left part rest 0 (p - start) (omega arith)
          ∙ ap (λ ys. get_or ys (p - start) 0) is
          ∙ get_or-take width row (p - start) 0 (omega arith)
          ∙ sym (paste_inside p k j)
      go p h (inr k) (inr j) =
          let back : start + (mid + (p - start - width)) ≡ p = omega arith in
          after p k
          ∙ get_or-append_right part rest width (p - start) 0 second (omega arith)
          ∙ get_or-drop mid (drop start was) (p - start - width) 0
          ∙ get_or-drop start was (mid + (p - start - width)) 0
          ∙ ap (λ n. get_or was n 0) back
          ∙ sym (paste_above p j)

  pub length_pasted : length (pasted_of start width row was) ≡ length was
  unfolding pasted_of
  length_pasted = length_made paste_at (length was)

  pub pasted_below : (p : ℕ) → p < length was → p < start → get_or (pasted_of start width row was) p 0 ≡ get_or was p 0
  unfolding pasted_of
  pasted_below p h k = made_at paste_at (length was) p 0 h ∙ paste_below p k

  pub pasted_inside : (p : ℕ) → p < length was → start ≤ p → p < start + width → get_or (pasted_of start width row was) p 0 ≡ get_or row (p - start) 0
  unfolding pasted_of
  pasted_inside p h k l = made_at paste_at (length was) p 0 h ∙ paste_inside p k l

  pub pasted_above : (p : ℕ) → start + width ≤ p → get_or (pasted_of start width row was) p 0 ≡ get_or was p 0
  unfolding pasted_of
  pasted_above p h = go (cases_lt p (length was))
    where
      go : (p < length was) ⊎ (length was ≤ p) → get_or (pasted_of start width row was) p 0 ≡ get_or was p 0
      go (inl k) = made_at paste_at (length was) p 0 k ∙ paste_above p h
      go (inr k) = made_past paste_at (length was) p 0 k ∙ sym (get_or_past was p 0 k)

module _ (q : List (List ℕ)) (count width : ℕ) (was : List ℕ) where
  abbrev pub rows_at : ℕ → ℕ
  rows_at p = cond (ltb p (count * width)) (get_or (get_or q (p / width) []) (p % width) 0) (get_or was p 0)

  -- coefficient i of row c stands at c·width + i
  pub rows_place : (c i : ℕ) → i < width → c < count → rows_at (c * width + i) ≡ get_or (get_or q c []) i 0
  rows_place c i h k =
      let a : ℕ = c * width in
      let b : ℕ = count * width in
      let e : (c + 1) * width ≡ c * width + 1 * width = add-mul c 1 width in
      let l : (c + 1) * width ≤ count * width = mul-le-mul {n₁ = c + 1} {m₁ = width} {n₂ = count} {m₂ = width} (omega arith) (omega arith) in
      let inside : c * width + i < count * width = omega arith in
      pick_below (c * width + i) (count * width) (get_or (get_or q ((c * width + i) / width) []) ((c * width + i) % width) 0) (get_or was (c * width + i) 0) inside
      ∙ ap₂ (λ x y. get_or (get_or q x []) y 0) (digits_div c h) (digits_mod c h)

  rows_none : Upto 0 rows_at was (0 * width) was
  rows_none =
      let e : 0 ≡ 0 * width = omega arith in subst (λ (n : ℕ). Upto 0 rows_at was n was) e (upto_none 0 rows_at was)

  rows_more : (c : ℕ) (xs ys : List ℕ)
      → c < count
      → Upto 0 rows_at was (c * width) xs
      → ys ≡ pasted_of (c * width) width (get_or q c []) xs
      → Upto 0 rows_at was ((c + 1) * width) ys
  rows_more c xs ys h u e =
      subst
      (Upto 0 rows_at was ((c + 1) * width))
      (sym e)
      (record {
        long = length_pasted start width row xs ∙ u.long;
        done = λ k l n. go k l n (cases_lt k start);
        left = λ k l. pasted_above start width row xs k (omega arith) ∙ u.left k (omega arith);
      })
    where
      start : ℕ
      start = c * width

      row : List ℕ
      row = get_or q c []

      end : (c + 1) * width ≡ c * width + 1 * width
      end = add-mul c 1 width

      go : (k : ℕ) → k < (c + 1) * width → k < length was → (k < start) ⊎ (start ≤ k) → get_or (pasted_of start width row xs) k 0 ≡ rows_at k
      go k l n (inl p) =
          let long : length xs ≡ length was = u.long in
          pasted_below start width row xs k (omega arith) p ∙ u.done k p n
      go k l n (inr p) =
          let long : length xs ≡ length was = u.long in
          let i : ℕ = k - start in
          let place : start + i ≡ k = omega arith in
          pasted_inside start width row xs k (omega arith) p (omega arith)
          ∙ sym (rows_place c i (omega arith) h)
          ∙ ap rows_at place

  rows_all : (c : ℕ) (xs : List ℕ) → count ≤ c → c ≤ count → Upto 0 rows_at was (c * width) xs → xs ≡ rows_of q count width was
  unfolding rows_of
  rows_all c xs h k u =
      let e : c ≡ count = omega arith in
      upto_all
      0
      rows_at
      was
      (length was)
      (c * width)
      xs
      refl
      u
      (λ j a b.
      let f : c * width ≡ count * width = ap (λ n. n * width) e in
      sym (pick_above j (count * width) (get_or (get_or q (j / width) []) (j % width) 0) (get_or was j 0) (omega arith)))

  pub rows_fit : (c : ℕ) → c < count → count ≤ 8 → width ≤ 256 → 2048 ≤ length was → c * width + width ≤ length was
  rows_fit c h k l n =
      let e : (c + 1) * width ≡ c * width + 1 * width = add-mul c 1 width in
      let m : (c + 1) * width ≤ 8 * 256 = mul-le-mul {n₁ = c + 1} {m₁ = width} {n₂ = 8} {m₂ = 256} (omega arith) l in
      omega arith

-- the workspace with the first c rows in it
unfoldable pub Copied : List (List ℕ) → ℕ → ℕ → List ℕ → ℕ → List ℕ → Type 0
Copied q count width was c xs = Upto 0 (rows_at q count width was) was (c * width) xs

module _ (q : List (List ℕ)) (count width : ℕ) (was : List ℕ) where
  pub copied_none : Copied q count width was 0 was
  unfolding Copied
  copied_none = rows_none q count width was

  -- one row more
  pub copied_more : (c : ℕ) (xs ys : List ℕ)
      → length q ≡ 8
      → count ≤ 8
      → c < length (take count q)
      → Copied q count width was c xs
      → ys ≡ pasted_of (c * width) width (get_or (take count q) c []) xs
      → Copied q count width was (c + 1) ys
  unfolding Copied
  copied_more c xs ys k few h u e =
      let f : length (take count q) ≡ min count (length q) = length-take count q in
      rows_more
      q
      count
      width
      was
      c
      xs
      ys
      (omega arith)
      u
      (e ∙ ap (λ row. pasted_of (c * width) width row xs) (get_or-take count q c [] (omega arith)))

  pub copied_all : (c : ℕ) (xs : List ℕ)
      → length q ≡ 8
      → count ≤ 8
      → length (take count q) ≤ c
      → c ≤ length (take count q)
      → Copied q count width was c xs
      → xs ≡ rows_of q count width was
  unfolding Copied
  copied_all c xs k few h l u =
      let f : length (take count q) ≡ min count (length q) = length-take count q in
      rows_all q count width was c xs (omega arith) (omega arith) u

  pub copied_fits : (c : ℕ) (xs : List ℕ)
      → length q ≡ 8
      → c < length (take count q)
      → count ≤ 8
      → width ≤ 256
      → 2048 ≤ length was
      → Copied q count width was c xs
      → c * width + width ≤ length xs
  unfolding Copied
  copied_fits c xs k h few narrow room u =
      let f : length (take count q) ≡ min count (length q) = length-take count q in
      let long : length xs ≡ length was = u.long in
      let fit : c * width + width ≤ length was = rows_fit q count width was c (omega arith) few narrow room in
      omega arith

pub length_cleared : (count : ℕ) (xs : List ℕ) → length (cleared_of count xs) ≡ length xs
unfolding cleared_of
length_cleared count xs = length_made (clear_at count xs) (length xs)

module _ (q : List (List ℕ)) (l bound : ℕ) (was : List ℕ) where
  -- a workspace that is too short
  pub flat_short : length was < 32768 → was ≡ flat_of q l bound was
  unfolding flat_of
  flat_short h = sym (pick_below (length was) 32768 was (rows_of q (min l 8) (min bound 256) (cleared_of 32768 was)) h)

  pub flat_done : (count width : ℕ) (xs ys : List ℕ)
      → 32768 ≤ length was
      → count ≡ min l 8
      → width ≡ min bound 256
      → xs ≡ cleared_of 32768 was
      → ys ≡ rows_of q count width xs
      → ys ≡ flat_of q l bound was
  unfolding flat_of
  flat_done count width xs ys h c w x y =
      y
      ∙ ap (rows_of q count width) x
      ∙ ap₂ (λ n k. rows_of q n k (cleared_of 32768 was)) c w
      ∙ sym (pick_above (length was) 32768 was (rows_of q (min l 8) (min bound 256) (cleared_of 32768 was)) h)

  module _ (enough : 32768 ≤ length was) where
    flat_is : flat_of q l bound was ≡ rows_of q (min l 8) (min bound 256) (cleared_of 32768 was)
    unfolding flat_of
    flat_is = pick_above (length was) 32768 was (rows_of q (min l 8) (min bound 256) (cleared_of 32768 was)) enough

    flat_at : (p : ℕ) → p < length was → get_or (flat_of q l bound was) p 0 ≡ rows_at q (min l 8) (min bound 256) (cleared_of 32768 was) p
    unfolding rows_of
    flat_at p h =
        let long : length (cleared_of 32768 was) ≡ length was = length_cleared 32768 was in
        ap (λ xs. get_or xs p 0) flat_is
        ∙ made_at (rows_at q (min l 8) (min bound 256) (cleared_of 32768 was)) (length (cleared_of 32768 was)) p 0 (omega arith)

    cleared_at : (p : ℕ) → p < length was → get_or (cleared_of 32768 was) p 0 ≡ clear_at 32768 was p
    unfolding cleared_of
    cleared_at p h = made_at (clear_at 32768 was) (length was) p 0 h

    pub flat_length : length (flat_of q l bound was) ≡ length was
    unfolding rows_of
    flat_length =
        ap length flat_is
        ∙ length_made (rows_at q (min l 8) (min bound 256) (cleared_of 32768 was)) (length (cleared_of 32768 was))
        ∙ length_cleared 32768 was

    -- coefficient i of row c
    pub flat_place : (c i : ℕ)
        → c < min l 8
        → i < min bound 256
        → get_or (flat_of q l bound was) (c * min bound 256 + i) 0 ≡ get_or (get_or q c []) i 0
    flat_place c i h k =
        let fit : c * min bound 256 + min bound 256 ≤ length was = rows_fit q (min l 8) (min bound 256) was c h (omega arith) (omega arith) (omega arith) in
        let n : ℕ = c * min bound 256 in
        flat_at (c * min bound 256 + i) (omega arith) ∙ rows_place q (min l 8) (min bound 256) (cleared_of 32768 was) c i k h

    -- 0 after the rows
    pub flat_rest : (p : ℕ) → min l 8 * min bound 256 ≤ p → p < 32768 → get_or (flat_of q l bound was) p 0 ≡ 0
    flat_rest p h k =
        flat_at p (omega arith)
        ∙ pick_above p (min l 8 * min bound 256) (get_or (get_or q (p / min bound 256) []) (p % min bound 256) 0) (get_or (cleared_of 32768 was) p 0) h
        ∙ cleared_at p (omega arith)
        ∙ pick_below p 32768 0 (get_or was p 0) k

    -- what stands after the first 32,768 numbers is as it was
    pub flat_beyond : (p : ℕ) → 32768 ≤ p → p < length was → get_or (flat_of q l bound was) p 0 ≡ get_or was p 0
    flat_beyond p h k =
        let m : min l 8 * min bound 256 ≤ 8 * 256 = mul-le-mul {n₁ = min l 8} {m₁ = min bound 256} {n₂ = 8} {m₂ = 256} (omega arith) (omega arith) in
        flat_at p k
        ∙ pick_above p (min l 8 * min bound 256) (get_or (get_or q (p / min bound 256) []) (p % min bound 256) 0) (get_or (cleared_of 32768 was) p 0) (omega arith)
        ∙ cleared_at p k
        ∙ pick_above p 32768 0 (get_or was p 0) h
