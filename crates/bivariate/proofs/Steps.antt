-- The steps of the loops by Horner's rule, from the highest coefficient down.
use Rattle.std.proofs.Common.{◌≡◌, ℕ, zero, suc, ◌+◌, ◌-◌, ◌<◌, ◌≤◌, min, cond, ltb, List, [], ◌∷◌, ◌++◌, length, take, drop, get_or, set, replicate, sym, refl, ap, ◌∙◌, ap₂, arith}
use Rattle.std.proofs.lemmas.List.{length-take}
use Rattle.field.specs.Meaning.{Meaning, sum_of, product_of}
use lib.ListN.{length-replicate, get_or-replicate}
use Rattle.bivariate.proofs.Backwards.{Left, left_all, left_more, left_read, left_length, length_first}
use Rattle.field.proofs.Making.{made_at, made_past, made_is, made_same}
use Rattle.bivariate.proofs.Parts.{Part, part_none, part_here, part_write, part_all, pick_below, pick_above, pick_same}
use Rattle.bivariate.specs.Horner.{entries, value_of, taylor_of, before, nested_of, pushed, expansion_of, coefficient_of}

module _ (m : Meaning) (a : ℕ) (cs : ℕ → ℕ) where
  pub value_none : (i n : ℕ) → n ≤ i → 0 ≡ value_of m a cs i (n - i)
  unfolding value_of
  value_none i n h = let e : 0 ≡ n - i = omega arith in ap (value_of m a cs i) e

  pub value_zero : (i : ℕ) → value_of m a cs i 0 ≡ 0
  unfolding value_of
  value_zero i = refl

  pub value_suc : (i n : ℕ) → value_of m a cs i (suc n) ≡ sum_of m (cs i) (product_of m a (value_of m a cs (suc i) n))
  unfolding value_of
  value_suc i n = refl

-- the coefficient i of c + (x + a)·row
abbrev pub nested_at : Meaning → ℕ → ℕ → ℕ → List ℕ → ℕ → ℕ
nested_at m len a c row i =
    cond (ltb i len) (sum_of m (before c row i) (product_of m a (get_or row i 0))) (get_or row i 0)

pub before_zero : (c : ℕ) (h : List ℕ) → c ≡ before c h 0
unfolding before
before_zero c h = refl

pub before_suc : (c : ℕ) (h : List ℕ) (r : ℕ) → before c h (suc r) ≡ get_or h r 0
unfolding before
before_suc c h r = refl

-- below i the first n coefficients are those of c + (x + a)·row, and what is carried on is the coefficient before i
unfoldable pub Nested : Meaning → ℕ → ℕ → ℕ → List ℕ → ℕ → ℕ → List ℕ → ℕ → Type 0
Nested m len a c was n i xs carry = Part 0 (nested_at m len a c was) was n i xs × (carry ≡ before c was i)

module _ (m : Meaning) (len a c : ℕ) (was : List ℕ) where
  pub nested_none : (n : ℕ) → Nested m len a c was (length (take n was)) 0 (take n was) c
  unfolding Nested
  nested_none n = (part_none 0 (nested_at m len a c was) was n, before_zero c was)

  pub nested_more : (n size i : ℕ) (xs : List ℕ) (carry sum : ℕ)
      → n ≡ min len size
      → i < length (take n was)
      → Nested m len a c was (length (take n was)) i xs carry
      → sum ≡ sum_of m carry (product_of m a (get_or xs i 0))
      → Nested m len a c was (length (take n was)) (i + 1) (set xs i sum) (get_or xs i 0)
  unfolding Nested
  nested_more n size i xs carry sum q l u s =
      let old : get_or xs i 0 ≡ get_or was i 0 = part_here 0 (nested_at m len a c was) was _ i xs l u.0 in
      let up : suc i ≡ i + 1 = omega arith in
      let long : length (take n was) ≡ min n (length was) = length-take n was in (
        part_write
            0
            (nested_at m len a c was)
            was
            _
            i
            xs
            sum
            l
            u.0
            (s
            ∙ ap₂ (λ x y. sum_of m x (product_of m a y)) u.1 old
            ∙ sym (pick_below i len (sum_of m (before c was i) (product_of m a (get_or was i 0))) (get_or was i 0) (omega arith))),
        old ∙ sym (before_suc c was i) ∙ ap (before c was) up,
      )

  pub nested_all : (n size i : ℕ) (xs : List ℕ) (carry : ℕ)
      → length was ≡ size
      → n ≡ min len size
      → length (take n was) ≤ i
      → Nested m len a c was (length (take n was)) i xs carry
      → xs ++ drop n was ≡ nested_of size m len a c was
  unfolding nested_of Nested
  nested_all n size i xs carry e q h u =
      part_all
      0
      (nested_at m len a c was)
      was
      n
      size
      i
      xs
      e
      (omega arith)
      h
      u.0
      (λ k l j. sym (pick_above k len (sum_of m (before c was k) (product_of m a (get_or was k 0))) (get_or was k 0) (omega arith)))

module _ (m : Meaning) (a : ℕ) (cs : ℕ → ℕ) where
  pub taylor_zero : (i n r : ℕ) → n ≡ 0 → 0 ≡ taylor_of m a cs i n r
  unfolding taylor_of
  taylor_zero i n r e = ap (λ k. taylor_of m a cs i k r) (sym e)

  pub taylor_suc_zero : (i n : ℕ) → taylor_of m a cs i (suc n) 0 ≡ sum_of m (cs i) (product_of m a (taylor_of m a cs (suc i) n 0))
  unfolding taylor_of
  taylor_suc_zero i n = refl

  pub taylor_suc_suc : (i n r : ℕ)
      → taylor_of m a cs i (suc n) (suc r)
      ≡ sum_of m (taylor_of m a cs (suc i) n r) (product_of m a (taylor_of m a cs (suc i) n (suc r)))
  unfolding taylor_of
  taylor_suc_suc i n r = refl

  pub expansion_at : (i n order r : ℕ) → r < 8 → r < order → get_or (expansion_of m a cs i n order) r 0 ≡ taylor_of m a cs i n r
  unfolding expansion_of
  expansion_at i n order r h k =
      made_at (λ r. cond (ltb r order) (taylor_of m a cs i n r) 0) 8 r 0 h ∙ pick_below r order (taylor_of m a cs i n r) 0 k

  pub expansion_past : (i n order r : ℕ) → r < 8 → order ≤ r → get_or (expansion_of m a cs i n order) r 0 ≡ 0
  unfolding expansion_of
  expansion_past i n order r h k =
      made_at (λ r. cond (ltb r order) (taylor_of m a cs i n r) 0) 8 r 0 h ∙ pick_above r order (taylor_of m a cs i n r) 0 k

  pub expansion_outside : (i n order r : ℕ) → 8 ≤ r → get_or (expansion_of m a cs i n order) r 0 ≡ 0
  unfolding expansion_of
  expansion_outside i n order r h = made_past (λ r. cond (ltb r order) (taylor_of m a cs i n r) 0) 8 r 0 h

  pub expansion_none : (i n order : ℕ) → n ≤ i → replicate {A = ℕ} 8 0 ≡ expansion_of m a cs i (n - i) order
  unfolding expansion_of
  expansion_none i n order h =
      let e : n - i ≡ 0 = omega arith in
      made_is
      (λ r. cond (ltb r order) (taylor_of m a cs i (n - i) r) 0)
      (replicate {A = ℕ} 8 0)
      8
      0
      (length-replicate {A = ℕ} 8 0)
      (λ k l. get_or-replicate {A = ℕ} 8 k 0 0 l ∙ sym (pick_same k order (taylor_of m a cs i (n - i) k) 0 0 (λ _. sym (taylor_zero i (n - i) k e)) (λ _. refl)))

  push_expansion : (i n order : ℕ) → pushed m order a (cs i) (expansion_of m a cs (suc i) n order) ≡ expansion_of m a cs i (suc n) order
  unfolding pushed nested_of expansion_of
  push_expansion i n order =
      made_same
      (nested_at m order a (cs i) h)
      (λ r. cond (ltb r order) (taylor_of m a cs i (suc n) r) 0)
      8
      0
      (λ r l. pick_same
      r
      order
      (sum_of m (before (cs i) h r) (product_of m a (get_or h r 0)))
      (get_or h r 0)
      (cond (ltb r order) (taylor_of m a cs i (suc n) r) 0)
      (λ k. inner r l k ∙ sym (pick_below r order (taylor_of m a cs i (suc n) r) 0 k))
      (λ k. expansion_past (suc i) n order r l k ∙ sym (pick_above r order (taylor_of m a cs i (suc n) r) 0 k)))
    where
      h : List ℕ
      h = expansion_of m a cs (suc i) n order

      inner : (r : ℕ) → r < 8 → r < order → sum_of m (before (cs i) h r) (product_of m a (get_or h r 0)) ≡ taylor_of m a cs i (suc n) r
      inner zero l k =
          ap₂ (λ x y. sum_of m x (product_of m a y)) (sym (before_zero (cs i) h)) (expansion_at (suc i) n order 0 l k)
          ∙ sym (taylor_suc_zero i n)
      inner (suc r) l k =
          ap₂
          (λ x y. sum_of m x (product_of m a y))
          (before_suc (cs i) h r ∙ expansion_at (suc i) n order r (omega arith) (omega arith))
          (expansion_at (suc i) n order (suc r) l k)
          ∙ sym (taylor_suc_suc i n r)

-- the expansion of what was read of a row, from the highest coefficient down
unfoldable pub Expanding : Meaning → ℕ → ℕ → List ℕ → ℕ → List ℕ → List ℕ → Type 0
Expanding m a order row n rest h =
    Left 0 row n rest × (h ≡ expansion_of m a (entries row) (length rest) (n - length rest) order)

module _ (m : Meaning) (a order : ℕ) (row : List ℕ) (n : ℕ) where
  pub expanding_none : n ≤ length row → Expanding m a order row n (take n row) (replicate {A = ℕ} 8 0)
  unfolding Expanding
  expanding_none h =
      let e : length (take n row) ≡ n = length_first 0 row n h in
      (left_all 0 row n h, expansion_none m a (entries row) (length (take n row)) n order (omega arith))

  -- one coefficient more, in front
  pub expanding_more : (rest new : List ℕ) (c : ℕ) (h pushed' : List ℕ)
      → Expanding m a order row n rest h
      → rest ≡ new ++ c ∷ []
      → pushed' ≡ nested_of 8 m order a c h
      → Expanding m a order row n new pushed'
  unfolding Expanding pushed
  expanding_more rest new c h pushed' u is p =
      let i : ℕ = length new in
      let up : length rest ≡ suc i = left_length 0 row n rest new c is u.0 in
      let few : length rest ≤ n = u.0.short in
      let back : n - i ≡ suc (n - length rest) = omega arith in (
        left_more 0 row n rest new c is u.0,
        p
            ∙ ap₂ (pushed m order a) (left_read 0 row n rest new c is u.0) (u.1 ∙ ap (λ x. expansion_of m a (entries row) x (n - length rest) order) up)
            ∙ push_expansion m a (entries row) i (n - length rest) order
            ∙ ap (λ x. expansion_of m a (entries row) i x order) (sym back),
      )

  pub expanding_all : (rest h : List ℕ) → Expanding m a order row n rest h → length rest ≡ 0 → h ≡ expansion_of m a (entries row) 0 n order
  unfolding Expanding
  expanding_all rest h u e =
      let q : n - length rest ≡ n = omega arith in
      u.1 ∙ ap₂ (λ x y. expansion_of m a (entries row) x y order) e q

-- the value of what was read of a row, from the highest coefficient down
unfoldable pub Evaluating : Meaning → ℕ → List ℕ → ℕ → List ℕ → ℕ → Type 0
Evaluating m a row n rest v = Left 0 row n rest × (v ≡ value_of m a (entries row) (length rest) (n - length rest))

module _ (m : Meaning) (a : ℕ) (row : List ℕ) (n : ℕ) where
  pub evaluating_none : n ≤ length row → Evaluating m a row n (take n row) 0
  unfolding Evaluating
  evaluating_none h =
      let e : length (take n row) ≡ n = length_first 0 row n h in
      (left_all 0 row n h, value_none m a (entries row) (length (take n row)) n (omega arith))

  -- one coefficient more, in front
  pub evaluating_more : (rest new : List ℕ) (c v next : ℕ)
      → Evaluating m a row n rest v
      → rest ≡ new ++ c ∷ []
      → next ≡ sum_of m c (product_of m a v)
      → Evaluating m a row n new next
  unfolding Evaluating
  evaluating_more rest new c v next u is s =
      let i : ℕ = length new in
      let up : length rest ≡ suc i = left_length 0 row n rest new c is u.0 in
      let few : length rest ≤ n = u.0.short in
      let back : n - i ≡ suc (n - length rest) = omega arith in (
        left_more 0 row n rest new c is u.0,
        s
            ∙ ap₂
            (λ x y. sum_of m x (product_of m a y))
            (left_read 0 row n rest new c is u.0)
            (u.1 ∙ ap (λ x. value_of m a (entries row) x (n - length rest)) up)
            ∙ sym (value_suc m a (entries row) i (n - length rest))
            ∙ ap (value_of m a (entries row) i) (sym back),
      )

  pub evaluating_all : (rest : List ℕ) (v : ℕ) → Evaluating m a row n rest v → length rest ≡ 0 → v ≡ value_of m a (entries row) 0 n
  unfolding Evaluating
  evaluating_all rest v u e =
      let q : n - length rest ≡ n = omega arith in
      u.1 ∙ ap₂ (value_of m a (entries row)) e q

module _ (m : Meaning) (a : ℕ) (cs : ℕ → ℕ) where
  -- the coefficient that was asked for
  pub coefficient_read : (n r : ℕ) (h : List ℕ) → r < 8 → h ≡ expansion_of m a cs 0 n (r + 1) → get_or h r 0 ≡ coefficient_of m a cs n r
  unfolding coefficient_of
  coefficient_read n r h l e =
      ap (λ x. get_or x r 0) e
      ∙ expansion_at m a cs 0 n (r + 1) r l (omega arith)
      ∙ sym (pick_below r 8 (taylor_of m a cs 0 n r) 0 l)

  pub coefficient_none : (n r : ℕ) → 8 ≤ r → 0 ≡ coefficient_of m a cs n r
  unfolding coefficient_of
  coefficient_none n r l = sym (pick_above r 8 (taylor_of m a cs 0 n r) 0 l)
