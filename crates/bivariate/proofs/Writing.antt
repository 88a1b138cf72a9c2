-- The steps of the loops that write rows and polynomials.
use Rattle.std.proofs.Common.{◌≡◌, ℕ, ◌+◌, ◌-◌, ◌*◌, ◌^◌, ◌<◌, ◌≤◌, min, cond, ltb, List, [], ◌++◌, length, take, drop, get_or, set, sym, ap, ◌∙◌, arith}
use Rattle.std.proofs.lemmas.List.{length-take}
use Rattle.field.specs.Meaning.{Meaning, sum_of, negative_of, product_of}
use Rattle.bivariate.specs.Combinations.{row_length, plus_of, minus_of, times_of, changed, minus_polynomial_of, times_polynomial_of}
use Rattle.bivariate.specs.Roots.{lower_row, lower_of, raise_row, raise_of}
use Rattle.field.proofs.Making.{Upto, upto_none, upto_here, upto_write, upto_all}
use Rattle.bivariate.proofs.Parts.{Part, part_here, part_write, part_all, pick_below, pick_above}

pub row_length_is : (bound weight c product difference result : ℕ)
    → bound < 2 ^ 64
    → product ≡ min (c * weight) (2 ^ 64 - 1)
    → difference ≡ bound - product
    → result ≡ min difference 256
    → result ≡ row_length bound weight c
unfolding row_length
row_length_is bound weight c product difference result f p d r =
    let n : ℕ = c * weight in
    let e : difference ≡ bound - n = omega arith in
    r ∙ ap (λ x. min x 256) e

pub row_length_short : (bound weight c : ℕ) → min (row_length bound weight c) 256 ≡ row_length bound weight c
unfolding row_length
row_length_short bound weight c = let n : ℕ = bound - c * weight in let e : min (min n 256) 256 ≡ min n 256 = omega arith in e

pub row_length_clipped : (bound weight c n : ℕ) → n ≡ row_length bound weight c → min n 256 ≡ row_length bound weight c
row_length_clipped bound weight c n e = ap (λ k. min k 256) e ∙ row_length_short bound weight c

-- the coefficient i of the sum
abbrev pub plus_at : Meaning → ℕ → ℕ → List ℕ → List ℕ → ℕ → ℕ
plus_at m k len target source i =
    cond (ltb i len) (sum_of m (get_or target i 0) (product_of m k (get_or source i 0))) (get_or target i 0)

module _ (m : Meaning) (k len : ℕ) (was source : List ℕ) where
  pub plus_more : (n i : ℕ) (xs : List ℕ) (sum : ℕ)
      → n ≡ min len 256
      → i < length (take n was)
      → Part 0 (plus_at m k len was source) was (length (take n was)) i xs
      → sum ≡ sum_of m (get_or xs i 0) (product_of m k (get_or source i 0))
      → Part 0 (plus_at m k len was source) was (length (take n was)) (i + 1) (set xs i sum)
  plus_more n i xs sum l h u s =
      let long : length (take n was) ≡ min n (length was) = length-take n was in
      part_write
      0
      (plus_at m k len was source)
      was
      _
      i
      xs
      sum
      h
      u
      (s
      ∙ ap (λ x. sum_of m x (product_of m k (get_or source i 0))) (part_here 0 (plus_at m k len was source) was _ i xs h u)
      ∙ sym (pick_below i len (sum_of m (get_or was i 0) (product_of m k (get_or source i 0))) (get_or was i 0) (omega arith)))

  pub plus_all : (n i : ℕ) (xs : List ℕ)
      → length was ≡ 256
      → n ≡ min len 256
      → length (take n was) ≤ i
      → Part 0 (plus_at m k len was source) was (length (take n was)) i xs
      → xs ++ drop n was ≡ plus_of m k len was source
  unfolding plus_of
  plus_all n i xs e q h u =
      part_all
      0
      (plus_at m k len was source)
      was
      n
      256
      i
      xs
      e
      (omega arith)
      h
      u
      (λ j a b. sym (pick_above j len (sum_of m (get_or was j 0) (product_of m k (get_or source j 0))) (get_or was j 0) (omega arith)))

-- row c of a polynomial whose rows below l are made anew
abbrev pub changing : ℕ → (ℕ → List ℕ → List ℕ) → List (List ℕ) → ℕ → List ℕ
changing l f q c = cond (ltb c l) (f c (get_or q c [])) (get_or q c [])

module _ (l : ℕ) (f : ℕ → List ℕ → List ℕ) (was : List (List ℕ)) where
  pub changed_more : (n c : ℕ) (xs : List (List ℕ)) (row : List ℕ)
      → n ≡ min l 8
      → c < length (take n was)
      → Part [] (changing l f was) was (length (take n was)) c xs
      → row ≡ f c (get_or xs c [])
      → Part [] (changing l f was) was (length (take n was)) (c + 1) (set xs c row)
  changed_more n c xs row k h u e =
      let long : length (take n was) ≡ min n (length was) = length-take n was in
      part_write
      []
      (changing l f was)
      was
      _
      c
      xs
      row
      h
      u
      (e
      ∙ ap (f c) (part_here [] (changing l f was) was _ c xs h u)
      ∙ sym (pick_below c l (f c (get_or was c [])) (get_or was c []) (omega arith)))

  pub changed_all : (n c : ℕ) (xs : List (List ℕ))
      → length was ≡ 8
      → n ≡ min l 8
      → length (take n was) ≤ c
      → Part [] (changing l f was) was (length (take n was)) c xs
      → xs ++ drop n was ≡ changed l f was
  unfolding changed
  changed_all n c xs e q h u =
      part_all
      []
      (changing l f was)
      was
      n
      8
      c
      xs
      e
      (omega arith)
      h
      u
      (λ j a b. sym (pick_above j l (f j (get_or was j [])) (get_or was j []) (omega arith)))

module _ (m : Meaning) (k l bound weight : ℕ) (was source : List (List ℕ)) where
  -- what a difference makes of row c
  abbrev pub minus_row : ℕ → List ℕ → List ℕ
  minus_row c row = minus_of m k (row_length bound weight c) row (get_or source c [])

  pub minus_more : (n c len : ℕ) (xs : List (List ℕ)) (row : List ℕ)
      → n ≡ min l 8
      → c < length (take n was)
      → Part [] (changing l minus_row was) was (length (take n was)) c xs
      → len ≡ row_length bound weight c
      → row ≡ minus_of m k len (get_or xs c []) (get_or source c [])
      → Part [] (changing l minus_row was) was (length (take n was)) (c + 1) (set xs c row)
  minus_more n c len xs row q h u e r =
      changed_more l minus_row was n c xs row q h u (r ∙ ap (λ j. minus_of m k j (get_or xs c []) (get_or source c [])) e)

  pub minus_all : (n c : ℕ) (xs : List (List ℕ))
      → length was ≡ 8
      → n ≡ min l 8
      → length (take n was) ≤ c
      → Part [] (changing l minus_row was) was (length (take n was)) c xs
      → xs ++ drop n was ≡ minus_polynomial_of m k l bound weight was source
  unfolding minus_polynomial_of
  minus_all n c xs e q h u = changed_all l minus_row was n c xs e q h u

module _ (m : Meaning) (a l bound weight : ℕ) (was : List (List ℕ)) where
  -- what a product makes of row c
  abbrev pub times_row : ℕ → List ℕ → List ℕ
  times_row c row = times_of m a (row_length bound weight c) row

  pub times_more : (n c len : ℕ) (xs : List (List ℕ)) (row : List ℕ)
      → n ≡ min l 8
      → c < length (take n was)
      → Part [] (changing l times_row was) was (length (take n was)) c xs
      → len ≡ row_length bound weight c
      → row ≡ times_of m a len (get_or xs c [])
      → Part [] (changing l times_row was) was (length (take n was)) (c + 1) (set xs c row)
  times_more n c len xs row q h u e r =
      changed_more l times_row was n c xs row q h u (r ∙ ap (λ j. times_of m a j (get_or xs c [])) e)

  pub times_all : (n c : ℕ) (xs : List (List ℕ))
      → length was ≡ 8
      → n ≡ min l 8
      → length (take n was) ≤ c
      → Part [] (changing l times_row was) was (length (take n was)) c xs
      → xs ++ drop n was ≡ times_polynomial_of m a l bound weight was
  unfolding times_polynomial_of
  times_all n c xs e q h u = changed_all l times_row was n c xs e q h u

-- rows below c made anew, in a loop over all of them
unfoldable pub Changing : (ℕ → List ℕ → List ℕ) → List (List ℕ) → ℕ → List (List ℕ) → Type 0
Changing f was c xs = Upto [] (changing 8 f was) was c xs

module _ (f : ℕ → List ℕ → List ℕ) (was : List (List ℕ)) where
  pub changing_none : Changing f was 0 was
  unfolding Changing
  changing_none = upto_none [] (changing 8 f was) was

  pub changing_more : (c : ℕ) (xs : List (List ℕ)) (row : List ℕ)
      → length was ≡ 8
      → c < 8
      → Changing f was c xs
      → row ≡ f c (get_or xs c [])
      → Changing f was (c + 1) (set xs c row)
  unfolding Changing
  changing_more c xs row h k u e =
      upto_write
      []
      (changing 8 f was)
      was
      c
      xs
      row
      (omega arith)
      u
      (e
      ∙ ap (f c) (upto_here [] (changing 8 f was) was c xs u)
      ∙ sym (pick_below c 8 (f c (get_or was c [])) (get_or was c []) k))

  changing_all : (c : ℕ) (xs : List (List ℕ)) → length was ≡ 8 → 8 ≤ c → Changing f was c xs → xs ≡ changed 8 f was
  unfolding Changing changed
  changing_all c xs h k u = upto_all [] (changing 8 f was) was 8 c xs h u (λ j a b. absurd (omega arith))

pub lowering_all : (was : List (List ℕ)) (c : ℕ) (xs : List (List ℕ))
    → length was ≡ 8
    → 8 ≤ c
    → Changing (λ _ row. lower_row row) was c xs
    → xs ≡ lower_of was
unfolding lower_of
lowering_all was c xs h k u = changing_all (λ _ row. lower_row row) was c xs h k u

pub raising_all : (was : List (List ℕ)) (c : ℕ) (xs : List (List ℕ))
    → length was ≡ 8
    → 8 ≤ c
    → Changing raise_row was c xs
    → xs ≡ raise_of was
unfolding raise_of
raising_all was c xs h k u = changing_all raise_row was c xs h k u

pub minus_is : (m : Meaning) (k len negative : ℕ) (was source xs : List ℕ)
    → negative ≡ negative_of m k
    → xs ≡ plus_of m negative len was source
    → xs ≡ minus_of m k len was source
unfolding minus_of
minus_is m k len negative was source xs e p = p ∙ ap (λ n. plus_of m n len was source) e
