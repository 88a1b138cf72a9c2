-- The words near the word heard are the words of those roots that are near it.
use Rattle.std.proofs.Common.{◌≡◌, ℕ, suc, ◌-◌, ◌<◌, ◌≤◌, ◌⊎◌, List, [], ◌∷◌, map, length, get_or, take, sym, refl, ap, ◌∙◌, subst, ap₂, inl, inr, arith}
use Rattle.std.specs.Ordering.{is_lt, nat_cmp}
use Rattle.std.specs.List.Sorted.{IsPermutation, IsSortedWithin}
use Rattle.std.proofs.lemmas.List.{get_or-take, get_or-map, length-map, length-take-le}
use Rattle.std.proofs.lemmas.List.Sorted.{IsPermutation-sym}
use Rattle.std.proofs.ByRecursion.{has_shuffled}
use Rattle.std.proofs.lemmas.Bool.{cases_lt}
use Rattle.algebra.specs.Operations.{Operations, Lawful}
use Rattle.algebra.specs.Ring.{CommRing}
use Rattle.algebra.specs.Elements.{Elem, element_ring, elements, into}
use Rattle.algebra.specs.Bivariate.{Bivariate}
use Rattle.algebra.specs.Koetter.{Interpolates}
use Rattle.algebra.specs.Members.{Member}
use Rattle.algebra.specs.RootSearch.{Root}
use Rattle.algebra.specs.RootList.{ListsRoots}
use Rattle.algebra.proofs.Elements.{into_number}
use Rattle.algebra.proofs.Completeness.{complete, distinct_by_abscissae}
use Rattle.algebra.proofs.ListMembers.{member_at, separate_members}
use Rattle.field.specs.Meaning.{Meaning, operations}
use Rattle.plan.specs.declared.Plan.{Plan}
use Rattle.poly.specs.Polynomials.{Polynomial}
use Rattle.code.specs.Codes.{InCode, Evaluates}
use Rattle.code.specs.Decoding.{Near, candidate_of, Kept}
use Rattle.code.specs.Listing.{distance, Earlier, Rising, Nearby, weight_of, width_of}
use Rattle.code.proofs.PlacesHeard as places
use Rattle.code.proofs.Codewords.{evaluated_length, evaluated_past, word_of, word_is, in_code, near_word, one_word, series, series_below, goes_through, lift, lift_series, numbers_lift}
use Rattle.code.proofs.Sorting.{Different, shuffled_different, member_index, rising_from, sorted_earlier}
use Rattle.std.specs.Cmp.Lexicographic.{slice_cmp}

module _ (p : Plan) (m : Meaning) (law : Lawful (operations m)) (same : p.size ≡ m.size) (heard : List ℕ) (heard_long : length heard ≡ p.n) (Q : Bivariate (Elem (operations m))) (interpolates : Interpolates (element_ring (operations m) law) (weight_of p) (width_of p) p.l (places.lifted p m law same heard 0 p.n) Q) where
  abbrev o : Operations
  o = operations m

  abbrev R : CommRing (Elem o)
  R = element_ring o law

  -- the polynomial of a near word is a root of Q
  pub near_root : (f w : List ℕ) → length w ≡ p.n → Evaluates p m f w → distance w heard ≤ p.w → Root R p.l Q (series p m law same f)
  near_root f w long v close =
      complete
      (elements o law)
      (places.lifted p m law same heard 0 p.n)
      p.l
      (weight_of p)
      (width_of p)
      Q
      (series p m law same f)
      (distinct_by_abscissae _ (places.distinct p m law same heard 0 p.n (omega arith)))
      interpolates.weighted
      interpolates.vanishes
      (series_below p m law same f v.polynomial)
      (places.enough p m law same heard (suc (weight_of p)) (series p m law same f) w long heard_long close (λ i h. goes_through p m law same f w heard i v h))

  module _ (cs : List (List ℕ)) (roots : List (List (Elem o))) (all : ListsRoots R p.l (suc (weight_of p)) Q roots) (coefficients : (i : ℕ) → i < length roots → take (suc (weight_of p)) (get_or cs i []) ≡ map (λ (a : Elem o). a.0) (get_or roots i [])) where
    -- the coefficients of candidate i
    abbrev candidate : ℕ → List ℕ
    candidate i = take (p.n - p.t) (get_or cs i [])

    -- the coefficients of root i as numbers
    abbrev root : ℕ → List ℕ
    root i = map (λ (a : Elem o). a.0) (get_or roots i [])

    dimension : suc (weight_of p) ≡ p.n - p.t
    dimension = let k : p.t < p.n = p.t_high in omega arith

    candidate_is : (i : ℕ) → i < length roots → candidate i ≡ root i
    candidate_is i h = ap (λ n. take n (get_or cs i [])) (sym dimension) ∙ coefficients i h

    root_polynomial : (r : List (Elem o)) → length r ≡ suc (weight_of p) → Polynomial m (p.n - p.t) (map (λ (a : Elem o). a.0) r)
    root_polynomial r e = (
      length-map r (λ (a : Elem o). a.0) ∙ e ∙ dimension,
      λ i h.
          let l : length (map (λ (a : Elem o). a.0) r) ≡ length r = length-map r (λ (a : Elem o). a.0) in
          subst
          (λ (x : ℕ). x < m.size)
          (sym (get_or-map (λ (a : Elem o). a.0) r i R.zero 0 (omega arith)))
          (get_or r i R.zero).1,
    )

    candidate_polynomial : (i : ℕ) → i < length roots → Polynomial m (p.n - p.t) (candidate i)
    candidate_polynomial i h =
        subst
        (Polynomial m (p.n - p.t))
        (sym (candidate_is i h))
        (root_polynomial (get_or roots i []) (all.long (get_or roots i []) (member_at roots i [] h)))

    lift_numbers : (r : List (Elem o)) → lift p m law same (map (λ (a : Elem o). a.0) r) ≡ r
    lift_numbers [] = refl
    lift_numbers (a ∷ r) = ap₂ (λ x xs. x ∷ xs) (into_number o law a) (lift_numbers r)

    -- no two candidates have the same word
    pub candidates_differ : (i j : ℕ) → i < j → j < length roots → candidate_of p m cs i ≡ candidate_of p m cs j → ⊥
    candidates_differ i j l h e =
        let k : i < length roots = omega arith in
        let f : candidate i ≡ candidate j
        = one_word p m law same (candidate i) (candidate j) (candidate_polynomial i k) (candidate_polynomial j h) (ap (take p.n) e) in
        let g : root i ≡ root j = sym (candidate_is i k) ∙ f ∙ candidate_is j h in
        let r : get_or roots i [] ≡ get_or roots j []
        = sym (lift_numbers (get_or roots i [])) ∙ ap (lift p m law same) g ∙ lift_numbers (get_or roots j []) in
        let t : i ≡ j = separate_members roots [] all.once i j k h r in
        omega arith

    -- a root with n − t coefficients is one of the candidates
    pub root_candidate : (f : List ℕ) → Polynomial m (p.n - p.t) f → Root R p.l Q (series p m law same f) → (i : ℕ) × (i < length roots) × (candidate i ≡ f)
    root_candidate f b r =
        let long : length (lift p m law same f) ≡ suc (weight_of p) = length-map f (into o law) ∙ b.0 ∙ sym dimension in
        let listed : Member (lift p m law same f) roots
        = all.whole (lift p m law same f) long (subst (Root R p.l Q) (sym (lift_series p m law same f)) r) in
        let i = member_index (lift p m law same f) roots listed in (
          i.0,
          i.1,
          candidate_is i.0 i.1 ∙ ap (map (λ (a : Elem o). a.0)) (i.2 []) ∙ numbers_lift p m law same f b.1,
        )

    module _ (ws zs : List (List ℕ)) (kept : Kept p m heard cs (length roots) ws) (shuffled : IsPermutation ws zs) where
      -- a member of one list is one of the other
      shuffled_member : (xs ys : List (List ℕ)) → IsPermutation xs ys → (w : List ℕ) → Member w xs → Member w ys
      shuffled_member xs ys s w h =
          let j = has_shuffled xs ys w s (member_index w xs h) in
          subst (λ v. Member v ys) (j.2 w) (member_at ys j.0 w j.1)

      -- what stands in the list is the word of a near candidate
      listed_near : (z : List ℕ) → Member z zs → Near p m heard z × ((i : ℕ) × (i < length roots) × (z ≡ candidate_of p m cs i))
      listed_near z h = kept.sound z (shuffled_member zs ws (IsPermutation-sym ws zs shuffled) z h)

      map_member : (xs : List (List ℕ)) (w : List ℕ) → Member w (map (take p.n) xs) → (z : List ℕ) × Member z xs × (w ≡ take p.n z)
      map_member [] w h = absurd h
      map_member (x ∷ xs) w (inl e) = (x, inl refl, e)
      map_member (x ∷ xs) w (inr h) = let r = map_member xs w h in (r.0, inr r.1, r.2)

      member_map : (xs : List (List ℕ)) (z : List ℕ) → Member z xs → Member (take p.n z) (map (take p.n) xs)
      member_map [] z h = absurd h
      member_map (x ∷ xs) z (inl e) = inl (ap (take p.n) e)
      member_map (x ∷ xs) z (inr h) = inr (member_map xs z h)

      sound : (w : List ℕ) → Member w (map (take p.n) zs) → InCode p m w × (distance w heard ≤ p.w)
      sound w h =
          let r = map_member zs w h in
          let z = listed_near r.0 r.1 in
          let e : w ≡ word_of p m (candidate z.1.0) = r.2 ∙ ap (take p.n) z.1.2 in
          let n : Near p m heard (candidate_of p m cs z.1.0) = subst (Near p m heard) z.1.2 z.0 in (
            subst (InCode p m) (sym e) (in_code p m (candidate z.1.0) (candidate_polynomial z.1.0 z.1.1) n.letters),
            subst (λ v. distance v heard ≤ p.w) (sym e) n.close,
          )

      whole : (w : List ℕ) → InCode p m w × (distance w heard ≤ p.w) → Member w (map (take p.n) zs)
      whole w h =
          let f : List ℕ = h.0.evaluation.0 in
          let v : Evaluates p m f w = h.0.evaluation.1 in
          let i = root_candidate f v.polynomial (near_root f w h.0.long v h.1) in
          let e : word_of p m (candidate i.0) ≡ w = ap (word_of p m) i.2 ∙ word_is p m f w h.0.long v in
          let n : Near p m heard (candidate_of p m cs i.0) = near_word p m heard (candidate i.0) w e h.0.letters h.1 in
          subst
          (λ x. Member x (map (take p.n) zs))
          e
          (member_map zs (candidate_of p m cs i.0) (shuffled_member ws zs shuffled _ (kept.whole i.0 i.1 n)))

      different : Different zs
      different = shuffled_different ws zs (separate_members ws [] (kept.once candidates_differ)) shuffled

      -- what is known of each word of the list by its place
      at_place : (i : ℕ) → i < length zs → Near p m heard (get_or zs i []) × ((j : ℕ) × (j < length roots) × (get_or zs i [] ≡ candidate_of p m cs j))
      at_place i h = listed_near (get_or zs i []) (member_at zs i [] h)

      tall : (i : ℕ) → i < length zs → length (get_or zs i []) ≡ 64
      tall i h = let r = at_place i h in ap length r.1.2 ∙ evaluated_length p m (candidate r.1.0)

      -- beyond the word the array is 0
      padded : (i k : ℕ) → i < length zs → p.n ≤ k → get_or (get_or zs i []) k 0 ≡ 0
      padded i k h l = let r = at_place i h in ap (λ z. get_or z k 0) r.1.2 ∙ evaluated_past p m (candidate r.1.0) k l

      -- an array comes before another where its word does
      word_earlier : (y z : List ℕ)
          → ((k : ℕ) → p.n ≤ k → get_or z k 0 ≡ 0)
          → Earlier y z
          → Earlier (take p.n y) (take p.n z)
      word_earlier y z pad e =
          record {
            place = e.place;
            same = λ i h. let t : i < p.n = let k = inside in omega arith in get_or-take p.n y i 0 t ∙ e.same i h ∙ sym (get_or-take p.n z i 0 t);
            smaller =
                subst
                (λ (a : ℕ). a < get_or (take p.n z) e.place 0)
                (sym (get_or-take p.n y e.place 0 inside))
                (subst (λ (b : ℕ). get_or y e.place 0 < b) (sym (get_or-take p.n z e.place 0 inside)) e.smaller);
          }
        where
          go : (e.place < p.n) ⊎ (p.n ≤ e.place) → e.place < p.n
          go (inl h) = h
          go (inr h) = absurd (let a = pad e.place h in let b = e.smaller in omega arith)

          inside : e.place < p.n
          inside = go (cases_lt e.place p.n)

      module _ (up : IsSortedWithin (λ x y. is_lt (slice_cmp nat_cmp x y)) zs 0 (length zs)) where
        rising : Rising (map (take p.n) zs)
        rising =
            rising_from
            (map (take p.n) zs)
            (λ i j h k.
            let l : length (map (take p.n) zs) ≡ length zs = length-map zs (take p.n) in
            let t : j < length zs = omega arith in
            let s : i < length zs = omega arith in
            subst
            (λ v. Earlier v (get_or (map (take p.n) zs) j []))
            (sym (get_or-map (take p.n) zs i [] [] s))
            (subst
            (Earlier (take p.n (get_or zs i [])))
            (sym (get_or-map (take p.n) zs j [] [] t))
            (word_earlier (get_or zs i []) (get_or zs j []) (λ k. padded j k t) (sorted_earlier zs 64 tall different up i j h t))))

        -- the sorted words are those near the word heard
        pub nearby : Nearby p m heard (map (take p.n) zs)
        nearby = record { exact = λ w. (sound w, whole w); rising = rising }

        -- each word is n letters long
        pub nearby_long : (i : ℕ) → i < length zs → length (take p.n (get_or zs i [])) ≡ p.n
        nearby_long i h = length-take-le p.n (get_or zs i []) (let e = tall i h in let k : p.n ≤ 64 = p.n_high in omega arith)
