-- The search over numbers is the search over the elements of the field.
use Rattle.std.proofs.Common.{◌≡◌, ℕ, zero, suc, ◌-◌, ◌*◌, ◌<◌, ◌≤◌, min, true, false, eqb, ◌⊎◌, List, [], ◌∷◌, ◌++◌, map, set, sym, refl, ap, ◌∙◌, subst, ap₂, inl, inr, arith}
use Rattle.std.proofs.lemmas.List.{map-append}
use Rattle.std.proofs.lemmas.Bool.{cases_Bool, cases_eq, cond-true, cond-false, eq-eqb, ne_eqb}
use Rattle.algebra.specs.Operations.{Operations, Lawful}
use Rattle.algebra.specs.Ring.{CommRing, Field}
use Rattle.algebra.specs.Elements.{Elem, element_ring, elements, into}
use Rattle.algebra.specs.Bivariate.{Bivariate}
use Rattle.algebra.specs.RootSearch.{strip, next}
use Rattle.algebra.specs.RootList.{branches, ending, continuing, search}
use Rattle.algebra.proofs.Elements.{number_into}
use Rattle.algebra.proofs.Strip.{strip_step, strip_stop}
use Rattle.algebra.proofs.SearchSteps.{branches_zero, branches_suc, ending_yes, ending_no, continuing_yes, continuing_no, search_zero, search_suc}
use Rattle.field.specs.Meaning.{Meaning, operations}
use Rattle.bivariate.specs.Combinations.{row_length}
use Rattle.bivariate.specs.Roots.{column, all_zero, lower_of, column_value_of, shifted_of}
use Rattle.bivariate.specs.Lifted.{polynomial_of, Sized, Room}
use Rattle.bivariate.proofs.Entries.{room_for}
use Rattle.bivariate.proofs.LiftedRoots.{starts_lift, starts_lift_no, lower_lift, lower_sized, vanishes_lift, vanishes_lift_no, candidate_lift, candidate_lift_no, shifted_lift, shifted_sized}
use Rattle.roots.specs.Search.{stripped_of, joined, roots_of}
use Rattle.roots.specs.Found.{numbers}
use Rattle.roots.proofs.Numbers.{stripped_zero, stripped_step, stripped_stop, joined_zero, joined_suc, branch_of, roots_branches, branch_end_yes, branch_end_no}
use Rattle.roots.proofs.Words.{placed}

row_length_more : (bound weight c i : ℕ) → row_length bound weight c ≤ i → row_length (bound - 1) weight c ≤ i
unfolding row_length
row_length_more bound weight c i h = let k : ℕ = c * weight in omega arith

module _ (m : Meaning) (law : Lawful (operations m)) (l bound : ℕ) (small : l ≤ 8) (fits : bound ≤ 256) where
  abbrev o : Operations
  o = operations m

  abbrev F : Field (Elem o)
  F = elements o law

  abbrev R : CommRing (Elem o)
  R = element_ring o law

  abbrev ι : ℕ → Elem o
  ι = into o law

  abbrev P : List (List ℕ) → Bivariate (Elem o)
  P = polynomial_of o law

  sized_more : (weight : ℕ) (q : List (List ℕ)) → Sized o l (bound - 1) weight q → Sized o l bound weight q
  sized_more weight q s =
      record {
        elements = s.elements;
        within = λ c i h. s.within c i (row_length_more bound weight c i h);
        narrow = s.narrow;
      }

  strip_zero : (Q : Bivariate (Elem o)) → strip F l 0 Q ≡ Q
  unfolding strip
  strip_zero Q = refl

  -- the program divides the polynomial by x as long as x divides it
  pub strip_lift : (weight n : ℕ) (q : List (List ℕ))
      → Sized o l bound weight q
      → (P (stripped_of l n q) ≡ strip F l n (P q)) × Sized o l bound weight (stripped_of l n q)
  strip_lift weight zero q s =
      (ap P (stripped_zero l q) ∙ sym (strip_zero (P q)), subst (Sized o l bound weight) (sym (stripped_zero l q)) s)
  strip_lift weight (suc n) q s =
      go
      (cases_Bool (all_zero (column q 0) (min l 8)))
      (strip_lift
      weight
      n
      (lower_of q)
      (sized_more weight (lower_of q) (lower_sized m law q l bound weight small s.within s.narrow s.elements)))
    where
      go : (all_zero (column q 0) (min l 8) ≡ true) ⊎ (all_zero (column q 0) (min l 8) ≡ false)
          → (P (stripped_of l n (lower_of q)) ≡ strip F l n (P (lower_of q))) × Sized o l bound weight (stripped_of l n (lower_of q))
          → (P (stripped_of l (suc n) q) ≡ strip F l (suc n) (P q)) × Sized o l bound weight (stripped_of l (suc n) q)
      go (inl e) r = (
        ap P (stripped_step l n q e)
            ∙ r.0
            ∙ ap (strip F l n) (lower_lift m law q l bound weight small s.within s.narrow)
            ∙ sym (strip_step F l n (P q) (starts_lift m law q l small s.elements e)),
        subst (Sized o l bound weight) (sym (stripped_step l n q e)) r.1,
      )
      go (inr e) r = (
        ap P (stripped_stop l (suc n) q e)
            ∙ sym (strip_stop F l (suc n) (P q) (starts_lift_no m law q l small s.elements e)),
        subst (Sized o l bound weight) (sym (stripped_stop l (suc n) q e)) s,
      )

  -- the word that stands for a word of elements, written after those chosen before
  abbrev pub word_of : List ℕ → ℕ → List (Elem o) → List ℕ
  word_of chosen depth w = placed chosen depth (numbers o w)

  module _ (chosen : List ℕ) (depth : ℕ) where
    -- words that begin with the element g
    begin_with : (g : ℕ)
        → g < m.size
        → (ws : List (List (Elem o)))
        → map (word_of chosen depth) (map (λ w. ι g ∷ w) ws) ≡ map (word_of (set chosen depth g) (suc depth)) ws
    begin_with g h [] = refl
    begin_with g h (w ∷ ws) =
        ap₂
        (λ x xs. x ∷ xs)
        (ap (λ x. placed (set chosen depth x) (suc depth) (numbers o w)) (number_into o law g h))
        (begin_with g h ws)

    -- the loop over the elements
    branches_lift : (f : ℕ → List (List ℕ)) (follow : Elem o → List (List (Elem o))) (n : ℕ)
        → ((g : ℕ) → g < n → f g ≡ map (word_of chosen depth) (map (λ w. ι g ∷ w) (follow (ι g))))
        → joined f n ≡ map (word_of chosen depth) (branches ι follow n)
    branches_lift f follow zero h = joined_zero f ∙ ap (map (word_of chosen depth)) (sym (branches_zero ι follow))
    branches_lift f follow (suc n) h =
        joined_suc f n
        ∙ ap₂ ◌++◌ (branches_lift f follow n (λ g k. h g (omega arith))) (h n (omega arith))
        ∙ sym (map-append (word_of chosen depth) (branches ι follow n) (map (λ w. ι n ∷ w) (follow (ι n))))
        ∙ ap (map (word_of chosen depth)) (sym (branches_suc ι follow n))

    module _ (q : List (List ℕ)) (g : ℕ) (h : g < m.size) where
      -- g as the last coefficient
      end_lift : Sized o l bound 0 q
          → branch_of m l bound 0 chosen depth q g
          ≡ map (word_of chosen depth) (map (λ w. ι g ∷ w) (ending F l bound (P q) (ι g)))
      end_lift s = go (cases_Bool (all_zero (column_value_of m g l q) (min bound 256)))
        where
          go : (all_zero (column_value_of m g l q) (min bound 256) ≡ true) ⊎ (all_zero (column_value_of m g l q) (min bound 256) ≡ false)
              → branch_of m l bound 0 chosen depth q g
              ≡ map (word_of chosen depth) (map (λ w. ι g ∷ w) (ending F l bound (P q) (ι g)))
          go (inl e) =
              branch_end_yes m l bound 0 chosen depth q g (set chosen depth g) refl (sym e) refl
              ∙ sym (begin_with g h ([] ∷ []))
              ∙ ap
              (λ ws. map (word_of chosen depth) (map (λ w. ι g ∷ w) ws))
              (sym (ending_yes F l bound (P q) (ι g) (vanishes_lift m law q l small s.elements g h bound fits e)))
          go (inr e) =
              branch_end_no m l bound 0 chosen depth q g refl (sym e)
              ∙ ap
              (λ ws. map (word_of chosen depth) (map (λ w. ι g ∷ w) ws))
              (sym (ending_no F l bound (P q) (ι g) (vanishes_lift_no m law q l small s.elements g h bound fits e)))

      -- g as an earlier coefficient
      on_lift : (s : ℕ) (ws : List (List (Elem o)))
          → Sized o l bound (suc s) q
          → roots_of m l bound s (set chosen depth g) (suc depth) (shifted_of m g l bound (suc s) q)
          ≡ map (word_of (set chosen depth g) (suc depth)) ws
          → branch_of m l bound (suc s) chosen depth q g
          ≡ map (word_of chosen depth) (map (λ w. ι g ∷ w) (continuing F l (P q) (ι g) ws))
      on_lift s ws z r = go (cases_eq (column_value_of m g l q 0) 0)
        where
          go : (column_value_of m g l q 0 ≡ 0) ⊎ (column_value_of m g l q 0 ≡ 0 → ⊥)
              → branch_of m l bound (suc s) chosen depth q g
              ≡ map (word_of chosen depth) (map (λ w. ι g ∷ w) (continuing F l (P q) (ι g) ws))
          go (inl e) =
              cond-true
              (eqb (column_value_of m g l q 0) 0)
              (roots_of m l bound s (set chosen depth g) (suc depth) (shifted_of m g l bound (suc s) q))
              []
              (eq-eqb (column_value_of m g l q 0) 0 e)
              ∙ r
              ∙ sym (begin_with g h ws)
              ∙ ap
              (λ vs. map (word_of chosen depth) (map (λ w. ι g ∷ w) vs))
              (sym (continuing_yes F l (P q) (ι g) ws (candidate_lift m law q l small z.elements g h e)))
          go (inr e) =
              cond-false
              (eqb (column_value_of m g l q 0) 0)
              (roots_of m l bound s (set chosen depth g) (suc depth) (shifted_of m g l bound (suc s) q))
              []
              (ne_eqb (column_value_of m g l q 0) 0 e)
              ∙ ap
              (λ vs. map (word_of chosen depth) (map (λ w. ι g ∷ w) vs))
              (sym (continuing_no F l (P q) (ι g) ws (candidate_lift_no m law q l small z.elements g h e)))

  -- the program finds the roots that the search over the elements lists
  pub roots_lift : (s : ℕ) (chosen : List ℕ) (depth : ℕ) (q : List (List ℕ))
      → Sized o l bound s q
      → roots_of m l bound s chosen depth q ≡ map (word_of chosen depth) (search F ι m.size l bound s (P q))
  roots_lift zero chosen depth q z =
      let d = strip_lift 0 bound q z in
      roots_branches m l bound 0 chosen depth q
      ∙ branches_lift
      chosen
      depth
      (branch_of m l bound 0 chosen depth (stripped_of l bound q))
      (ending F l bound (P (stripped_of l bound q)))
      m.size
      (λ g h. end_lift chosen depth (stripped_of l bound q) g h d.1)
      ∙ ap
      (map (word_of chosen depth))
      (ap (λ Q. branches ι (ending F l bound Q) m.size) d.0 ∙ sym (search_zero F ι m.size l bound (P q)))
  roots_lift (suc s) chosen depth q z =
      let d = strip_lift (suc s) bound q z in
      let room : Room l bound (suc s) = room_for l bound (suc s) small (omega arith) fits in
      roots_branches m l bound (suc s) chosen depth q
      ∙ branches_lift
      chosen
      depth
      (branch_of m l bound (suc s) chosen depth (stripped_of l bound q))
      (λ γ. continuing F l (P (stripped_of l bound q)) γ (search F ι m.size l bound s (next R l (P (stripped_of l bound q)) γ)))
      m.size
      (λ g h.
      on_lift
      chosen
      depth
      (stripped_of l bound q)
      g
      h
      s
      (search F ι m.size l bound s (next R l (P (stripped_of l bound q)) (ι g)))
      d.1
      (roots_lift
      s
      (set chosen depth g)
      (suc depth)
      (shifted_of m g l bound (suc s) (stripped_of l bound q))
      (shifted_sized m law g l bound (suc s) h small (stripped_of l bound q) d.1 s refl room)
      ∙ ap
      (λ Q. map (word_of (set chosen depth g) (suc depth)) (search F ι m.size l bound s Q))
      (shifted_lift m law g l bound (suc s) h small (stripped_of l bound q) d.1 room)))
      ∙ ap
      (map (word_of chosen depth))
      (ap
      (λ Q. branches ι (λ γ. continuing F l Q γ (search F ι m.size l bound s (next R l Q γ))) m.size)
      d.0
      ∙ sym (search_suc F ι m.size l bound s (P q)))
