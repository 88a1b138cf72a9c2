-- The search over numbers: its clauses, and what its loops do.
use Rattle.std.proofs.Common.{◌≡◌, ℕ, zero, suc, ◌+◌, ◌-◌, ◌<◌, ◌≤◌, min, Bool, true, false, cond, eqb, ◌⊎◌, List, [], ◌∷◌, ◌++◌, length, take, set, sym, refl, ap, ◌∙◌, ap₂, inl, inr, arith}
use Rattle.std.proofs.lemmas.List.{append-nil, append_assoc, take_all, take-append-le, length-take, length-take-le, length_push}
use Rattle.std.proofs.lemmas.Bool.{cases_lt, cond-true, cond-false, eq-eqb, ne_eqb}
use Rattle.field.specs.Meaning.{Meaning}
use Rattle.bivariate.specs.Roots.{column, all_zero, lower_of, column_value_of, shifted_of}
use Rattle.roots.specs.Search.{stripped_of, joined, roots_of}

module _ (l : ℕ) where
  pub stripped_zero : (q : List (List ℕ)) → stripped_of l 0 q ≡ q
  unfolding stripped_of
  stripped_zero q = refl

  pub stripped_suc : (n : ℕ) (q : List (List ℕ))
      → stripped_of l (suc n) q ≡ cond (all_zero (column q 0) (min l 8)) (stripped_of l n (lower_of q)) q
  unfolding stripped_of
  stripped_suc n q = refl

  -- one division more, where x divides q
  pub stripped_step : (n : ℕ) (q : List (List ℕ))
      → all_zero (column q 0) (min l 8) ≡ true
      → stripped_of l (suc n) q ≡ stripped_of l n (lower_of q)
  stripped_step n q e = stripped_suc n q ∙ cond-true _ (stripped_of l n (lower_of q)) q e

  -- no division, where it does not
  pub stripped_stop : (n : ℕ) (q : List (List ℕ)) → all_zero (column q 0) (min l 8) ≡ false → stripped_of l n q ≡ q
  stripped_stop zero q e = stripped_zero q
  stripped_stop (suc n) q e = stripped_suc n q ∙ cond-false _ (stripped_of l n (lower_of q)) q e

-- what is left of the divisions leads to the polynomial divided as long as x divides it
unfoldable pub Stripping : ℕ → ℕ → List (List ℕ) → ℕ → List (List ℕ) → Type 0
Stripping l most was i q = stripped_of l (most - i) q ≡ stripped_of l most was

module _ (l most : ℕ) (was : List (List ℕ)) where
  pub stripping_none : Stripping l most was 0 was
  unfolding Stripping
  stripping_none = let e : most - 0 ≡ most = omega arith in ap (λ n. stripped_of l n was) e

  -- one division more
  pub stripping_more : (i : ℕ) (q next : List (List ℕ)) (b : Bool)
      → i < most
      → Stripping l most was i q
      → b ≡ all_zero (column q 0) (min l 8)
      → b ≡ true
      → next ≡ lower_of q
      → Stripping l most was (i + 1) next
  unfolding Stripping
  stripping_more i q next b h k t y e =
      let up : most - i ≡ suc (most - (i + 1)) = omega arith in
      ap (stripped_of l (most - (i + 1))) e
      ∙ sym (stripped_step l (most - (i + 1)) q (sym t ∙ y))
      ∙ ap (λ n. stripped_of l n q) (sym up)
      ∙ k

  -- x does not divide it any more
  pub stripping_stop : (i : ℕ) (q : List (List ℕ)) (b : Bool)
      → Stripping l most was i q
      → b ≡ all_zero (column q 0) (min l 8)
      → b ≡ false
      → q ≡ stripped_of l most was
  unfolding Stripping
  stripping_stop i q b k t n = sym (stripped_stop l (most - i) q (sym t ∙ n)) ∙ k

  pub stripping_all : (i : ℕ) (q : List (List ℕ)) → most ≤ i → Stripping l most was i q → q ≡ stripped_of l most was
  unfolding Stripping
  stripping_all i q h k =
      let z : 0 ≡ most - i = omega arith in sym (stripped_zero l q) ∙ ap (λ n. stripped_of l n q) z ∙ k

module _ (f : ℕ → List (List ℕ)) where
  pub joined_zero : joined f 0 ≡ []
  unfolding joined
  joined_zero = refl

  pub joined_suc : (n : ℕ) → joined f (suc n) ≡ joined f n ++ f n
  unfolding joined
  joined_suc n = refl

-- the roots that begin with g, where q is not divisible by x
abbrev pub branch_of : Meaning → ℕ → ℕ → ℕ → List ℕ → ℕ → List (List ℕ) → ℕ → List (List ℕ)
branch_of m l bound zero chosen depth q g =
    cond (all_zero (column_value_of m g l q) (min bound 256)) (set chosen depth g ∷ []) []
branch_of m l bound (suc s) chosen depth q g =
    cond
    (eqb (column_value_of m g l q 0) 0)
    (roots_of m l bound s (set chosen depth g) (suc depth) (shifted_of m g l bound (suc s) q))
    []

-- the roots are those that begin with each of the elements
pub roots_branches : (m : Meaning) (l bound s : ℕ) (chosen : List ℕ) (depth : ℕ) (q : List (List ℕ))
    → roots_of m l bound s chosen depth q ≡ joined (branch_of m l bound s chosen depth (stripped_of l bound q)) m.size
unfolding roots_of
roots_branches m l bound zero chosen depth q = refl
roots_branches m l bound (suc s) chosen depth q = refl

-- as many words as there is room for, in two steps
pub take_append : (n : ℕ) (xs ys : List (List ℕ)) → take n (take n xs ++ ys) ≡ take n (xs ++ ys)
take_append n xs ys = go (cases_lt (length xs) n)
  where
    go : (length xs < n) ⊎ (n ≤ length xs) → take n (take n xs ++ ys) ≡ take n (xs ++ ys)
    go (inl h) = ap (λ zs. take n (zs ++ ys)) (take_all n xs (omega arith))
    go (inr h) =
        let e : length (take n xs) ≡ n = length-take-le n xs h in
        take-append-le n (take n xs) ys (omega arith)
        ∙ take_all n (take n xs) (omega arith)
        ∙ sym (take-append-le n xs ys h)

pub put_room : (now next : List (List ℕ)) (w : List ℕ) → length now < 7 → next ≡ now ++ w ∷ [] → next ≡ take 7 (now ++ w ∷ [])
put_room now next w h e =
    let l : length (now ++ w ∷ []) ≡ length now + 1 = length_push now w in
    e ∙ sym (take_all 7 (now ++ w ∷ []) (omega arith))

pub put_full : (now : List (List ℕ)) (w : List ℕ) → length now ≡ 7 → now ≡ take 7 (now ++ w ∷ [])
put_full now w h =
    sym (take_all 7 now (omega arith)) ∙ sym (take-append-le 7 now (w ∷ []) (omega arith))

-- the words of the lists below i come after those before, as far as there is room
unfoldable pub Standing : (ℕ → List (List ℕ)) → List (List ℕ) → ℕ → List (List ℕ) → Type 0
Standing f was i now = now ≡ take 7 (was ++ joined f i)

module _ (f : ℕ → List (List ℕ)) (was : List (List ℕ)) where
  pub standing_none : length was ≤ 7 → Standing f was 0 was
  unfolding Standing
  standing_none h =
      sym (take_all 7 was h) ∙ ap (take 7) (sym (append-nil was)) ∙ ap (λ ws. take 7 (was ++ ws)) (sym (joined_zero f))

  -- there are no more words than there is room for
  pub standing_few : (i : ℕ) (now : List (List ℕ)) → Standing f was i now → length now ≤ 7
  unfolding Standing
  standing_few i now s =
      let e : length (take 7 (was ++ joined f i)) ≡ min 7 (length (was ++ joined f i)) = length-take 7 (was ++ joined f i) in
      let k : length now ≡ length (take 7 (was ++ joined f i)) = ap length s in
      omega arith

  -- the words of the next list
  pub standing_more : (i : ℕ) (now ys next : List (List ℕ))
      → Standing f was i now
      → f i ≡ ys
      → next ≡ take 7 (now ++ ys)
      → Standing f was (i + 1) next
  unfolding Standing
  standing_more i now ys next s e k =
      let up : suc i ≡ i + 1 = omega arith in
      k
      ∙ ap (λ ws. take 7 (ws ++ ys)) s
      ∙ take_append 7 (was ++ joined f i) ys
      ∙ ap (take 7) (append_assoc was (joined f i) ys)
      ∙ ap (λ ws. take 7 (was ++ ws)) (ap (λ ws. joined f i ++ ws) (sym e) ∙ sym (joined_suc f i) ∙ ap (joined f) up)

  -- the next list has no word
  pub standing_skip : (i : ℕ) (now next : List (List ℕ)) → Standing f was i now → f i ≡ [] → next ≡ now → Standing f was (i + 1) next
  standing_skip i now next s e k =
      standing_more i now [] next s e (k ∙ sym (take_all 7 now (standing_few i now s)) ∙ ap (take 7) (sym (append-nil now)))

-- the roots that begin with g, as a turn of the search finds them
module _ (m : Meaning) (l bound degree : ℕ) (chosen : List ℕ) (depth : ℕ) (q : List (List ℕ)) (g : ℕ) where
  pub branch_end_yes : (word : List ℕ)
      → degree ≡ 0
      → true ≡ all_zero (column_value_of m g l q) (min bound 256)
      → word ≡ set chosen depth g
      → branch_of m l bound degree chosen depth q g ≡ word ∷ []
  branch_end_yes word e t w =
      ap (λ s. branch_of m l bound s chosen depth q g) e
      ∙ cond-true _ (set chosen depth g ∷ []) [] (sym t)
      ∙ ap (λ x. x ∷ []) (sym w)

  pub branch_end_no : degree ≡ 0
      → false ≡ all_zero (column_value_of m g l q) (min bound 256)
      → branch_of m l bound degree chosen depth q g ≡ []
  branch_end_no e t =
      ap (λ s. branch_of m l bound s chosen depth q g) e ∙ cond-false _ (set chosen depth g ∷ []) [] (sym t)

  -- what follows g one level down
  abbrev below : ℕ → List (List ℕ)
  below s = roots_of m l bound s (set chosen depth g) (suc depth) (shifted_of m g l bound (suc s) q)

  pub branch_on_yes : (word : List ℕ) (next : List (List ℕ)) (value : ℕ)
      → (degree ≡ 0 → ⊥)
      → value ≡ column_value_of m g l q 0
      → value ≡ 0
      → word ≡ set chosen depth g
      → next ≡ shifted_of m g l bound degree q
      → branch_of m l bound degree chosen depth q g ≡ roots_of m l bound (degree - 1) word (depth + 1) next
  branch_on_yes word next value h v z w n =
      let e : degree ≡ suc (degree - 1) = omega arith in
      let up : suc depth ≡ depth + 1 = omega arith in
      ap (λ s. branch_of m l bound s chosen depth q g) e
      ∙ cond-true _ (below (degree - 1)) [] (eq-eqb (column_value_of m g l q 0) 0 (sym v ∙ z))
      ∙ ap₂
      (λ d s. roots_of m l bound (degree - 1) (set chosen depth g) d (shifted_of m g l bound s q))
      up
      (sym e)
      ∙ ap₂ (λ x p. roots_of m l bound (degree - 1) x (depth + 1) p) (sym w) (sym n)

  pub branch_on_no : (value : ℕ)
      → (degree ≡ 0 → ⊥)
      → value ≡ column_value_of m g l q 0
      → (value ≡ 0 → ⊥)
      → branch_of m l bound degree chosen depth q g ≡ []
  branch_on_no value h v z =
      let e : degree ≡ suc (degree - 1) = omega arith in
      ap (λ s. branch_of m l bound s chosen depth q g) e
      ∙ cond-false _ (below (degree - 1)) [] (ne_eqb (column_value_of m g l q 0) 0 (λ k. z (v ∙ k)))

-- the whole search
pub standing_all : (m : Meaning) (l bound degree : ℕ) (chosen : List ℕ) (depth : ℕ) (q stripped : List (List ℕ)) (i : ℕ) (was now : List (List ℕ))
    → stripped ≡ stripped_of l bound q
    → i ≡ m.size
    → Standing (branch_of m l bound degree chosen depth stripped) was i now
    → now ≡ take 7 (was ++ roots_of m l bound degree chosen depth q)
unfolding Standing
standing_all m l bound degree chosen depth q stripped i was now e z s =
    let w : joined (branch_of m l bound degree chosen depth stripped) i ≡ roots_of m l bound degree chosen depth q
    = ap₂ (λ p n. joined (branch_of m l bound degree chosen depth p) n) e z ∙ sym (roots_branches m l bound degree chosen depth q) in
    s ∙ ap (λ ws. take 7 (was ++ ws)) w
