-- Words in the order of a sort rise, where none stands twice.
use Rattle.std.proofs.Common.{◌≡◌, ℕ, zero, suc, ◌<◌, false, ◌⊎◌, List, [], ◌∷◌, length, get_or, set, Ordering, Less, Equal, Greater, sym, refl, ap, ◌∙◌, subst, inl, inr, ⊎_elim, true≢false, arith, length-set, get_or-set_other, get_or-set_same}
use Rattle.std.specs.Ordering.{is_lt, is_gt, ordering_then, ordering_reverse, nat_cmp}
use Rattle.std.specs.Cmp.Lexicographic.{slice_cmp, lists_total}
use Rattle.std.specs.List.Sorted.{IsPermutation, IsSortedWithin}
use Rattle.std.specs.List.{swap}
use Rattle.std.specs.Cmp.{nat_cmp_total, nat_cmp_is}
use Rattle.std.proofs.lemmas.List.Sorted.{sorted_far, IsPermutation-keeps}
use Rattle.std.proofs.lemmas.List.MinMax.{ranks_by}
use Rattle.std.proofs.lemmas.Map.Lookups.{exact_bytes}
use Rattle.std.proofs.lemmas.List.Edits.{length-swap, swap_is}
use Rattle.std.proofs.lemmas.Bool.{cases_eq, cases_order}
use Rattle.algebra.specs.Members.{Member}
use Rattle.algebra.specs.Interpolation.{Separate}
use Rattle.code.specs.Listing.{Earlier, Rising}

-- a word that is less in the order of a sort comes before
pub earlier_less : (v w : List ℕ) → length v ≡ length w → slice_cmp nat_cmp v w ≡ Less → Earlier v w
earlier_less [] [] l e = absurd (true≢false (sym (ap is_lt e)))
earlier_less [] (y ∷ w) l e = absurd (omega arith)
earlier_less (x ∷ v) [] l e = absurd (omega arith)
earlier_less (x ∷ v) (y ∷ w) l e =
    ⊎_elim (λ h. further h (earlier_less v w (omega arith) (rest h))) (⊎_elim less greater) (cases_order x y)
  where
    less : x < y → Earlier (x ∷ v) (y ∷ w)
    less h = record { place = 0; same = λ i k. absurd (omega arith); smaller = h }

    greater : y < x → Earlier (x ∷ v) (y ∷ w)
    greater h =
        absurd (true≢false (ap is_gt (ap (λ r. ordering_then r (slice_cmp nat_cmp v w)) (nat_cmp_is x y Greater h) ∙ e)))

    rest : x ≡ y → slice_cmp nat_cmp v w ≡ Less
    rest h = ap (λ r. ordering_then r (slice_cmp nat_cmp v w)) (nat_cmp_is x y Equal h) ∙ e

    further : x ≡ y → Earlier v w → Earlier (x ∷ v) (y ∷ w)
    further h r =
        record {
          place = suc r.place;
          same = elim [ zero ↦ λ k. h | suc i ↦ λ k. r.same i (omega arith) ];
          smaller = r.smaller;
        }

-- what is neither greater nor equal comes before
not_after : (v w : List ℕ) → length v ≡ length w → (v ≡ w → ⊥) → is_lt (slice_cmp nat_cmp w v) ≡ false → Earlier v w
not_after v w l ne h = go (slice_cmp nat_cmp v w) refl
  where
    go : (r : Ordering) → slice_cmp nat_cmp v w ≡ r → Earlier v w
    go Less e = earlier_less v w l e
    go Equal e = absurd (ne (exact_bytes v w e))
    go Greater e = absurd (true≢false (sym (ap is_lt ((lists_total nat_cmp_total).antisymm w v ∙ ap ordering_reverse e)) ∙ h))

-- words that are all different
abbrev pub Different : List (List ℕ) → Type 0
Different ws = Separate (length ws) (λ i. get_or ws i [])

-- where the word at place a stood before the places i and j were exchanged
abbrev From : ℕ → ℕ → ℕ → ℕ → Type 0
From i j a c = ((a ≡ j) × (c ≡ i)) ⊎ (((a ≡ j → ⊥) × (a ≡ i) × (c ≡ j)) ⊎ ((a ≡ j → ⊥) × (a ≡ i → ⊥) × (c ≡ a)))

-- different places had different places before
from_one : (i j a b c : ℕ) → From i j a c → From i j b c → a ≡ b
from_one i j a b c (inl h) (inl k) = h.0 ∙ sym k.0
from_one i j a b c (inl h) (inr (inl k)) = h.0 ∙ sym k.2 ∙ h.1 ∙ sym k.1
from_one i j a b c (inl h) (inr (inr k)) = absurd (k.1 (sym k.2 ∙ h.1))
from_one i j a b c (inr (inl h)) (inl k) = h.1 ∙ sym k.1 ∙ h.2 ∙ sym k.0
from_one i j a b c (inr (inl h)) (inr (inl k)) = h.1 ∙ sym k.1
from_one i j a b c (inr (inl h)) (inr (inr k)) = absurd (k.0 (sym k.2 ∙ h.2))
from_one i j a b c (inr (inr h)) (inl k) = absurd (h.1 (sym h.2 ∙ k.1))
from_one i j a b c (inr (inr h)) (inr (inl k)) = absurd (h.0 (sym h.2 ∙ k.2))
from_one i j a b c (inr (inr h)) (inr (inr k)) = sym h.2 ∙ k.2

-- what stands at place a after an exchange
exchange_at : (ws : List (List ℕ)) (i j : ℕ)
    → i < length ws
    → j < length ws
    → (a : ℕ)
    → a < length ws
    → (c : ℕ) × (c < length ws) × (get_or (swap ws i j) a [] ≡ get_or ws c []) × From i j a c
exchange_at ws i j hi hj a ha = go (cases_eq a j) (cases_eq a i)
  where
    is : swap ws i j ≡ set (set ws i (get_or ws j [])) j (get_or ws i [])
    is = sym (swap_is ws i j [] hi hj)

    go : (a ≡ j) ⊎ (a ≡ j → ⊥)
        → (a ≡ i) ⊎ (a ≡ i → ⊥)
        → (c : ℕ) × (c < length ws) × (get_or (swap ws i j) a [] ≡ get_or ws c []) × From i j a c
    go (inl e) t = (
      i,
      hi,
      ap (λ xs. get_or xs a []) is
          ∙ ap (λ k. get_or (set (set ws i (get_or ws j [])) j (get_or ws i [])) k []) e
          ∙ get_or-set_same (set ws i (get_or ws j [])) j (get_or ws i []) [] (let l = length-set ws i (get_or ws j []) in omega arith),
      inl (e, refl),
    )
    go (inr e) (inl t) = (
      j,
      hj,
      ap (λ xs. get_or xs a []) is
          ∙ get_or-set_other (set ws i (get_or ws j [])) j a (get_or ws i []) [] e
          ∙ ap (λ k. get_or (set ws i (get_or ws j [])) k []) t
          ∙ get_or-set_same ws i (get_or ws j []) [] hi,
      inr (inl (e, t, refl)),
    )
    go (inr e) (inr t) = (
      a,
      ha,
      ap (λ xs. get_or xs a []) is
          ∙ get_or-set_other (set ws i (get_or ws j [])) j a (get_or ws i []) [] e
          ∙ get_or-set_other ws i a (get_or ws j []) [] t,
      inr (inr (e, t, refl)),
    )

-- an exchange leaves the words different
exchange_different : (ws : List (List ℕ)) (i j : ℕ) → i < length ws → j < length ws → Different ws → Different (swap ws i j)
exchange_different ws i j hi hj d a b ha hb e =
    let l : length (swap ws i j) ≡ length ws = length-swap ws i j in
    let u = exchange_at ws i j hi hj a (omega arith) in
    let v = exchange_at ws i j hi hj b (omega arith) in
    let c : u.0 ≡ v.0 = d u.0 v.0 u.1 v.1 (sym u.2 ∙ e ∙ v.2) in
    from_one i j a b v.0 (subst (From i j a) c u.3) v.3

pub shuffled_different : (ws zs : List (List ℕ)) → Different ws → IsPermutation ws zs → Different zs
shuffled_different ws zs d s = IsPermutation-keeps ws Different d exchange_different zs s

-- a member stands somewhere
pub member_index : {A : Type 0} (a : A) (xs : List A) → Member a xs → (i : ℕ) × (i < length xs) × ((d : A) → get_or xs i d ≡ a)
member_index a [] h = absurd h
member_index a (x ∷ xs) (inl e) = (0, omega arith, λ d. sym e)
member_index a (x ∷ xs) (inr h) =
    let r = member_index a xs h in (suc r.0, let k : r.0 < length xs = r.1 in omega arith, r.2)

-- the words rise where each comes before those at later places
pub rising_from : (ws : List (List ℕ))
    → ((i j : ℕ) → i < j → j < length ws → Earlier (get_or ws i []) (get_or ws j []))
    → Rising ws
rising_from [] h = tt
rising_from (w ∷ ws) h = (
  λ v k. let r = member_index v ws k in subst (Earlier w) (r.2 []) (h 0 (suc r.0) (omega arith) (let t : r.0 < length ws = r.1 in omega arith)),
  rising_from ws (λ i j k l. h (suc i) (suc j) (omega arith) (omega arith)),
)

-- sorted words that are all different and of one length come one before the other
pub sorted_earlier : (zs : List (List ℕ)) (n : ℕ)
    → ((i : ℕ) → i < length zs → length (get_or zs i []) ≡ n)
    → Different zs
    → IsSortedWithin (λ x y. is_lt (slice_cmp nat_cmp x y)) zs 0 (length zs)
    → (i j : ℕ)
    → i < j
    → j < length zs
    → Earlier (get_or zs i []) (get_or zs j [])
sorted_earlier zs n long d up i j h k =
    not_after
    (get_or zs i [])
    (get_or zs j [])
    (long i (omega arith) ∙ sym (long j k))
    (λ e. let t : i ≡ j = d i j (omega arith) k e in omega arith)
    (sorted_far (λ x y. is_lt (slice_cmp nat_cmp x y)) (ranks_by (lists_total nat_cmp_total) (λ x. x)) zs up i j [] (omega arith) k)

-- the order in which a sort puts arrays of numbers
abbrev pub Sorted : List (List ℕ) → ℕ → Type 0
Sorted zs n = IsSortedWithin (λ x y. is_lt (slice_cmp nat_cmp x y)) zs 0 n
