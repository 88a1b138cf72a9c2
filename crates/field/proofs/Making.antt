-- Lists made from a function of the place, and the loops that write them in place, from the start on.
use Rattle.std.proofs.Common.{◌≡◌, ℕ, ◌+◌, ◌<◌, ◌≤◌, ◌≢◌, ◌⊎◌, List, length, get_or, set, sym, refl, ap, ◌∙◌, inl, inr, arith, length-set, get_or-set_other, get_or-set_same}
use Rattle.std.proofs.lemmas.List.FromFn.{length-map-range_with_len, get_or-map-range_with_len, fill_by_all}
use Rattle.std.proofs.lemmas.List.{get_or_past}
use Rattle.std.proofs.lemmas.Bool.{cases_lt, cases_eq}
use Rattle.field.specs.Made.{made}

module _ {X : Type 0} (f : ℕ → X) where
  pub length_made : (n : ℕ) → length (made n f) ≡ n
  unfolding made
  length_made n = length-map-range_with_len f 0 n

  pub made_at : (n i : ℕ) (d : X) → i < n → get_or (made n f) i d ≡ f i
  unfolding made
  made_at n i d h = get_or-map-range_with_len f 0 n i i d h (omega arith)

  pub made_past : (n i : ℕ) (d : X) → n ≤ i → get_or (made n f) i d ≡ d
  made_past n i d h = get_or_past (made n f) i d (let e : length (made n f) ≡ n = length_made n in omega arith)

  pub made_is : (xs : List X) (n : ℕ) (d : X) → length xs ≡ n → ((k : ℕ) → k < n → get_or xs k d ≡ f k) → xs ≡ made n f
  unfolding made
  made_is xs n d e h = fill_by_all f xs n d e h

pub made_same : {X : Type 0} (f g : ℕ → X) (n : ℕ) (d : X) → ((k : ℕ) → k < n → f k ≡ g k) → made n f ≡ made n g
made_same f g n d h = made_is g (made n f) n d (length_made f n) (λ k l. made_at f n k d l ∙ h k l)

-- below i the list xs has the values of f, and from i on those of the list was
pub record Upto {X : Type 0} (d : X) (f : ℕ → X) (was : List X) (i : ℕ) (xs : List X) : Type 0 where
  pub long : length xs ≡ length was
  pub done : (k : ℕ) → k < i → k < length was → get_or xs k d ≡ f k
  pub left : (k : ℕ) → i ≤ k → get_or xs k d ≡ get_or was k d

module _ {X : Type 0} (d : X) (f : ℕ → X) (was : List X) where
  -- the start, where f agrees with the list below i
  pub upto_from : (i : ℕ) → ((k : ℕ) → k < i → get_or was k d ≡ f k) → Upto d f was i was
  upto_from i h = record { long = refl; done = λ k l _. h k l; left = λ k l. refl }

  pub upto_none : Upto d f was 0 was
  upto_none = upto_from 0 (λ k l. absurd (omega arith))

  -- one value more
  pub upto_write : (i : ℕ) (xs : List X) (v : X)
      → i < length was
      → Upto d f was i xs
      → v ≡ f i
      → Upto d f was (i + 1) (set xs i v)
  upto_write i xs v h u e =
      record {
        long = length-set xs i v ∙ u.long;
        done = λ k l m. go k l m (cases_eq k i);
        left = λ k l. let ne : k ≢ i = omega arith in get_or-set_other xs i k v d ne ∙ u.left k (omega arith);
      }
    where
      inside : i < length xs
      inside = let q : length xs ≡ length was = u.long in omega arith

      go : (k : ℕ) → k < i + 1 → k < length was → (k ≡ i) ⊎ (k ≡ i → ⊥) → get_or (set xs i v) k d ≡ f k
      go k l m (inl q) = ap (λ j. get_or (set xs i v) j d) q ∙ get_or-set_same xs i v d inside ∙ e ∙ ap f (sym q)
      go k l m (inr q) = get_or-set_other xs i k v d q ∙ u.done k (omega arith) m

  -- what the next turn reads is as it was
  pub upto_here : (i : ℕ) (xs : List X) → Upto d f was i xs → get_or xs i d ≡ get_or was i d
  upto_here i xs u = u.left i (omega arith)

  -- the end, where f agrees with the list from i on
  pub upto_all : (n i : ℕ) (xs : List X)
      → length was ≡ n
      → Upto d f was i xs
      → ((k : ℕ) → i ≤ k → k < n → get_or was k d ≡ f k)
      → xs ≡ made n f
  upto_all n i xs e u h = made_is f xs n d (u.long ∙ e) (λ k l. go k l (cases_lt k i))
    where
      go : (k : ℕ) → k < n → (k < i) ⊎ (i ≤ k) → get_or xs k d ≡ f k
      go k l (inl m) = u.done k m (omega arith)
      go k l (inr m) = u.left k m ∙ h k m l
