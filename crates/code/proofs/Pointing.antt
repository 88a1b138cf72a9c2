-- The loop that gathers the places of the word heard.
use Rattle.std.proofs.Common.{◌≡◌, ℕ, ◌+◌, ◌<◌, ◌≤◌, List, [], ◌∷◌, ◌++◌, map, length, sym, refl, ap, ◌∙◌, arith}
use Rattle.std.specs.List.{range_with_len}
use Rattle.std.proofs.lemmas.List.FromFn.{map-range_with_len_more, length-map-range_with_len}
use Rattle.field.specs.Made.{made}
use Rattle.field.specs.Meaning.{Meaning}
use Rattle.plan.specs.declared.Plan.{Plan}
use Rattle.interpolation.specs.declared.places.Place.{Place}
use Rattle.code.specs.Decoding.{place_at, places_of}

-- the places of the letters before i
unfoldable pub Pointed : Plan → Meaning → List ℕ → ℕ → List Place → Type 0
Pointed p m heard i xs = xs ≡ map (place_at p m heard) (range_with_len 0 i)

module _ (p : Plan) (m : Meaning) (heard : List ℕ) where
  pub pointed_none : Pointed p m heard 0 []
  unfolding Pointed
  pointed_none = refl

  -- a plan has no more places than there is room for
  pub pointed_room : (i : ℕ) (xs : List Place) → length heard ≡ p.n → i < length heard → Pointed p m heard i xs → length xs < 64
  unfolding Pointed
  pointed_room i xs long h k =
      let e : length xs ≡ length (map (place_at p m heard) (range_with_len 0 i)) = ap length k in
      let l : length (map (place_at p m heard) (range_with_len 0 i)) ≡ i = length-map-range_with_len (place_at p m heard) 0 i in
      let high : p.n ≤ 64 = p.n_high in
      omega arith

  pub pointed_more : (i : ℕ) (xs next : List Place) (x : Place)
      → Pointed p m heard i xs
      → x ≡ place_at p m heard i
      → next ≡ xs ++ x ∷ []
      → Pointed p m heard (i + 1) next
  unfolding Pointed
  pointed_more i xs next x k e n =
      n
      ∙ ap (λ ys. ys ++ (x ∷ [])) k
      ∙ ap (λ y. map (place_at p m heard) (range_with_len 0 i) ++ (y ∷ [])) e
      ∙ sym (map-range_with_len_more (place_at p m heard) 0 i i (omega arith))

  pub pointed_all : (i : ℕ) (xs : List Place)
      → length heard ≡ p.n
      → length heard ≤ i
      → i ≤ length heard
      → Pointed p m heard i xs
      → xs ≡ places_of p m heard
  unfolding Pointed places_of made
  pointed_all i xs long h l k = let e : i ≡ p.n = omega arith in k ∙ ap (λ j. map (place_at p m heard) (range_with_len 0 j)) e
