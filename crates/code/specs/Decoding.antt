-- What the steps of a listing work out: the places of the interpolation, the words of polynomials, and which of them are kept.
use Rattle.std.specs.Prelude.{◌≡◌, ℕ, ◌-◌, ◌<◌, ◌≤◌, cond, List, [], length, take, ◌≢◌, nat_lt, slice_index, slice_index_or}
use Rattle.algebra.specs.Members.{Member, NoRepetition}
use Rattle.field.specs.Meaning.{Meaning, product_of}
use Rattle.plan.specs.declared.Plan.{Plan}
use Rattle.poly.specs.Arithmetic.{quotient_of}
use Rattle.poly.specs.Polynomials.{value_of}
use Rattle.field.specs.Made.{made}
use Rattle.interpolation.specs.declared.places.Place.{Place}
use Rattle.code.specs.Codes.{support_of, multipliers_of, Letters}
use Rattle.code.specs.Listing.{distance}

-- the point (α_i, v_i × inverse(β_i)) with the multiplicity k
abbrev pub place_at : Plan → Meaning → List ℕ → ℕ → Place
place_at p m heard i =
    record {
      abscissa = slice_index (support_of p) i;
      ordinate = quotient_of m (slice_index heard i) (slice_index (multipliers_of p) i);
      multiplicity = p.k;
    }

-- the places of the word heard, one for each letter
unfoldable pub places_of : Plan → Meaning → List ℕ → List Place
places_of p m heard = made p.n (place_at p m heard)

-- the letter β_i × f(α_i)
abbrev pub letter_of : Plan → Meaning → List ℕ → ℕ → ℕ
letter_of p m f i = product_of m (slice_index (multipliers_of p) i) (value_of m f (slice_index (support_of p) i))

-- the word of a polynomial in an array of 64: n letters, then 0
unfoldable pub evaluated_of : Plan → Meaning → List ℕ → List ℕ
evaluated_of p m f = made 64 (λ i. cond (nat_lt i p.n) (letter_of p m f i) 0)

-- the first n numbers of the array are letters, and differ from the word heard at no more places than the plan has errors
pub record Near (p : Plan) (m : Meaning) (heard array : List ℕ) : Type 0 where
  pub letters : Letters m (take p.n array)
  pub close : distance (take p.n array) heard ≤ p.w

-- the word of the polynomial with the first n − t numbers of array i as coefficients
abbrev pub candidate_of : Plan → Meaning → List (List ℕ) → ℕ → List ℕ
candidate_of p m candidates i = evaluated_of p m (take (p.n - p.t) (slice_index_or candidates i []))

-- ws are the words of the first so many candidates that are near the word heard; each is there once if no two candidates have the same word
pub record Kept (p : Plan) (m : Meaning) (heard : List ℕ) (candidates : List (List ℕ)) (count : ℕ) (ws : List (List ℕ)) : Type 0 where
  pub sound : (w : List ℕ) → Member w ws → Near p m heard w × ((i : ℕ) × (i < count) × (w ≡ candidate_of p m candidates i))
  pub whole : (i : ℕ) → i < count → Near p m heard (candidate_of p m candidates i) → Member (candidate_of p m candidates i) ws
  pub few : length ws ≤ count
  pub once : ((i j : ℕ) → i < j → j < count → candidate_of p m candidates i ≢ candidate_of p m candidates j) → NoRepetition ws
