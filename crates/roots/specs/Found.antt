-- What the search finds: all roots of a polynomial in y up to a degree, each once.
use Rattle.std.specs.Prelude.{◌≡◌, ℕ, suc, ◌<◌, ◌≤◌, List, [], map, length, take, slice_index_or}
use Rattle.algebra.specs.Operations.{Operations, Lawful}
use Rattle.algebra.specs.Elements.{Elem, element_ring}
use Rattle.algebra.specs.RootSearch.{Nonzero}
use Rattle.algebra.specs.RootList.{ListsRoots}
use Rattle.field.specs.Meaning.{Meaning, operations}
use Rattle.bivariate.specs.Lifted.{polynomial_of, Sized}

-- the numbers of a word of elements
abbrev pub numbers : (o : Operations) → List (Elem o) → List ℕ
numbers o w = map (λ a. a.0) w

-- the first words of the array are the roots of q in y of degree at most degree, each once, and there are fewer than l of them
pub record Found (m : Meaning) (law : Lawful (operations m)) (q : List (List ℕ)) (l degree : ℕ) (words : List (List ℕ)) (count : ℕ) : Type 0 where
  pub roots : List (List (Elem (operations m)))
  pub all : ListsRoots (element_ring (operations m) law) l (suc degree) (polynomial_of (operations m) law q) roots
  pub many : length roots ≡ count
  pub few : count < l
  pub coefficients : (i : ℕ) → i < count → take (suc degree) (slice_index_or words i []) ≡ numbers (operations m) (slice_index_or roots i [])

-- where q is a polynomial other than 0 with at most eight rows, of weighted degree below a bound of at most 256, its roots of degree below 64 are found
abbrev pub Finds : Meaning → List (List ℕ) → ℕ → ℕ → ℕ → List (List ℕ) → ℕ → Type 0
Finds m q l bound degree words count =
    (law : Lawful (operations m))
    → l ≤ 8
    → bound ≤ 256
    → degree < 64
    → Sized (operations m) l bound degree q
    → Nonzero (element_ring (operations m) law) (polynomial_of (operations m) law q)
    → Found m law q l degree words count
