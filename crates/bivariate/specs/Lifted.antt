-- Rows and polynomials of numbers as power series over the elements of a field.
use Rattle.std.specs.Prelude.{◌≡◌, ℕ, suc, ◌+◌, ◌<◌, ◌≤◌, List, [], slice_index, slice_index_or}
use Rattle.algebra.specs.Operations.{Operations, Lawful}
use Rattle.algebra.specs.Elements.{Elem, into}
use Rattle.algebra.specs.Series.{Series}
use Rattle.algebra.specs.Bivariate.{Bivariate}
use Rattle.bivariate.specs.Combinations.{row_length}

-- the power series with the coefficients of the row, and zero past its end
abbrev pub series_of : (o : Operations) → Lawful o → List ℕ → Series (Elem o)
series_of o law xs i = into o law (slice_index xs i)

-- the polynomial in x and y with the rows of the list, and zero past their ends
abbrev pub polynomial_of : (o : Operations) → Lawful o → List (List ℕ) → Bivariate (Elem o)
polynomial_of o law q c i = into o law (slice_index (slice_index_or q c []) i)

-- each number of the row is an element
abbrev pub RowOf : Operations → List ℕ → Type 0
RowOf o xs = (i : ℕ) → slice_index xs i < o.size

-- each number of each row is an element
abbrev pub PolynomialOf : Operations → List (List ℕ) → Type 0
PolynomialOf o q = (c i : ℕ) → slice_index (slice_index_or q c []) i < o.size

-- each row c is zero from its length on
abbrev pub Within : ℕ → ℕ → List (List ℕ) → Type 0
Within bound weight q = (c i : ℕ) → row_length bound weight c ≤ i → slice_index (slice_index_or q c []) i ≡ 0

-- the rows from l on are zero
abbrev pub Narrow : ℕ → List (List ℕ) → Type 0
Narrow l q = (c i : ℕ) → l ≤ c → slice_index (slice_index_or q c []) i ≡ 0

-- each row c is zero from one place before its length on, so that its multiple by x is within its length too
abbrev pub Spare : ℕ → ℕ → List (List ℕ) → Type 0
Spare bound weight q = (c i : ℕ) → row_length bound weight c ≤ suc i → slice_index (slice_index_or q c []) i ≡ 0

-- what the functions are given: elements, in the rows below l, each row within its length
pub record Sized (o : Operations) (l bound weight : ℕ) (q : List (List ℕ)) : Type 0 where
  pub elements : PolynomialOf o q
  pub within : Within bound weight q
  pub narrow : Narrow l q

-- each row c below l still fits when it moves up by c places
abbrev pub Room : ℕ → ℕ → ℕ → Type 0
Room l bound weight = (c : ℕ) → c < l → row_length bound weight c + c ≤ 256
