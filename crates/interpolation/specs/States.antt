-- The rows and degrees of a basis as a state of the method over the elements of a field.
use Rattle.std.specs.Prelude.{ℕ, ◌<◌, ◌≤◌, List, [], slice_index, slice_index_or}
use Rattle.algebra.specs.Operations.{Operations, Lawful}
use Rattle.algebra.specs.Elements.{Elem, element_ring, elements, into}
use Rattle.algebra.specs.Conditions.{Condition, condition}
use Rattle.algebra.specs.Koetter.{State, Step, Invariant}
use Rattle.field.specs.Meaning.{Meaning, operations}
use Rattle.bivariate.specs.Lifted.{polynomial_of, PolynomialOf}

-- the rows as polynomials, with their degrees
abbrev pub state_of : (o : Operations) → Lawful o → List (List (List ℕ)) → List ℕ → State (Elem o)
state_of o law rows degrees =
    record { rows = λ j. polynomial_of o law (slice_index_or rows j []); degrees = λ j. slice_index degrees j }

-- each number of each row is an element
abbrev pub RowsOf : Operations → List (List (List ℕ)) → Type 0
RowsOf o rows = (j : ℕ) → PolynomialOf o (slice_index_or rows j [])

-- the numbers that a step is made for: elements a and b, small exponents u and r, at most eight rows, a bound of at most 256
pub record Served (m : Meaning) (a b u r l bound : ℕ) : Type 0 where
  pub abscissa : a < m.size
  pub ordinate : b < m.size
  pub exponent_y : u < 8
  pub exponent_x : r < 8
  pub few : l ≤ 8
  pub short : bound ≤ 256

-- where the rows hold elements and satisfy the invariant for some conditions, the change is a step of the method, and the rows hold elements again
pub record Stepped (m : Meaning) (a b u r l bound weight : ℕ) (rows : List (List (List ℕ))) (degrees : List ℕ) (rows' : List (List (List ℕ))) (degrees' : List ℕ) : Type 0 where
  pub step : (law : Lawful (operations m)) (cs : List (Condition (Elem (operations m))))
      → Served m a b u r l bound
      → RowsOf (operations m) rows
      → Invariant (element_ring (operations m) law) weight bound l cs (state_of (operations m) law rows degrees)
      → Step (elements (operations m) law) bound l (condition (into (operations m) law a) (into (operations m) law b) u r) (state_of (operations m) law rows degrees) (state_of (operations m) law rows' degrees')
  pub elements : (law : Lawful (operations m)) (cs : List (Condition (Elem (operations m))))
      → Served m a b u r l bound
      → RowsOf (operations m) rows
      → Invariant (element_ring (operations m) law) weight bound l cs (state_of (operations m) law rows degrees)
      → RowsOf (operations m) rows'
