-- The polynomial with given values at distinct points.
use Rattle.std.specs.Prelude.{◌≡◌, ℕ, ◌<◌, ◌≤◌, List, length, ◌≢◌, slice_index}
use Rattle.field.specs.Meaning.{Meaning, Element}
use Rattle.poly.specs.Polynomials.{Elements, Polynomial, value_of}
use Rattle.poly.specs.Newton.{coefficients_of, nested_of}

-- the first members of the list, d of them, are distinct
abbrev pub Distinct : ℕ → List ℕ → Type 0
Distinct d α = (i j : ℕ) → i < j → j < d → slice_index α i ≢ slice_index α j

-- f is a polynomial of as many coefficients as there are values, with the values β at the points α
pub record Through (m : Meaning) (α β f : List ℕ) : Type 0 where
  pub polynomial : Polynomial m (length β) f
  pub values : (i : ℕ) → i < length β → value_of m f (slice_index α i) ≡ slice_index β i

-- for distinct points and any values there is exactly one such polynomial, and its value at any element is that of Newton's form
abbrev pub OneThrough : Meaning → Type 0
OneThrough m =
    (α β : List ℕ)
    → Elements m α
    → Elements m β
    → length β ≤ length α
    → Distinct (length β) α
    → (f : List ℕ)
    × Through m α β f
    × ((g : List ℕ) → Through m α β g → g ≡ f)
    × ((z : ℕ) → Element m z → value_of m f z ≡ nested_of m α (coefficients_of m α β) z)
