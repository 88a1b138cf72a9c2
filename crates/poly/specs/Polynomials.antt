-- Polynomials by their coefficients, lowest first.
use Rattle.std.specs.Prelude.{◌≡◌, ℕ, ◌<◌, List, [], ◌∷◌, length, slice_index}
use Rattle.field.specs.Meaning.{Meaning, Element, sum_of, product_of}

-- a list of elements
abbrev pub Elements : Meaning → List ℕ → Type 0
Elements m xs = (i : ℕ) → i < length xs → Element m (slice_index xs i)

-- a polynomial of degree below d: its d coefficients, each an element
abbrev pub Polynomial : Meaning → ℕ → List ℕ → Type 0
Polynomial m d f = (length f ≡ d) × Elements m f

-- the value of a polynomial at a
unfoldable pub value_of : Meaning → List ℕ → ℕ → ℕ
value_of m [] a = 0
value_of m (c ∷ cs) a = sum_of m c (product_of m a (value_of m cs a))
