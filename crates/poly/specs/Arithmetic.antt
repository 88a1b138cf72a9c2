-- Differences and quotients of elements.
use Rattle.std.specs.Prelude.{ℕ, Some, None, Option}
use Rattle.field.specs.Meaning.{Meaning, sum_of, negative_of, product_of, inverse_of}

-- the difference of two elements
abbrev pub difference_of : Meaning → ℕ → ℕ → ℕ
difference_of m a b = sum_of m a (negative_of m b)

-- a times an inverse, 0 where there is none
abbrev pub times_inverse : Meaning → ℕ → Option ℕ → ℕ
times_inverse m a None = 0
times_inverse m a (Some b) = product_of m a b

-- the quotient of two elements, 0 where the divisor has no inverse
abbrev pub quotient_of : Meaning → ℕ → ℕ → ℕ
quotient_of m a b = times_inverse m a (inverse_of m b)

-- c + a·v
abbrev pub affine_of : Meaning → ℕ → ℕ → ℕ → ℕ
affine_of m c a v = sum_of m c (product_of m a v)

-- the slope from the point (x0, y0) to the point (x, y)
abbrev pub slope_of : Meaning → ℕ → ℕ → ℕ → ℕ → ℕ
slope_of m x0 y0 x y = quotient_of m (difference_of m y y0) (difference_of m x x0)

-- the value at z of c + (x − x0)·g, where v is that of g
abbrev pub nest_of : Meaning → ℕ → ℕ → ℕ → ℕ → ℕ
nest_of m x0 c z v = affine_of m c (difference_of m z x0) v
