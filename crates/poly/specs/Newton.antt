-- Newton's form of the polynomial through given points. Lists count as followed by zeros.
use Rattle.std.specs.Prelude.{ℕ, zero, suc, cond, List, length, nat_lt, slice_index}
pub use Rattle.field.specs.Made.{made}
use Rattle.field.specs.Meaning.{Meaning, sum_of, product_of}
use Rattle.poly.specs.Arithmetic.{difference_of, quotient_of}

-- the divided difference of the values d at i against place j, for the points α
unfoldable pub divided_at : Meaning → List ℕ → (ℕ → ℕ) → ℕ → ℕ → ℕ
divided_at m α d j i = quotient_of m (difference_of m (d i) (d j)) (difference_of m (slice_index α i) (slice_index α j))

-- the values d with those after place j divided against it
unfoldable pub swept_at : Meaning → List ℕ → (ℕ → ℕ) → ℕ → ℕ → ℕ
swept_at m α d j i = cond (nat_lt j i) (divided_at m α d j i) (d i)

-- a list of values with those after place j divided against it
unfoldable pub sweep_of : Meaning → List ℕ → ℕ → List ℕ → List ℕ
sweep_of m α j d = made (length d) (swept_at m α (λ i. slice_index d i) j)

-- the values β after they were divided against the first j places, one after the other
unfoldable pub reduced : Meaning → List ℕ → List ℕ → ℕ → ℕ → ℕ
reduced m α β zero i = slice_index β i
reduced m α β (suc j) i = swept_at m α (reduced m α β j) j i

-- the coefficients of Newton's form of the polynomial with the values β at the points α
unfoldable pub coefficients_of : Meaning → List ℕ → List ℕ → List ℕ
coefficients_of m α β = made (length β) (reduced m α β (length β))

-- the value at z of n terms of Newton's form from term i on: d i + (z − α i) · (d (i + 1) + (z − α (i + 1)) · …)
unfoldable pub nested_from : Meaning → List ℕ → (ℕ → ℕ) → ℕ → ℕ → ℕ → ℕ
nested_from m α d z zero i = 0
nested_from m α d z (suc n) i = sum_of m (d i) (product_of m (difference_of m z (slice_index α i)) (nested_from m α d z n (suc i)))

-- the value at z of Newton's form with the coefficients d at the points α
unfoldable pub nested_of : Meaning → List ℕ → List ℕ → ℕ → ℕ
nested_of m α d z = nested_from m α (λ i. slice_index d i) z (length d) 0
