-- The rows of a basis: where they start, and what one condition does to them.
use Rattle.std.specs.Prelude.{ℕ, ◌+◌, ◌-◌, ◌*◌, ◌^◌, min, cond, List, [], ◌==◌, nat_lt, slice_index, slice_index_or, slice_set}
use Rattle.std.specs.Option.{unwrap_or}
use Rattle.field.specs.Meaning.{Meaning, product_of, inverse_of}
use Rattle.field.specs.Made.{made}
use Rattle.bivariate.specs.Combinations.{discrepancy_of, minus_polynomial_of, times_polynomial_of, y_power_of}

-- the powers y^0 to y^7
unfoldable pub start_rows : List (List (List ℕ))
start_rows = made 8 y_power_of

-- their degrees where y has the weight, as far as 64 bits go
unfoldable pub start_degrees : ℕ → List ℕ
start_degrees weight = made 8 (λ j. min (weight * j) (2 ^ 64 - 1))

-- the discrepancy of a row whose degree is below the bound, and 0 for other rows
unfoldable pub live_discrepancy_of : Meaning → List (List ℕ) → ℕ → ℕ → ℕ → ℕ → ℕ → ℕ → ℕ → ℕ → ℕ
live_discrepancy_of m q degree l bound weight a b u r =
    cond (nat_lt degree bound) (discrepancy_of m q l bound weight a b u r) 0

-- the discrepancies of the rows below l whose degree is below the bound, and 0 for other rows
unfoldable pub discrepancies_of : Meaning → List (List (List ℕ)) → List ℕ → ℕ → ℕ → ℕ → ℕ → ℕ → ℕ → ℕ → List ℕ
discrepancies_of m rows degrees l bound weight a b u r =
    made 8 (λ j. cond (nat_lt j l) (live_discrepancy_of m (slice_index_or rows j []) (slice_index degrees j) l bound weight a b u r) 0)

-- the inverse of an element, and 0 where there is none
unfoldable pub inverse_or_zero : Meaning → ℕ → ℕ
inverse_or_zero m a = unwrap_or (inverse_of m a) 0

-- the row less the multiple of the source by the discrepancy times the factor, unless the discrepancy is 0
unfoldable pub cleared_row_of : Meaning → List (List ℕ) → ℕ → ℕ → ℕ → ℕ → ℕ → List (List ℕ) → List (List ℕ)
cleared_row_of m source factor l bound weight discrepancy q =
    cond (discrepancy == 0) q (minus_polynomial_of m (product_of m discrepancy factor) l bound weight q source)

-- each row cleared of its discrepancy
unfoldable pub cleared_of : Meaning → List (List ℕ) → ℕ → ℕ → ℕ → ℕ → List ℕ → List (List (List ℕ)) → List (List (List ℕ))
cleared_of m source factor l bound weight discrepancies rows =
    made 8 (λ j. cleared_row_of m source factor l bound weight (slice_index discrepancies j) (slice_index_or rows j []))

-- the row times x − a, where the degree of the product is below the bound
unfoldable pub raised_row_of : Meaning → ℕ → ℕ → ℕ → ℕ → ℕ → List (List ℕ) → List (List ℕ)
raised_row_of m degree a l bound weight q = cond (nat_lt degree bound) (times_polynomial_of m a l bound weight q) q

-- row p times x − a, where the degree of the product is below the bound
unfoldable pub raised_of : Meaning → ℕ → ℕ → ℕ → ℕ → ℕ → ℕ → List (List (List ℕ)) → List (List (List ℕ))
raised_of m p degree a l bound weight rows =
    cond (nat_lt degree bound) (slice_set rows p (times_polynomial_of m a l bound weight (slice_index_or rows p []))) rows

-- the other rows cleared of their discrepancies by row p, and row p times x − a
unfoldable pub reduced_of : Meaning → ℕ → List ℕ → List ℕ → ℕ → ℕ → ℕ → ℕ → List (List (List ℕ)) → List (List (List ℕ))
reduced_of m p discrepancies degrees a l bound weight rows =
    raised_of
    m
    p
    (slice_index degrees p + 1)
    a
    l
    bound
    weight
    (cleared_of
    m
    (slice_index_or rows p [])
    (inverse_or_zero m (slice_index discrepancies p))
    l
    bound
    weight
    (slice_set discrepancies p 0)
    rows)
