-- A basis as the list of its polynomials and the list of their degrees.
use Rattle.std.specs.Prelude.{ℕ, ◌-◌, ◌*◌, ◌^◌, min, List, map}
use Rattle.field.specs.Made.{made}
use Rattle.bivariate.specs.Combinations.{y_power_of}
use Rattle.interpolation.specs.declared.basis.BasisRow.{BasisRow}

-- the polynomials of the rows
unfoldable pub rows_of : List BasisRow → List (List (List ℕ))
rows_of basis = map (λ r. r.polynomial) basis

-- the degrees of the rows
unfoldable pub degrees_of : List BasisRow → List ℕ
degrees_of basis = map (λ r. r.degree) basis

-- y^j with its degree where y has the weight, as far as 64 bits go
unfoldable pub start_row : ℕ → ℕ → BasisRow
start_row weight j = record { polynomial = y_power_of j; degree = min (weight * j) (2 ^ 64 - 1) }

-- the powers y^0 to y^7, with their degrees
unfoldable pub start_of : ℕ → List BasisRow
start_of weight = made 8 (start_row weight)
