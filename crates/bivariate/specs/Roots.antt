-- Divisions by x, values and substitutions in y, as the search for roots wants them.
use Rattle.std.specs.Prelude.{ℕ, zero, suc, ◌-◌, min, Bool, true, cond, ◌&&◌, List, [], ◌==◌, nat_lt, slice_index, slice_index_or}
use Rattle.field.specs.Meaning.{Meaning}
use Rattle.field.specs.Made.{made}
use Rattle.bivariate.specs.Horner.{value_of}
use Rattle.bivariate.specs.Combinations.{row_length, plus_of, changed}

-- the coefficients of x^i, by the power of y
abbrev pub column : List (List ℕ) → ℕ → ℕ → ℕ
column q i c = slice_index (slice_index_or q c []) i

-- whether the first n numbers f 0 to f (n − 1) are zero
unfoldable pub all_zero : (ℕ → ℕ) → ℕ → Bool
all_zero f zero = true
all_zero f (suc n) = f n == 0 && all_zero f n

-- the row without its constant term, one place down
unfoldable pub lower_row : List ℕ → List ℕ
lower_row row = made 256 (λ i. slice_index row (suc i))

-- each row without its constant term, one place down
unfoldable pub lower_of : List (List ℕ) → List (List ℕ)
lower_of q = changed 8 (λ _ row. lower_row row) q

-- the coefficient of x^i of q(x, g), where q has the rows below l
unfoldable pub column_value_of : Meaning → ℕ → ℕ → List (List ℕ) → ℕ → ℕ
column_value_of m g l q i = value_of m g (column q i) 0 (min l 8)

-- each row from c on, but for the last below l, plus g times the next row
unfoldable pub shift_step_of : Meaning → ℕ → ℕ → ℕ → ℕ → ℕ → List (List ℕ) → List (List ℕ)
shift_step_of m g l bound weight c q =
    made
    8
    (λ r.
    cond
    (nat_lt r c)
    (slice_index_or q r [])
    (cond (nat_lt (suc r) (min l 8)) (plus_of m g (row_length bound weight (suc r)) (slice_index_or q r []) (slice_index_or q (suc r) [])) (slice_index_or q r [])))

-- such steps from c = n − 1 down to 0, which expand the polynomial with the rows below n at y = g
unfoldable pub shift_of : Meaning → ℕ → ℕ → ℕ → ℕ → ℕ → List (List ℕ) → List (List ℕ)
shift_of m g l bound weight zero q = q
shift_of m g l bound weight (suc n) q = shift_of m g l bound weight n (shift_step_of m g l bound weight n q)

-- the row c places up, with zeros at its start
unfoldable pub raise_row : ℕ → List ℕ → List ℕ
raise_row c row = made 256 (λ i. cond (nat_lt i c) 0 (slice_index row (i - c)))

-- each row c moved c places up
unfoldable pub raise_of : List (List ℕ) → List (List ℕ)
raise_of q = changed 8 raise_row q

-- q(x, g + x·y): the expansion at y = g, and each row c moved c places up
unfoldable pub shifted_of : Meaning → ℕ → ℕ → ℕ → ℕ → List (List ℕ) → List (List ℕ)
shifted_of m g l bound weight q = raise_of (shift_of m g l bound weight (min l 8) q)
