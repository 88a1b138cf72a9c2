-- A polynomial in x and y as one list of numbers, row after row.
use Rattle.std.specs.Prelude.{ℕ, ◌+◌, ◌-◌, ◌*◌, ◌/◌, ◌%◌, min, cond, List, [], length, nat_lt, slice_index, slice_index_or}
use Rattle.field.specs.Made.{made}

-- the list with its first count numbers 0
unfoldable pub cleared_of : ℕ → List ℕ → List ℕ
cleared_of count xs = made (length xs) (λ p. cond (nat_lt p count) 0 (slice_index xs p))

-- the list with the first width numbers of the row in place of those from start on
unfoldable pub pasted_of : ℕ → ℕ → List ℕ → List ℕ → List ℕ
pasted_of start width row xs =
    made
    (length xs)
    (λ p. cond (nat_lt p start) (slice_index xs p) (cond (nat_lt p (start + width)) (slice_index row (p - start)) (slice_index xs p)))

-- the list with count rows at its start, width numbers of each: at c·width + i stands coefficient i of row c
unfoldable pub rows_of : List (List ℕ) → ℕ → ℕ → List ℕ → List ℕ
rows_of q count width xs =
    made
    (length xs)
    (λ p. cond (nat_lt p (count * width)) (slice_index (slice_index_or q (p / width) []) (p % width)) (slice_index xs p))

-- the rows below l, bound numbers of each, then 0 as far as 32,768, then what stood there; a shorter list is as it was
unfoldable pub flat_of : List (List ℕ) → ℕ → ℕ → List ℕ → List ℕ
flat_of q l bound xs =
    cond (nat_lt (length xs) 32768) xs (rows_of q (min l 8) (min bound 256) (cleared_of 32768 xs))
