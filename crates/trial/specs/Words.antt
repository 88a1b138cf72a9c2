-- Words as digits of numbers, and the words that polynomials give.
use Rattle.std.specs.Prelude.{ℕ, min, max, ◌-◌, ◌/◌, ◌%◌, ◌^◌, List, map, reverse, length, slice_index, cond, ◌&&◌, nat_lt}
use Rattle.std.specs.List.{fold, range_with_len}
use Rattle.field.specs.Meaning.{Meaning, sum_of, product_of}

-- digit i of a number in a base, which is 2 at least
abbrev pub digit : ℕ → ℕ → ℕ → ℕ
digit number base i = number / max base 2 ^ i % max base 2

-- the first k digits of a number in a base, lowest first
abbrev pub digits_of : ℕ → ℕ → ℕ → List ℕ
digits_of k number base = map (λ i. digit number base i) (range_with_len 0 k)

-- the number of lists of n digits, 2^64 - 1 where there are more
abbrev pub count_of : ℕ → ℕ → ℕ
count_of base n = min (base ^ n) (2 ^ 64 - 1)

-- the value at a of the polynomial with these coefficients, by Horner's rule
abbrev pub value_of : Meaning → List ℕ → ℕ → ℕ
value_of m coefficients a = fold (λ v c. sum_of m (product_of m v a) c) 0 (reverse coefficients)

-- letter i of the word that a polynomial gives: its value at point i of the support, times multiplier i; 0 where there is none
abbrev pub letter_of : Meaning → List ℕ → List ℕ → List ℕ → ℕ → ℕ
letter_of m support multipliers coefficients i = cond (nat_lt i (length support) && nat_lt i (length multipliers))
    (product_of m (slice_index multipliers i) (value_of m coefficients (slice_index support i)))
    0
