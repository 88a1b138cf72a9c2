-- Sums and multiples of rows and of polynomials in x and y over the numbers of a field.
use Rattle.std.specs.Prelude.{ℕ, ◌-◌, ◌*◌, min, cond, ◌&&◌, List, [], ◌==◌, nat_lt, slice_index, slice_index_or}
use Rattle.field.specs.Meaning.{Meaning, sum_of, negative_of, product_of}
use Rattle.field.specs.Made.{made}
use Rattle.bivariate.specs.Horner.{nested_of, entries, coefficient_of}

-- how many coefficients row c has where x weighs 1, y weighs weight and the weighted degree is below bound
unfoldable pub row_length : ℕ → ℕ → ℕ → ℕ
row_length bound weight c = min (bound - c * weight) 256

-- the coefficient of x^r of row c at a + x
abbrev pub term_of : Meaning → List (List ℕ) → ℕ → ℕ → ℕ → ℕ → ℕ → ℕ
term_of m q bound weight a r c = coefficient_of m a (entries (slice_index_or q c [])) (row_length bound weight c) r

-- the same for the rows below l, and 0 for the others
unfoldable pub term_within : Meaning → List (List ℕ) → ℕ → ℕ → ℕ → ℕ → ℕ → ℕ → ℕ
term_within m q l bound weight a r c = cond (nat_lt c (min l 8)) (term_of m q bound weight a r c) 0

-- the coefficients of x^r of the rows at a + x, where those from l on count as 0
unfoldable pub terms_of : Meaning → List (List ℕ) → ℕ → ℕ → ℕ → ℕ → ℕ → List ℕ
terms_of m q l bound weight a r = made 8 (λ c. term_within m q l bound weight a r c)

-- the coefficient of x^r y^u of q(a + x, b + y), where q has the rows below l; 0 where u or r is above 7
unfoldable pub discrepancy_of : Meaning → List (List ℕ) → ℕ → ℕ → ℕ → ℕ → ℕ → ℕ → ℕ → ℕ
discrepancy_of m q l bound weight a b u r = coefficient_of m b (term_of m q bound weight a r) (min l 8) u

-- target + k·source in the first len coefficients
unfoldable pub plus_of : Meaning → ℕ → ℕ → List ℕ → List ℕ → List ℕ
plus_of m k len target source =
    made 256 (λ i. cond (nat_lt i len) (sum_of m (slice_index target i) (product_of m k (slice_index source i))) (slice_index target i))

-- target − k·source in the first len coefficients
unfoldable pub minus_of : Meaning → ℕ → ℕ → List ℕ → List ℕ → List ℕ
minus_of m k len target source = plus_of m (negative_of m k) len target source

-- (x − a)·row in the first len coefficients
unfoldable pub times_of : Meaning → ℕ → ℕ → List ℕ → List ℕ
times_of m a len row = nested_of 256 m len (negative_of m a) 0 row

-- the polynomial in which each row c below l is made anew by f, and the others are as they were
unfoldable pub changed : ℕ → (ℕ → List ℕ → List ℕ) → List (List ℕ) → List (List ℕ)
changed l f q = made 8 (λ c. cond (nat_lt c l) (f c (slice_index_or q c [])) (slice_index_or q c []))

-- target − k·source in the rows below l
unfoldable pub minus_polynomial_of : Meaning → ℕ → ℕ → ℕ → ℕ → List (List ℕ) → List (List ℕ) → List (List ℕ)
minus_polynomial_of m k l bound weight target source =
    changed l (λ c row. minus_of m k (row_length bound weight c) row (slice_index_or source c [])) target

-- (x − a)·q in the rows below l
unfoldable pub times_polynomial_of : Meaning → ℕ → ℕ → ℕ → ℕ → List (List ℕ) → List (List ℕ)
times_polynomial_of m a l bound weight q = changed l (λ c row. times_of m a (row_length bound weight c) row) q

-- the polynomial 0
unfoldable pub zero_of : List (List ℕ)
zero_of = made 8 (λ _. made 256 (λ _. 0))

-- y^j, and 0 from j = 8 on
unfoldable pub y_power_of : ℕ → List (List ℕ)
y_power_of j = made 8 (λ c. made 256 (λ i. cond (c == j && i == 0) 1 0))
