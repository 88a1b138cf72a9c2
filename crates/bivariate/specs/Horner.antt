-- Values and expansions of polynomials in one variable over the numbers of a field, by Horner's rule.
use Rattle.std.specs.Prelude.{ℕ, zero, suc, cond, List, nat_lt, slice_index}
use Rattle.field.specs.Meaning.{Meaning, sum_of, product_of}
use Rattle.field.specs.Made.{made}

-- the coefficients of a row, 0 past its end
abbrev pub entries : List ℕ → ℕ → ℕ
entries row i = slice_index row i

-- the value at a of cs i + cs (i + 1)·x + …, with n coefficients
unfoldable pub value_of : Meaning → ℕ → (ℕ → ℕ) → ℕ → ℕ → ℕ
value_of m a cs i zero = 0
value_of m a cs i (suc n) = sum_of m (cs i) (product_of m a (value_of m a cs (suc i) n))

-- the coefficient of x^r of the same polynomial at a + x
unfoldable pub taylor_of : Meaning → ℕ → (ℕ → ℕ) → ℕ → ℕ → ℕ → ℕ
taylor_of m a cs i zero r = 0
taylor_of m a cs i (suc n) zero = sum_of m (cs i) (product_of m a (taylor_of m a cs (suc i) n 0))
taylor_of m a cs i (suc n) (suc r) = sum_of m (taylor_of m a cs (suc i) n r) (product_of m a (taylor_of m a cs (suc i) n (suc r)))

-- c in front of the list: c at 0, and what stands at r − 1 at any other r
unfoldable pub before : ℕ → List ℕ → ℕ → ℕ
before c h zero = c
before c h (suc r) = slice_index h r

-- c + (x + a)·row in the first len coefficients of a row of size
unfoldable pub nested_of : ℕ → Meaning → ℕ → ℕ → ℕ → List ℕ → List ℕ
nested_of size m len a c row =
    made size (λ i. cond (nat_lt i len) (sum_of m (before c row i) (product_of m a (slice_index row i))) (slice_index row i))

-- the first coefficients h of f(a + x) turned into those of c + x·f(x) at a + x, as far as order
unfoldable pub pushed : Meaning → ℕ → ℕ → ℕ → List ℕ → List ℕ
pushed m order a c h = nested_of 8 m order a c h

-- the coefficients below order of the expansion at a of cs i + cs (i + 1)·x + …, with n coefficients, and 0 in place of the others
unfoldable pub expansion_of : Meaning → ℕ → (ℕ → ℕ) → ℕ → ℕ → ℕ → List ℕ
expansion_of m a cs i n order = made 8 (λ r. cond (nat_lt r order) (taylor_of m a cs i n r) 0)

-- the coefficient of x^r of the expansion at a of cs 0 + cs 1·x + …, with n coefficients, and 0 from r = 8 on
unfoldable pub coefficient_of : Meaning → ℕ → (ℕ → ℕ) → ℕ → ℕ → ℕ
coefficient_of m a cs n r = cond (nat_lt r 8) (taylor_of m a cs 0 n r) 0
