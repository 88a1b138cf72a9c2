-- Which words of n lie wholly inside a list: those before the quotient of its length by n.
use Rattle.std.proofs.Common.{◌≡◌, ℕ, ◌+◌, ◌*◌, ◌/◌, ◌<◌, ◌≤◌, ap, ◌∙◌, subst, div-lt_iff_lt-mul, add-mul, one-mul, le-div_iff_mul-le, arith}

-- the end of word i
ends : (i n : ℕ) → (i + 1) * n ≡ i * n + n
ends i n = add-mul i 1 n ∙ ap (λ x. i * n + x) (one-mul n)

pub inside : (long n i : ℕ) → 2 ≤ n → i < long / n → i * n + n ≤ long
inside long n i h k = subst (λ x. x ≤ long) (ends i n) ((le-div_iff_mul-le {k = n} {x = i + 1} {y = long} (omega arith)).0 (omega arith))

pub outside : (long n i : ℕ) → 2 ≤ n → long / n ≤ i → long < i * n + n
outside long n i h k = subst (λ x. long < x) (ends i n) ((div-lt_iff_lt-mul {k = n} {x = long} {y = i + 1} (omega arith)).0 (omega arith))
