-- Powers that stop at a greatest number.
use Rattle.std.proofs.Common.{◌≡◌, ℕ, zero, suc, ◌+◌, ◌*◌, ◌^◌, ◌<◌, ◌≤◌, min, ap, ap₂, sym, ◌∙◌, arith, mul-le-mul, pow-suc, add-one}
use native.Mathlib.Decide.{dec_lt}

-- a product of a number that was stopped at m
min-min_mul : (x b m : ℕ) → min (min x m * b) m ≡ min (x * b) m
min-min_mul x b m = go b (dec_lt m x)
  where
    go : (b : ℕ) → Dec (m < x) → min (min x m * b) m ≡ min (x * b) m
    go b (no h) = let e : min x m ≡ x = omega arith in ap (λ y. min (y * b) m) e
    go zero (yes h) = grind arith
    go (suc b) (yes h) =
        let e : min x m ≡ m = omega arith in
        let low : m * 1 ≤ m * suc b = mul-le-mul {n₁ = m} {m₁ = 1} {n₂ = m} {m₂ = suc b} (omega arith) (omega arith) in
        let high : m * 1 ≤ x * suc b = mul-le-mul {n₁ = m} {m₁ = 1} {n₂ = x} {m₂ = suc b} (omega arith) (omega arith) in
        ap (λ y. min (y * suc b) m) e ∙ omega arith

pub pow_more : (b i : ℕ) → b ^ i * b ≡ b ^ (i + 1)
pow_more b i = sym (ap (λ n. b ^ n) (add-one i) ∙ pow-suc b i)

pub power_more : (m base i all result b : ℕ) → result ≡ min (all * b) m → all ≡ min (base ^ i) m → b ≡ base → result ≡ min (base ^ (i + 1)) m
power_more m base i all result b made before same =
    made ∙ ap₂ (λ x y. min (x * y) m) before same ∙ min-min_mul (base ^ i) base m ∙ ap (λ x. min x m) (pow_more base i)
