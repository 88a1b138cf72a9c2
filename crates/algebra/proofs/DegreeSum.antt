-- Sums of the degrees of rows.
use mathlib.Core.Path.{◌≡◌, refl, sym, ◌∙◌, ap, ap₂}
use Prim.Native.Nat.{ℕ, zero, suc, ◌+◌, ◌*◌, ◌<◌}
use native.Mathlib.Nat.{mul-zero, mul-add, suc-mul, zero-mul}
use native.Mathlib.Omega.{arith}
use native.Mathlib.Decide.{dec_lt, ℕ_discrete}
use Rattle.algebra.specs.Conditions.{triangle}
use Rattle.algebra.specs.Koetter.{degree_sum}

pub degree_sum_cong : (n : ℕ) (d e : ℕ → ℕ) → ((j : ℕ) → j < n → e j ≡ d j) → degree_sum n e ≡ degree_sum n d
degree_sum_cong zero d e h = refl
degree_sum_cong (suc n) d e h = ap₂ ◌+◌ (degree_sum_cong n d e (λ j k. h j (omega arith))) (h n (omega arith))

-- one degree grows by one
pub degree_sum_raise : (n p : ℕ) (d e : ℕ → ℕ)
    → p < n
    → e p ≡ suc (d p)
    → ((j : ℕ) → j < n → (j ≡ p → ⊥) → e j ≡ d j)
    → degree_sum n e ≡ suc (degree_sum n d)
degree_sum_raise zero p d e h r k = absurd (omega arith)
degree_sum_raise (suc n) p d e h r k =
    go (ℕ_discrete p n) (λ i. degree_sum_raise n p d e i r (λ j t. k j (omega arith)))
  where
    go : Dec (p ≡ n)
        → (p < n → degree_sum n e ≡ suc (degree_sum n d))
        → degree_sum n e + e n ≡ suc (degree_sum n d + d n)
    go (yes q) ih =
        let a : degree_sum n e ≡ degree_sum n d = degree_sum_cong n d e (λ j t. k j (omega arith) (λ x. absurd (omega arith))) in
        let b : e n ≡ suc (d n) = ap e (sym q) ∙ r ∙ ap (λ x. suc (d x)) q in
        omega arith
    go (no q) ih =
        let a : degree_sum n e ≡ suc (degree_sum n d) = ih (omega arith) in
        let b : e n ≡ d n = k n (omega arith) (λ x. q (sym x)) in
        omega arith

-- the degrees 0, s, 2s, …
pub degree_sum_start : (n s : ℕ) (d : ℕ → ℕ) → ((j : ℕ) → j < n → d j ≡ s * j) → degree_sum n d ≡ s * triangle n
degree_sum_start zero s d h = sym (mul-zero s)
degree_sum_start (suc n) s d h =
    ap₂ ◌+◌ (degree_sum_start n s d (λ j k. h j (omega arith))) (h n (omega arith)) ∙ sym (mul-add s (triangle n) n)

-- degrees that sum to less than n·D are not all D or more
pub degree_sum_least : (n D : ℕ) (d : ℕ → ℕ) → degree_sum n d < n * D → (j : ℕ) × (j < n) × (d j < D)
degree_sum_least zero D d h = let e : zero * D ≡ 0 = zero-mul D in absurd (omega arith)
degree_sum_least (suc n) D d h = go (dec_lt (d n) D) (degree_sum_least n D d)
  where
    go : Dec (d n < D)
        → (degree_sum n d < n * D → (j : ℕ) × (j < n) × (d j < D))
        → (j : ℕ) × (j < suc n) × (d j < D)
    go (yes k) ih = (n, omega arith, k)
    go (no k) ih =
        let e : suc n * D ≡ n * D + D = suc-mul n D in
        let r : (j : ℕ) × (j < n) × (d j < D) = ih (omega arith) in
        (r.0, (let q : r.0 < n = r.1 in omega arith), r.2)
