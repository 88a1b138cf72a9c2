-- The search for the roots f of Q in y, coefficient by coefficient: f = γ + x·g, where g is a root of Q(x, γ + x·y).
use Rattle.std.specs.Prelude.{◌≡◌, ℕ, zero, suc, ◌<◌}
use Rattle.std.proofs.Common.{arith}
use Rattle.algebra.specs.Ring.{CommRing, Field}
use Rattle.algebra.specs.Series.{Series, tail, constant, X, series}
use Rattle.algebra.specs.Evaluation.{eval, taylor}
use Rattle.algebra.specs.Sum.{power}
use Rattle.algebra.specs.Bivariate.{Bivariate, substitute}

-- Q is not the zero polynomial
abbrev pub Nonzero : {K : Type 0} → CommRing K → Bivariate K → Type 0
Nonzero R Q = Q ≡ (series (series R)).zero → ⊥

-- f is a root of Q in y: Q(x, f(x)) = 0, where Q has degree below l in y
abbrev pub Root : {K : Type 0} → CommRing K → ℕ → Bivariate K → Series K → Type 0
Root R l Q f = substitute R l Q f ≡ (series R).zero

-- the first n members of the sequence are zero
abbrev pub Vanish : {K : Type 0} → CommRing K → ℕ → (ℕ → K) → Type 0
Vanish R n f = (i : ℕ) → i < n → f i ≡ R.zero

-- a first member that is zero, before n that are zero
pub vanish_suc : {K : Type 0} (R : CommRing K) (n : ℕ) (f : ℕ → K)
    → f 0 ≡ R.zero
    → Vanish R n (tail f)
    → Vanish R (suc n) f
vanish_suc R n f e v zero h = e
vanish_suc R n f e v (suc i) h = v i (omega arith)

-- what is decided of the first member and of the n that follow, decides the first n + 1
unfoldable pub decide_suc : {K : Type 0} (R : CommRing K) (n : ℕ) (f : ℕ → K)
    → Dec (f 0 ≡ R.zero)
    → Dec (Vanish R n (tail f))
    → Dec (Vanish R (suc n) f)
decide_suc R n f (no h) c = no (λ v. h (v 0 (omega arith)))
decide_suc R n f (yes e) (no h) = no (λ v. h (λ i k. v (suc i) (omega arith)))
decide_suc R n f (yes e) (yes v) = yes (vanish_suc R n f e v)

-- whether the first n members are zero is decided one after the other
unfoldable pub decide_vanish : {K : Type 0} (F : Field K) (n : ℕ) (f : ℕ → K) → Dec (Vanish F.ring n f)
decide_vanish F zero f = yes (λ i h. absurd (omega arith))
decide_vanish F (suc n) f = decide_suc F.ring n f (F.decide (f 0) F.ring.zero) (decide_vanish F n (tail f))

-- Q(0, y): the constant term of each coefficient of y
abbrev pub at_zero : {K : Type 0} → Bivariate K → Series K
at_zero Q c = Q c 0

-- Q / x, where x divides Q: each coefficient of y moves down one place
abbrev pub lower : {K : Type 0} → Bivariate K → Bivariate K
lower Q c = tail (Q c)

-- Q divided by x as long as x divides it, at most n times
unfoldable pub strip : {K : Type 0} → Field K → ℕ → ℕ → Bivariate K → Bivariate K
strip F l zero Q = Q
strip F l (suc n) Q = elim (decide_vanish F l (at_zero Q)) [ yes v ↦ strip F l n (lower Q) | no h ↦ Q ]

-- γ can be the constant term of a root of Q: Q(0, γ) = 0
abbrev pub Candidate : {K : Type 0} → CommRing K → ℕ → Bivariate K → K → Type 0
Candidate R l Q γ = eval R l (at_zero Q) γ ≡ R.zero

-- Q(x, γ + x·y): the Taylor coefficient of y^c at y = γ moves up c places
abbrev pub next : {K : Type 0} → CommRing K → ℕ → Bivariate K → K → Bivariate K
next R l Q γ c = (series R).mul (power (series R) (X R) c) (taylor (series R) l Q (constant R γ) c)

-- the coefficients of Q(x, γ)
abbrev pub at_constant : {K : Type 0} → CommRing K → ℕ → Bivariate K → K → Series K
at_constant R l Q γ i = eval R l (λ c. Q c i) γ
