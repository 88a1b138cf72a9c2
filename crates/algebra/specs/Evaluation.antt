-- Values, Taylor expansions and quotients of polynomials, each by Horner's rule on a bound of the degree.
use Rattle.std.specs.Prelude.{List, [], ◌∷◌, get_or, ℕ, zero, suc}
use Rattle.algebra.specs.Ring.{CommRing}
use Rattle.algebra.specs.Series.{Series, tail, constant, plus_x, series}

-- the polynomial with the coefficients of the list
abbrev pub from_list : {K : Type 0} → CommRing K → List K → Series K
from_list R cs n = get_or cs n R.zero

-- the value at a of the polynomial with the coefficients of the list
abbrev pub horner : {K : Type 0} → CommRing K → List K → K → K
horner R [] a = R.zero
horner R (c ∷ cs) a = R.add c (R.mul a (horner R cs a))

-- the value at a of the first d terms of f, which is f(a) where f has degree below d
abbrev pub eval : {K : Type 0} → CommRing K → ℕ → Series K → K → K
eval R zero f a = R.zero
eval R (suc d) f a = R.add (f 0) (R.mul a (eval R d (tail f) a))

-- the coefficients of f(a + x), where f has degree below d
abbrev pub taylor : {K : Type 0} → CommRing K → ℕ → Series K → K → Series K
taylor R d f a = eval (series R) d (λ n. constant R (f n)) (plus_x R a)

-- the quotient of f by x − a, where f has degree below d
abbrev pub quotient : {K : Type 0} → CommRing K → ℕ → Series K → K → Series K
quotient R zero f a n = R.zero
quotient R (suc d) f a zero = eval R d (tail f) a
quotient R (suc d) f a (suc n) = quotient R d (tail f) a n

-- the derivative of f at a, where f has degree below d
abbrev pub derivative : {K : Type 0} → CommRing K → ℕ → Series K → K → K
derivative R d f a = taylor R d f a 1
