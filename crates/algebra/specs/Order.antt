-- The order to which a polynomial vanishes at a point, and at each point of a list.
use Rattle.std.specs.Prelude.{◌≡◌, List, [], ◌∷◌, ℕ, ◌+◌}
use Rattle.algebra.specs.Ring.{CommRing}
use Rattle.algebra.specs.Series.{Series, x_minus, series}
use Rattle.algebra.specs.Degree.{Divisible}
use Rattle.algebra.specs.Evaluation.{taylor}
use Rattle.algebra.specs.Sum.{power}

-- f, of degree below d, vanishes at a to order m: the first m coefficients of f(a + x) are zero
abbrev pub Order : {K : Type 0} → CommRing K → K → ℕ → ℕ → Series K → Type 0
Order R a m d f = Divisible R m (taylor R d f a)

-- f, of degree below d, vanishes at each point of the list to the order that stands beside it
abbrev pub Orders : {K : Type 0} → CommRing K → List (K × ℕ) → ℕ → Series K → Type 0
Orders R [] d f = Unit {0}
Orders R (p ∷ ps) d f = Order R p.0 p.1 d f × Orders R ps d f

-- a differs from the first part of each pair of the list
abbrev pub Differs : {K B : Type 0} → K → List (K × B) → Type 0
Differs a [] = Unit {0}
Differs a (p ∷ ps) = (a ≡ p.0 → ⊥) × Differs a ps

-- the first parts of the pairs are distinct
abbrev pub Distinct : {K B : Type 0} → List (K × B) → Type 0
Distinct [] = Unit {0}
Distinct (p ∷ ps) = Differs p.0 ps × Distinct ps

-- the sum of the orders
abbrev pub total : {K : Type 0} → List (K × ℕ) → ℕ
total [] = 0
total (p ∷ ps) = p.1 + total ps

-- the product of (x − a)^m over the pairs (a, m) of the list
abbrev pub locator : {K : Type 0} → CommRing K → List (K × ℕ) → Series K
locator R [] = (series R).one
locator R (p ∷ ps) = (series R).mul (power (series R) (x_minus R p.0) p.1) (locator R ps)
