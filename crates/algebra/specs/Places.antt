-- Places: points of the plane, each with the multiplicity that is asked for there.
use Rattle.std.specs.Prelude.{◌≡◌, List, [], ◌∷◌, ℕ}
use Rattle.algebra.specs.Ring.{CommRing, Field}
use Rattle.algebra.specs.Series.{Series}
use Rattle.algebra.specs.Evaluation.{eval}
use Rattle.algebra.specs.Order.{total}
use Rattle.algebra.specs.Bivariate.{Bivariate, Multiplicity}

-- a point with a multiplicity
pub record Place (K : Type 0) : Type 0 where
  pub abscissa : K
  pub ordinate : K
  pub multiplicity : ℕ

-- the abscissae with the multiplicities
abbrev pub orders_of : {K : Type 0} → List (Place K) → List (K × ℕ)
orders_of [] = []
orders_of (p ∷ ps) = (p.abscissa, p.multiplicity) ∷ orders_of ps

-- the place p stands at another point than each place of the list: another abscissa or another ordinate
abbrev pub Elsewhere : {K : Type 0} → Place K → List (Place K) → Type 0
Elsewhere p [] = Unit {0}
Elsewhere p (q ∷ ps) = (p.abscissa ≡ q.abscissa → p.ordinate ≡ q.ordinate → ⊥) × Elsewhere p ps

-- the points of the places are pairwise distinct; several may share an abscissa
abbrev pub DistinctPoints : {K : Type 0} → List (Place K) → Type 0
DistinctPoints [] = Unit {0}
DistinctPoints (p ∷ ps) = Elsewhere p ps × DistinctPoints ps

-- Q, of degree below d in x and below l in y, vanishes at each place with its multiplicity
abbrev pub Multiplicities : {K : Type 0} → CommRing K → ℕ → ℕ → Bivariate K → List (Place K) → Type 0
Multiplicities R d l Q [] = Unit {0}
Multiplicities R d l Q (p ∷ ps) =
    Multiplicity R p.abscissa p.ordinate p.multiplicity d l Q × Multiplicities R d l Q ps

-- f, of degree below d, goes through each place
abbrev pub Through : {K : Type 0} → CommRing K → ℕ → Series K → List (Place K) → Type 0
Through R d f [] = Unit {0}
Through R d f (p ∷ ps) = (eval R d f p.abscissa ≡ p.ordinate) × Through R d f ps

-- the places that f, of degree below d, goes through
abbrev pub met : {K : Type 0} → Field K → ℕ → Series K → List (Place K) → List (Place K)
met F d f [] = []
met F d f (p ∷ ps) =
    elim (F.decide (eval F.ring d f p.abscissa) p.ordinate) [ yes e ↦ p ∷ met F d f ps | no h ↦ met F d f ps ]

-- the sum of the multiplicities of the places that f goes through
abbrev pub agreement : {K : Type 0} → Field K → ℕ → Series K → List (Place K) → ℕ
agreement F d f ps = total (orders_of (met F d f ps))
