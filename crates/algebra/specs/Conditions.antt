-- Conditions on a polynomial in x and y: that one coefficient of its expansion at a point is zero.
use Rattle.std.specs.Prelude.{◌≡◌, List, [], ◌∷◌, ◌++◌, ℕ, zero, suc, ◌+◌, ◌-◌}
use Rattle.algebra.specs.Members.{Member}
use Rattle.algebra.specs.Ring.{CommRing}
use Rattle.algebra.specs.Bivariate.{Bivariate, local_expansion}
use Rattle.algebra.specs.Places.{Place}

-- a point and the exponents of a monomial: in Q(a + x, b + y) the coefficient of x^r y^u is to be zero
pub record Condition (K : Type 0) : Type 0 where
  pub abscissa : K
  pub ordinate : K
  pub exponent_y : ℕ
  pub exponent_x : ℕ

-- the condition of a point (a, b) and of the exponents u of y and r of x
abbrev pub condition : {K : Type 0} → K → K → ℕ → ℕ → Condition K
condition a b u r = record { abscissa = a; ordinate = b; exponent_y = u; exponent_x = r }

-- the coefficient that the condition wants to be zero, where Q has degree below d in x and below l in y
abbrev pub discrepancy : {K : Type 0} → CommRing K → ℕ → ℕ → Bivariate K → Condition K → K
discrepancy R d l Q c = local_expansion R d l Q c.abscissa c.ordinate c.exponent_y c.exponent_x

-- Q meets the condition
abbrev pub Meets : {K : Type 0} → CommRing K → ℕ → ℕ → Bivariate K → Condition K → Type 0
Meets R d l Q c = discrepancy R d l Q c ≡ R.zero

-- Q meets each condition of the list
abbrev pub MeetsAll : {K : Type 0} → CommRing K → ℕ → ℕ → Bivariate K → List (Condition K) → Type 0
MeetsAll {K} R d l Q cs = (c : Condition K) → Member c cs → Meets R d l Q c

-- the condition at the same point and the same power of y, and at the power r of x
abbrev pub at_power : {K : Type 0} → Condition K → ℕ → Condition K
at_power c r = condition c.abscissa c.ordinate c.exponent_y r

-- the condition at the next lower power of x, if there is one, is in the list
abbrev pub Prepared : {K : Type 0} → List (Condition K) → Condition K → Type 0
Prepared cs c = (r : ℕ) → c.exponent_x ≡ suc r → Member (at_power c r) cs

-- each condition of cs comes after the one at the next lower power of x, which stands in ds or before it in cs
abbrev pub Follows : {K : Type 0} → List (Condition K) → List (Condition K) → Type 0
Follows ds [] = Unit {0}
Follows ds (c ∷ cs) = Prepared ds c × Follows (ds ++ (c ∷ [])) cs

-- each condition of the list comes after the one at the next lower power of x
abbrev pub WellOrdered : {K : Type 0} → List (Condition K) → Type 0
WellOrdered cs = Follows [] cs

-- at the point (a, b) and the power u of y the powers of x below n, in rising order
abbrev pub column : {K : Type 0} → K → K → ℕ → ℕ → List (Condition K)
column a b u zero = []
column a b u (suc n) = column a b u n ++ (condition a b u n ∷ [])

-- at the point (a, b) the monomials x^r y^v with v + r below m and v below u, power of y by power of y
abbrev pub columns : {K : Type 0} → K → K → ℕ → ℕ → List (Condition K)
columns a b m zero = []
columns a b m (suc u) = columns a b m u ++ column a b u (m - u)

-- the conditions that say that Q vanishes at the places with their multiplicities
abbrev pub conditions_of : {K : Type 0} → List (Place K) → List (Condition K)
conditions_of [] = []
conditions_of (p ∷ ps) = columns p.abscissa p.ordinate p.multiplicity p.multiplicity ++ conditions_of ps

-- the conditions of the places, then at the point (a, b) of multiplicity m those of the powers of y below u, then at y^u the first n powers of x
abbrev pub stage : {K : Type 0} → List (Place K) → K → K → ℕ → ℕ → ℕ → List (Condition K)
stage ps a b m u n = conditions_of ps ++ columns a b m u ++ column a b u n

-- the sum of the numbers below n, which is n(n − 1)/2
abbrev pub triangle : ℕ → ℕ
triangle zero = 0
triangle (suc n) = triangle n + n

-- the sum of m(m + 1)/2 over the multiplicities m of the places
abbrev pub condition_count : {K : Type 0} → List (Place K) → ℕ
condition_count [] = 0
condition_count (p ∷ ps) = triangle (suc p.multiplicity) + condition_count ps

-- each place has the multiplicity k
abbrev pub Uniform : {K : Type 0} → ℕ → List (Place K) → Type 0
Uniform k [] = Unit {0}
Uniform k (p ∷ ps) = (p.multiplicity ≡ k) × Uniform k ps
