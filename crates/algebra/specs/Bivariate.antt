-- Polynomials in x and y, as series in y whose coefficients are series in x: weighted degree, values, multiplicity at a point.
use Rattle.std.specs.Prelude.{◌≡◌, ℕ, ◌+◌, ◌*◌, ◌≤◌, ◌<◌}
use Rattle.algebra.specs.Ring.{CommRing}
use Rattle.algebra.specs.Series.{Series, constant, X, series}
use Rattle.algebra.specs.Sum.{power}
use Rattle.algebra.specs.Evaluation.{eval, taylor}

-- a polynomial in x and y: Q c i is the coefficient of x^i y^c
abbrev pub Bivariate : Type 0 → Type 0
Bivariate K = Series (Series K)

-- the degree where x weighs 1 and y weighs s is below D: x^i y^c stands in Q only where i + s·c is below D
abbrev pub Weighted : {K : Type 0} → CommRing K → ℕ → ℕ → Bivariate K → Type 0
Weighted R s D Q = (c i : ℕ) → D ≤ i + s * c → Q c i ≡ R.zero

-- g(x) · Q
abbrev pub scale : {K : Type 0} → CommRing K → Series K → Bivariate K → Bivariate K
scale R g Q c = (series R).mul g (Q c)

-- Q(x, f(x)), where Q has degree below l in y
abbrev pub substitute : {K : Type 0} → CommRing K → ℕ → Bivariate K → Series K → Series K
substitute R l Q f = eval (series R) l Q f

-- the coefficients of Q(a + x, b + y), where Q has degree below d in x and below l in y
abbrev pub local_expansion : {K : Type 0} → CommRing K → ℕ → ℕ → Bivariate K → K → K → Bivariate K
local_expansion R d l Q a b = taylor (series R) l (λ c. taylor R d (Q c) a) (constant R b)

-- Q vanishes at the point (a, b) with multiplicity m: in Q(a + x, b + y) the coefficient of x^r y^u is zero wherever u + r is below m
abbrev pub Multiplicity : {K : Type 0} → CommRing K → K → K → ℕ → ℕ → ℕ → Bivariate K → Type 0
Multiplicity R a b m d l Q = (u r : ℕ) → u + r < m → local_expansion R d l Q a b u r ≡ R.zero

-- the power y^i
abbrev pub y_power : {K : Type 0} → CommRing K → ℕ → Bivariate K
y_power R i = power (series (series R)) (X (series R)) i
