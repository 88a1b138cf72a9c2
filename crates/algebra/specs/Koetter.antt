-- Interpolation of polynomials in x and y by Koetter's method: rows that meet one condition after the other.
use Rattle.std.specs.Prelude.{◌≡◌, List, [], ◌∷◌, ◌⊎◌, length, ℕ, zero, suc, ◌+◌, ◌*◌, ◌-◌, ◌≤◌, ◌<◌}
use Rattle.algebra.specs.Ring.{CommRing, Field, sub}
use Rattle.algebra.specs.Series.{constant, x_minus, series}
use Rattle.algebra.specs.Degree.{Below}
use Rattle.algebra.specs.Bivariate.{Bivariate, Weighted, scale, y_power}
use Rattle.algebra.specs.Places.{Place, Multiplicities}
use Rattle.algebra.specs.Conditions.{Condition, discrepancy, MeetsAll, triangle}

-- the rows of the method and the weighted degree of each
pub record State (K : Type 0) : Type 0 where
  pub rows : ℕ → Bivariate K
  pub degrees : ℕ → ℕ

-- row j, one of l, is live: its degree is below the bound D. Nothing is known of other rows
abbrev pub Live : {K : Type 0} → ℕ → ℕ → State K → ℕ → Type 0
Live D l st j = (j < l) × (st.degrees j < D)

-- (e, j) is at most (e', j') in lexicographic order
abbrev pub AtMost : ℕ → ℕ → ℕ → ℕ → Type 0
AtMost e j e' j' = (e ≤ e') × (e ≡ e' → j ≤ j')

-- each monomial x^i y^c of Q has (i + s·c, c) before (e, j)
abbrev pub Before : {K : Type 0} → CommRing K → ℕ → ℕ → ℕ → Bivariate K → Type 0
Before R s e j Q = (c i : ℕ) → AtMost e j (i + s * c) c → Q c i ≡ R.zero

-- the leading monomial of Q has weighted degree e and stands at y^j: its coefficient is not zero, and x^i y^c with (i + s·c, c) after (e, j) does not stand in Q
pub record Head {K : Type 0} (R : CommRing K) (s e j : ℕ) (Q : Bivariate K) : Type 0 where
  pub fits : s * j ≤ e
  pub leads : Q j (e - s * j) ≡ R.zero → ⊥
  pub rest : Before R s e (suc j) Q

-- at the start live row j is y^j, and the degree of each row is that of y^j
pub record Start {K : Type 0} (R : CommRing K) (s D l : ℕ) (st : State K) : Type 0 where
  pub row : (j : ℕ) → Live D l st j → st.rows j ≡ y_power R j
  pub degree : (j : ℕ) → j < l → st.degrees j ≡ s * j

-- P − k·Q
abbrev pub less : {K : Type 0} → CommRing K → Bivariate K → K → Bivariate K → Bivariate K
less R P k Q = sub (series (series R)) P (scale R (constant R k) Q)

-- a condition that every live row meets changes nothing
pub record Kept {K : Type 0} (R : CommRing K) (D l : ℕ) (c : Condition K) (st st' : State K) : Type 0 where
  pub met : (j : ℕ) → Live D l st j → discrepancy R D l (st.rows j) c ≡ R.zero
  pub row : (j : ℕ) → Live D l st j → st'.rows j ≡ st.rows j
  pub degree : (j : ℕ) → j < l → st'.degrees j ≡ st.degrees j

-- among the live rows that do not meet the condition the pivot p has the least degree, and the least number among those; the other rows are cleared by it, it is multiplied by x − a, and its degree grows by one
pub record Pivoted {K : Type 0} (F : Field K) (D l : ℕ) (c : Condition K) (st st' : State K) (p : ℕ) : Type 0 where
  pub live : Live D l st p
  pub fails : discrepancy F.ring D l (st.rows p) c ≡ F.ring.zero → ⊥
  pub least : (j : ℕ)
      → Live D l st j
      → (discrepancy F.ring D l (st.rows j) c ≡ F.ring.zero → ⊥)
      → AtMost (st.degrees p) p (st.degrees j) j
  pub row : (j : ℕ)
      → Live D l st j
      → (j ≡ p → ⊥)
      → st'.rows j
      ≡ less
      F.ring
      (st.rows j)
      (F.ring.mul (discrepancy F.ring D l (st.rows j) c) (F.inv (discrepancy F.ring D l (st.rows p) c)))
      (st.rows p)
  pub degree : (j : ℕ) → j < l → (j ≡ p → ⊥) → st'.degrees j ≡ st.degrees j
  pub pivot_row : suc (st.degrees p) < D → st'.rows p ≡ scale F.ring (x_minus F.ring c.abscissa) (st.rows p)
  pub pivot_degree : st'.degrees p ≡ suc (st.degrees p)

-- one step of the method, for one condition
abbrev pub Step : {K : Type 0} → Field K → ℕ → ℕ → Condition K → State K → State K → Type 0
Step F D l c st st' = Kept F.ring D l c st st' ⊎ ((p : ℕ) × Pivoted F D l c st st' p)

-- steps for the conditions of a list, in turn
abbrev pub Steps : {K : Type 0} → Field K → ℕ → ℕ → List (Condition K) → State K → State K → Type 0
Steps {K} F D l [] st st' = st ≡ st'
Steps {K} F D l (c ∷ cs) st st' = (via : State K) × Step F D l c st via × Steps F D l cs via st'

-- the sum of d j over j < n
abbrev pub degree_sum : ℕ → (ℕ → ℕ) → ℕ
degree_sum zero d = 0
degree_sum (suc n) d = degree_sum n d + d n

-- after the conditions of the list: live rows have degree below l in y, meet the conditions and have their heads at their degrees, and the degrees sum to no more than at the start and one for each condition
pub record Invariant {K : Type 0} (R : CommRing K) (s D l : ℕ) (cs : List (Condition K)) (st : State K) : Type 0 where
  pub narrow : (j : ℕ) → Live D l st j → Below (series R) l (st.rows j)
  pub meets : (j : ℕ) → Live D l st j → MeetsAll R D l (st.rows j) cs
  pub head : (j : ℕ) → Live D l st j → Head R s (st.degrees j) j (st.rows j)
  pub total : degree_sum l st.degrees ≤ s * triangle l + length cs

-- the degree of row j is least among the polynomials that meet the conditions, of weighted degree below D and degree below l in y, whose head stands at y^j
pub record Least {K : Type 0} (R : CommRing K) (s D l : ℕ) (cs : List (Condition K)) (st : State K) : Type 0 where
  pub bound : (P : Bivariate K) (e j : ℕ)
      → e < D
      → Below (series R) l P
      → Head R s e j P
      → MeetsAll R D l P cs
      → st.degrees j ≤ e

-- Q is not zero, has degree below l in y and weighted degree below D, and vanishes at the places with their multiplicities
pub record Interpolates {K : Type 0} (R : CommRing K) (s D l : ℕ) (ps : List (Place K)) (Q : Bivariate K) : Type 0 where
  pub nonzero : Q ≡ (series (series R)).zero → ⊥
  pub narrow : Below (series R) l Q
  pub weighted : Weighted R s D Q
  pub vanishes : Multiplicities R D l Q ps
