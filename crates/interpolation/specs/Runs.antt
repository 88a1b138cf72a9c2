-- The method along the conditions of places.
use Rattle.std.specs.Prelude.{◌≡◌, ℕ, suc, ◌+◌, ◌*◌, ◌^◌, ◌<◌, ◌≤◌, Bool, true, false, List, [], ◌∷◌, ◌++◌, map}
use Rattle.algebra.specs.Operations.{Operations, Lawful}
use Rattle.algebra.specs.Elements.{Elem, element_ring, into}
use Rattle.algebra.specs.Places as points
use Rattle.algebra.specs.Bivariate.{Bivariate}
use Rattle.algebra.specs.Conditions.{Condition, conditions_of, stage, triangle, condition_count}
use Rattle.algebra.specs.Koetter.{Invariant, Least, Interpolates}
use Rattle.field.specs.Meaning.{Meaning, operations}
use Rattle.bivariate.specs.Lifted.{polynomial_of, PolynomialOf}
use Rattle.interpolation.specs.States.{state_of, RowsOf}
use Rattle.interpolation.specs.declared.places.Place.{Place}

-- the place over the elements of the field
abbrev pub place_of : (o : Operations) → Lawful o → Place → points.Place (Elem o)
place_of o law p =
    record { abscissa = into o law p.abscissa; ordinate = into o law p.ordinate; multiplicity = p.multiplicity }

-- the places over the elements of the field
abbrev pub places_over : (o : Operations) → Lawful o → List Place → List (points.Place (Elem o))
places_over o law ps = map (place_of o law) ps

-- after the conditions cs the rows hold elements and satisfy the invariant, and their degrees are least
pub record Led (m : Meaning) (law : Lawful (operations m)) (l bound weight : ℕ) (cs : List (Condition (Elem (operations m)))) (rows : List (List (List ℕ))) (degrees : List ℕ) : Type 0 where
  pub elements : RowsOf (operations m) rows
  pub invariant : Invariant (element_ring (operations m) law) weight bound l cs (state_of (operations m) law rows degrees)
  pub least : Least (element_ring (operations m) law) weight bound l cs (state_of (operations m) law rows degrees)

-- the numbers that the method is made for: elements a and b, a multiplicity k and a number of rows l of at most 8, a bound of at most 256
pub record Suited (m : Meaning) (a b k l bound : ℕ) : Type 0 where
  pub abscissa : a < m.size
  pub ordinate : b < m.size
  pub multiplicity : k ≤ 8
  pub few : l ≤ 8
  pub short : bound ≤ 256

-- each place of the list is suited
abbrev pub AllSuited : Meaning → ℕ → ℕ → List Place → Type 0
AllSuited m l bound [] = Unit {0}
AllSuited m l bound (p ∷ ps) =
    Suited m p.abscissa p.ordinate p.multiplicity l bound × AllSuited m l bound ps

-- the change leads from the first power of x at y^u to the power n
abbrev pub ColumnMet : Meaning → ℕ → ℕ → ℕ → ℕ → ℕ → ℕ → ℕ → List (List (List ℕ)) → List ℕ → List (List (List ℕ)) → List ℕ → Type 0
ColumnMet m a b u n l bound weight rows degrees rows' degrees' =
    (law : Lawful (operations m)) (ps : List (points.Place (Elem (operations m)))) (k : ℕ)
    → Suited m a b k l bound
    → u + n ≤ k
    → Led m law l bound weight (stage ps (into (operations m) law a) (into (operations m) law b) k u 0) rows degrees
    → Led m law l bound weight (stage ps (into (operations m) law a) (into (operations m) law b) k u n) rows' degrees'

-- the change leads from the first powers at the point of the place to the power u of y
abbrev pub ColumnsMet : Meaning → Place → ℕ → ℕ → ℕ → ℕ → List (List (List ℕ)) → List ℕ → List (List (List ℕ)) → List ℕ → Type 0
ColumnsMet m p u l bound weight rows degrees rows' degrees' =
    (law : Lawful (operations m)) (ps : List (points.Place (Elem (operations m))))
    → Suited m p.abscissa p.ordinate p.multiplicity l bound
    → u ≤ p.multiplicity
    → Led m law l bound weight (conditions_of ps) rows degrees
    → Led m law l bound weight (stage ps (into (operations m) law p.abscissa) (into (operations m) law p.ordinate) p.multiplicity u 0) rows' degrees'

-- the change leads through the conditions of the place
abbrev pub PlaceMet : Meaning → Place → ℕ → ℕ → ℕ → List (List (List ℕ)) → List ℕ → List (List (List ℕ)) → List ℕ → Type 0
PlaceMet m p l bound weight rows degrees rows' degrees' =
    (law : Lawful (operations m)) (ps : List (points.Place (Elem (operations m))))
    → Suited m p.abscissa p.ordinate p.multiplicity l bound
    → Led m law l bound weight (conditions_of ps) rows degrees
    → Led m law l bound weight (conditions_of (ps ++ (place_of (operations m) law p ∷ []))) rows' degrees'

-- the rows are led through the conditions of the places, where these are suited and no degree of a power of y passes 64 bits
abbrev pub Interpolated : Meaning → List Place → ℕ → ℕ → ℕ → List (List (List ℕ)) → List ℕ → Type 0
Interpolated m places l bound weight rows degrees =
    (law : Lawful (operations m))
    → l ≤ 8
    → bound ≤ 256
    → weight * 8 < 2 ^ 64
    → AllSuited m l bound places
    → Led m law l bound weight (conditions_of (places_over (operations m) law places)) rows degrees

-- the polynomial over the elements of the field interpolates the places with weighted degree e below the bound, and none that interpolates them has a lower one
pub record LeastInterpolant (m : Meaning) (law : Lawful (operations m)) (places : List Place) (l bound weight : ℕ) (q : List (List ℕ)) (e : ℕ) : Type 0 where
  pub elements : PolynomialOf (operations m) q
  pub below : e < bound
  pub serves : Interpolates (element_ring (operations m) law) weight (suc e) l (places_over (operations m) law places) (polynomial_of (operations m) law q)
  pub least : (W : ℕ) (P : Bivariate (Elem (operations m)))
      → Interpolates (element_ring (operations m) law) weight W l (places_over (operations m) law places) P
      → e < W

-- the answer true comes with a polynomial of least weighted degree that interpolates; it comes wherever the conditions are few enough
pub record Interpolant (m : Meaning) (places : List Place) (l bound weight : ℕ) (q : List (List ℕ)) (answer : Bool) : Type 0 where
  pub found : answer ≡ true
      → (law : Lawful (operations m))
      → l ≤ 8
      → bound ≤ 256
      → weight * 8 < 2 ^ 64
      → AllSuited m l bound places
      → (e : ℕ) × LeastInterpolant m law places l bound weight q e
  pub exists : (law : Lawful (operations m))
      → l ≤ 8
      → bound ≤ 256
      → weight * 8 < 2 ^ 64
      → AllSuited m l bound places
      → condition_count (places_over (operations m) law places) + weight * triangle l < l * bound
      → answer ≡ true

-- the answer false comes only where no polynomial of weighted degree below the bound interpolates
abbrev pub NoneBelow : Meaning → List Place → ℕ → ℕ → ℕ → Bool → Type 0
NoneBelow m places l bound weight answer =
    answer ≡ false
    → (law : Lawful (operations m))
    → l ≤ 8
    → bound ≤ 256
    → weight * 8 < 2 ^ 64
    → AllSuited m l bound places
    → (P : Bivariate (Elem (operations m)))
    → Interpolates (element_ring (operations m) law) weight bound l (places_over (operations m) law places) P
    → ⊥
