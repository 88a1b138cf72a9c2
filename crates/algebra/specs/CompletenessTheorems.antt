-- Completeness over every lawful finite field.
use Rattle.std.specs.Prelude.{◌≡◌, List, ℕ, suc, ◌≤◌}
use Rattle.algebra.specs.Operations.{Operations, Lawful}
use Rattle.algebra.specs.Elements.{Elem, element_ring, elements}
use Rattle.algebra.specs.Series.{Series}
use Rattle.algebra.specs.Degree.{Below}
use Rattle.algebra.specs.Evaluation.{eval}
use Rattle.algebra.specs.Order.{Order}
use Rattle.algebra.specs.Bivariate.{Bivariate, Weighted, Multiplicity, substitute}
use Rattle.algebra.specs.Places.{Place, DistinctPoints, Multiplicities, agreement}
use Rattle.algebra.specs.RootSearch.{Root}

-- where f goes through (a, b) and Q vanishes there with multiplicity m, Q(x, f) vanishes at a to order m
abbrev pub OrderOfSubstitution : Type 0
OrderOfSubstitution =
    (o : Operations) (law : Lawful o) (a b : Elem o) (m l s D : ℕ) (Q : Bivariate (Elem o)) (f : Series (Elem o))
    → Weighted (element_ring o law) s D Q
    → Below (element_ring o law) (suc s) f
    → eval (element_ring o law) (suc s) f a ≡ b
    → Multiplicity (element_ring o law) a b m D l Q
    → Order (element_ring o law) a m D (substitute (element_ring o law) l Q f)

-- where Q has weighted degree below D and f has degree at most s, Q(x, f) has degree below D
abbrev pub DegreeOfSubstitution : Type 0
DegreeOfSubstitution =
    (o : Operations) (law : Lawful o) (l s D : ℕ) (Q : Bivariate (Elem o)) (f : Series (Elem o))
    → Weighted (element_ring o law) s D Q
    → Below (element_ring o law) (suc s) f
    → Below (element_ring o law) D (substitute (element_ring o law) l Q f)

-- where Q has weighted degree below D and vanishes at distinct points with their multiplicities, each f of degree at most s that
-- goes through points whose multiplicities sum to D or more is a root of Q
abbrev pub Complete : Type 0
Complete =
    (o : Operations) (law : Lawful o) (ps : List (Place (Elem o))) (l s D : ℕ) (Q : Bivariate (Elem o)) (f : Series (Elem o))
    → DistinctPoints ps
    → Weighted (element_ring o law) s D Q
    → Multiplicities (element_ring o law) D l Q ps
    → Below (element_ring o law) (suc s) f
    → D ≤ agreement (elements o law) (suc s) f ps
    → Root (element_ring o law) l Q f
