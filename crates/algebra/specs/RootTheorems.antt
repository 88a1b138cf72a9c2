-- The roots of a polynomial in y and the search for them, over every lawful finite field.
use Rattle.std.specs.Prelude.{◌≡◌, ◌↔◌, length, ℕ, suc, ◌-◌, ◌<◌}
use Rattle.algebra.specs.Members.{Member}
use Rattle.algebra.specs.Operations.{Operations, Lawful}
use Rattle.algebra.specs.Elements.{Elem, element_ring, elements, into}
use Rattle.algebra.specs.Series.{Series, tail, constant, series}
use Rattle.algebra.specs.Degree.{Below}
use Rattle.algebra.specs.Evaluation.{from_list}
use Rattle.algebra.specs.Interpolation.{Separate}
use Rattle.algebra.specs.Bivariate.{Bivariate, Weighted}
use Rattle.algebra.specs.RootSearch.{Nonzero, Root, Vanish, at_zero, lower, strip, Candidate, next, at_constant}
use Rattle.algebra.specs.RootList.{to_list, ListsRoots, search}

-- a polynomial other than zero, of degree below l in y, has fewer than l distinct roots
abbrev pub FewRoots : Type 0
FewRoots =
    (o : Operations) (law : Lawful o) (l m : ℕ) (Q : Bivariate (Elem o)) (f : ℕ → Series (Elem o))
    → Nonzero (element_ring o law) Q
    → Below (series (element_ring o law)) l Q
    → Separate m f
    → ((i : ℕ) → i < m → Root (element_ring o law) l Q (f i))
    → m < l

-- where x divides Q, the quotient has the same roots, is not zero unless Q is, and has its degrees bounded by those of Q
abbrev pub DivisionByX : Type 0
DivisionByX =
    (o : Operations) (law : Lawful o) (l s D : ℕ) (Q : Bivariate (Elem o))
    → Below (series (element_ring o law)) l Q
    → Vanish (element_ring o law) l (at_zero Q)
    → ((f : Series (Elem o)) → Root (element_ring o law) l Q f ↔ Root (element_ring o law) l (lower Q) f)
    × (Nonzero (element_ring o law) Q → Nonzero (element_ring o law) (lower Q))
    × (Weighted (element_ring o law) s D Q → Weighted (element_ring o law) s (D - 1) (lower Q))
    × Below (series (element_ring o law)) l (lower Q)

-- fewer divisions by x than the bound of the degree in x lead to a constant term that is not zero
abbrev pub DivisionEnds : Type 0
DivisionEnds =
    (o : Operations) (law : Lawful o) (l n : ℕ) (Q : Bivariate (Elem o))
    → Below (series (element_ring o law)) l Q
    → Nonzero (element_ring o law) Q
    → ((c : ℕ) → Below (element_ring o law) (suc n) (Q c))
    → Vanish (element_ring o law) l (at_zero (strip (elements o law) l n Q))
    → ⊥

-- the constant term γ of a root f of Q is a zero of Q(0, y), and f is a root of Q exactly if (f − γ)/x is one of Q(x, γ + x·y);
-- that polynomial is not zero unless Q is, and keeps the bound D of the weighted degree where y weighs one less
abbrev pub RootStep : Type 0
RootStep =
    (o : Operations) (law : Lawful o) (l s D : ℕ) (Q : Bivariate (Elem o)) (f : Series (Elem o))
    → Below (series (element_ring o law)) l Q
    → (Root (element_ring o law) l Q f → Candidate (element_ring o law) l Q (f 0))
    × (Root (element_ring o law) l Q f ↔ Root (element_ring o law) l (next (element_ring o law) l Q (f 0)) (tail f))
    × (Nonzero (element_ring o law) Q → Nonzero (element_ring o law) (next (element_ring o law) l Q (f 0)))
    × (Weighted (element_ring o law) (suc s) D Q
    → Weighted (element_ring o law) s D (next (element_ring o law) l Q (f 0)))
    × Below (series (element_ring o law)) l (next (element_ring o law) l Q (f 0))

-- the constant γ is a root of Q exactly if all coefficients of Q(x, γ) are zero
abbrev pub ConstantRoot : Type 0
ConstantRoot =
    (o : Operations) (law : Lawful o) (l : ℕ) (Q : Bivariate (Elem o)) (γ : Elem o)
    → Root (element_ring o law) l Q (constant (element_ring o law) γ)
    ↔ ((i : ℕ) → at_constant (element_ring o law) l Q γ i ≡ (element_ring o law).zero)

-- the search over all elements lists the roots of degree at most s, each once and nothing else, and fewer than l
abbrev pub SearchFindsRoots : Type 0
SearchFindsRoots =
    (o : Operations) (law : Lawful o) (l D s : ℕ) (Q : Bivariate (Elem o))
    → Weighted (element_ring o law) s D Q
    → ListsRoots (element_ring o law) l (suc s) Q (search (elements o law) (into o law) o.size l D s Q)
    × ((f : Series (Elem o))
    → Below (element_ring o law) (suc s) f
    → Root (element_ring o law) l Q f
    → Member (to_list (suc s) f) (search (elements o law) (into o law) o.size l D s Q)
    × (from_list (element_ring o law) (to_list (suc s) f) ≡ f))
    × (Nonzero (element_ring o law) Q
    → Below (series (element_ring o law)) l Q
    → length (search (elements o law) (into o law) o.size l D s Q) < l)
