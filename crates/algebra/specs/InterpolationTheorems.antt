-- The theorems on interpolation by Koetter's method, over the operations of any finite field.
use Rattle.std.specs.Prelude.{◌≡◌, List, [], ◌∷◌, ◌++◌, ◌↔◌, length, ℕ, suc, ◌+◌, ◌*◌, ◌-◌, ◌/◌, ◌≤◌, ◌<◌}
use Rattle.algebra.specs.Operations.{Operations, Lawful}
use Rattle.algebra.specs.Elements.{Elem, element_ring, elements}
use Rattle.algebra.specs.Bivariate.{Bivariate}
use Rattle.algebra.specs.Places.{Place, Multiplicities}
use Rattle.algebra.specs.Conditions.{Condition, MeetsAll, WellOrdered, conditions_of, stage, triangle, condition_count, Uniform}
use Rattle.algebra.specs.Koetter.{State, Live, Start, Step, Steps, Invariant, Least, Interpolates}

-- the conditions of places are well ordered, at every stage from place to place, power of y to power of y and power of x to power of x
abbrev pub ConditionsOrdered : Type 0
ConditionsOrdered =
    (o : Operations) (ps : List (Place (Elem o)))
    → WellOrdered (conditions_of ps)
    × ((a b : Elem o) (m u n : ℕ) → WellOrdered (stage ps a b m u n))

-- places of multiplicities m have m(m + 1)/2 conditions each, and to meet them is to vanish at the places with their multiplicities
abbrev pub ConditionsOfPlaces : Type 0
ConditionsOfPlaces =
    (o : Operations) (law : Lawful o) (ps : List (Place (Elem o)))
    → (length (conditions_of ps) ≡ condition_count ps)
    × ((k : ℕ) → Uniform k ps → condition_count ps ≡ length ps * (k * (k + 1) / 2))
    × ((d l : ℕ) (Q : Bivariate (Elem o))
    → MeetsAll (element_ring o law) d l Q (conditions_of ps)
    ↔ Multiplicities (element_ring o law) d l Q ps)

-- the start satisfies the invariant for no conditions, and the degrees are least
abbrev pub StartSatisfies : Type 0
StartSatisfies =
    (o : Operations) (law : Lawful o) (s D l : ℕ) (st : State (Elem o))
    → Start (element_ring o law) s D l st
    → Invariant (element_ring o law) s D l [] st × Least (element_ring o law) s D l [] st

-- a step carries the invariant to one condition more, where the conditions are well ordered
abbrev pub StepKeeps : Type 0
StepKeeps =
    (o : Operations) (law : Lawful o) (s D l : ℕ) (cs : List (Condition (Elem o))) (c : Condition (Elem o)) (st st' : State (Elem o))
    → WellOrdered (cs ++ (c ∷ []))
    → Step (elements o law) D l c st st'
    → Invariant (element_ring o law) s D l cs st
    → Invariant (element_ring o law) s D l (cs ++ (c ∷ [])) st'

-- and it keeps the degrees least
abbrev pub StepKeepsLeast : Type 0
StepKeepsLeast =
    (o : Operations) (law : Lawful o) (s D l : ℕ) (cs : List (Condition (Elem o))) (c : Condition (Elem o)) (st st' : State (Elem o))
    → WellOrdered (cs ++ (c ∷ []))
    → Step (elements o law) D l c st st'
    → Invariant (element_ring o law) s D l cs st
    → Least (element_ring o law) s D l cs st
    → Least (element_ring o law) s D l (cs ++ (c ∷ [])) st'

-- after the conditions of places that are few enough some row is live, and each live row is a polynomial that interpolates
abbrev pub RowExists : Type 0
RowExists =
    (o : Operations) (law : Lawful o) (s D l : ℕ) (ps : List (Place (Elem o))) (st : State (Elem o))
    → Invariant (element_ring o law) s D l (conditions_of ps) st
    → (condition_count ps + s * triangle l < l * D → (j : ℕ) × Live D l st j)
    × ((j : ℕ) → Live D l st j → Interpolates (element_ring o law) s D l ps (st.rows j))

-- a run of steps over the conditions of n places of multiplicity k ends with a row that interpolates, if n·k(k + 1)/2 + s·l(l − 1)/2 is below l·D
abbrev pub RunInterpolates : Type 0
RunInterpolates =
    (o : Operations) (law : Lawful o) (k s D l : ℕ) (ps : List (Place (Elem o))) (st st' : State (Elem o))
    → Uniform k ps
    → length ps * (k * (k + 1) / 2) + s * (l * (l - 1) / 2) < l * D
    → Start (element_ring o law) s D l st
    → Steps (elements o law) D l (conditions_of ps) st st'
    → (j : ℕ) × Live D l st' j × Interpolates (element_ring o law) s D l ps (st'.rows j)

-- the live row of least degree interpolates with its degree as weighted degree, and no polynomial that interpolates has a lower one
abbrev pub LeastDegree : Type 0
LeastDegree =
    (o : Operations) (law : Lawful o) (s D l : ℕ) (ps : List (Place (Elem o))) (st : State (Elem o))
    → Invariant (element_ring o law) s D l (conditions_of ps) st
    → Least (element_ring o law) s D l (conditions_of ps) st
    → (j : ℕ)
    → Live D l st j
    → ((i : ℕ) → i < l → st.degrees j ≤ st.degrees i)
    → Interpolates (element_ring o law) s (suc (st.degrees j)) l ps (st.rows j)
    × ((W : ℕ) (P : Bivariate (Elem o)) → Interpolates (element_ring o law) s W l ps P → st.degrees j < W)

-- where the conditions of places are few enough, there is a polynomial of least weighted degree that interpolates
abbrev pub InterpolationExists : Type 0
InterpolationExists =
    (o : Operations) (law : Lawful o) (s D l : ℕ) (ps : List (Place (Elem o)))
    → condition_count ps + s * triangle l < l * D
    → (e : ℕ)
    × (Q : Bivariate (Elem o))
    × (e < D)
    × Interpolates (element_ring o law) s (suc e) l ps Q
    × ((W : ℕ) (P : Bivariate (Elem o)) → Interpolates (element_ring o law) s W l ps P → e < W)
