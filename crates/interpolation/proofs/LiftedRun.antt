-- The method along its three loops: over the places, over the powers of y and over the powers of x.
use Rattle.std.proofs.Common.{◌≡◌, ℕ, zero, suc, ◌+◌, ◌-◌, ◌*◌, ◌^◌, ◌<◌, ◌≤◌, min, ◌⊎◌, List, [], ◌∷◌, ◌++◌, length, get_or, take, sym, ap, ◌∙◌, subst, subst₂, inl, inr, mul-add, arith}
use Rattle.algebra.specs.Operations.{Operations, Lawful}
use Rattle.algebra.specs.Elements.{Elem, element_ring, elements, into}
use Rattle.algebra.specs.Conditions.{Condition, condition, conditions_of, stage}
use Rattle.algebra.specs.Koetter.{Start, Step}
use Rattle.algebra.proofs.KoetterStages.{stage_first, stage_turn, stage_last, stage_keeps, stage_keeps_least}
use Rattle.algebra.proofs.KoetterStart.{start_invariant, start_least}
use Rattle.field.specs.Meaning.{Meaning, operations}
use Rattle.bivariate.specs.Combinations.{y_power_of}
use Rattle.bivariate.proofs.LiftedCombinations.{y_power_lift, y_power_elements}
use Rattle.bivariate.proofs.FieldNumbers.{zero_element}
use Rattle.field.proofs.Making.{made_at, made_past}
use Rattle.bivariate.specs.Lifted.{polynomial_of, PolynomialOf}
use Rattle.std.proofs.lemmas.Bool.{cases_lt}
use Rattle.std.proofs.lemmas.List.{map_more, take_all}
use Rattle.interpolation.specs.Rows.{start_rows, start_degrees}
use Rattle.interpolation.specs.States.{state_of, RowsOf, Served, Stepped}
use Rattle.interpolation.specs.Runs.{place_of, places_over, Led, Suited, AllSuited, ColumnMet, ColumnsMet, PlaceMet, Interpolated}
use Rattle.interpolation.specs.declared.places.Place.{Place}

-- conditions by another name
led_as : (m : Meaning) (law : Lawful (operations m)) (l bound weight : ℕ) (cs ds : List (Condition (Elem (operations m)))) (rows : List (List (List ℕ))) (degrees : List ℕ)
    → cs ≡ ds
    → Led m law l bound weight cs rows degrees
    → Led m law l bound weight ds rows degrees
led_as m law l bound weight cs ds rows degrees e h = subst (λ x. Led m law l bound weight x rows degrees) e h

-- the column at u is met up to the power r of x
unfoldable pub InColumn : Meaning → ℕ → ℕ → ℕ → ℕ → ℕ → ℕ → ℕ → List (List (List ℕ)) → List ℕ → List (List (List ℕ)) → List ℕ → Type 0
InColumn m a b u r l bound weight rows degrees rows' degrees' = ColumnMet m a b u r l bound weight rows degrees rows' degrees'

pub column_none : (m : Meaning) (a b u l bound weight : ℕ) (rows : List (List (List ℕ))) (degrees : List ℕ)
    → InColumn m a b u 0 l bound weight rows degrees rows degrees
unfolding InColumn
column_none m a b u l bound weight rows degrees law ps k suited fits led = led

-- one power of x more
pub column_more : (m : Meaning) (a b u r l bound weight : ℕ) (rows rows' rows'' : List (List (List ℕ))) (degrees degrees' degrees'' : List ℕ)
    → InColumn m a b u r l bound weight rows degrees rows' degrees'
    → Stepped m a b u r l bound weight rows' degrees' rows'' degrees''
    → InColumn m a b u (r + 1) l bound weight rows degrees rows'' degrees''
unfolding InColumn
column_more m a b u r l bound weight rows rows' rows'' degrees degrees' degrees'' met stepped law ps k suited fits led =
    let h : Led m law l bound weight (stage ps α β k u r) rows' degrees' = met law ps k suited (omega arith) led in
    let step : Step (elements o law) bound l (condition α β u r) (state_of o law rows' degrees') (state_of o law rows'' degrees'')
    = stepped.step law (stage ps α β k u r) served h.elements h.invariant in
    let up : suc r ≡ r + 1 = omega arith in
    led_as
    m
    law
    l
    bound
    weight
    (stage ps α β k u (suc r))
    (stage ps α β k u (r + 1))
    rows''
    degrees''
    (ap (λ n. stage ps α β k u n) up)
    (record {
      elements = stepped.elements law (stage ps α β k u r) served h.elements h.invariant;
      invariant = stage_keeps (elements o law) weight bound l ps α β k u r (state_of o law rows' degrees') (state_of o law rows'' degrees'') step h.invariant;
      least = stage_keeps_least (elements o law) weight bound l ps α β k u r (state_of o law rows' degrees') (state_of o law rows'' degrees'') step h.invariant h.least;
    })
  where
    o : Operations
    o = operations m

    α : Elem o
    α = into o law a

    β : Elem o
    β = into o law b

    served : Served m a b u r l bound
    served =
        let eight : k ≤ 8 = suited.multiplicity in
        record {
          abscissa = suited.abscissa;
          ordinate = suited.ordinate;
          exponent_y = omega arith;
          exponent_x = omega arith;
          few = suited.few;
          short = suited.short;
        }

pub column_all : (m : Meaning) (a b u r count l bound weight : ℕ) (rows rows' : List (List (List ℕ))) (degrees degrees' : List ℕ)
    → InColumn m a b u r l bound weight rows degrees rows' degrees'
    → count ≤ r
    → r ≤ count
    → ColumnMet m a b u count l bound weight rows degrees rows' degrees'
unfolding InColumn
column_all m a b u r count l bound weight rows rows' degrees degrees' met h k =
    let e : r ≡ count = omega arith in
    subst (λ n. ColumnMet m a b u n l bound weight rows degrees rows' degrees') e met

-- the place is met up to the power u of y
unfoldable pub InPlace : Meaning → Place → ℕ → ℕ → ℕ → ℕ → List (List (List ℕ)) → List ℕ → List (List (List ℕ)) → List ℕ → Type 0
InPlace m p u l bound weight rows degrees rows' degrees' = ColumnsMet m p u l bound weight rows degrees rows' degrees'

pub columns_none : (m : Meaning) (p : Place) (l bound weight : ℕ) (rows : List (List (List ℕ))) (degrees : List ℕ)
    → InPlace m p 0 l bound weight rows degrees rows degrees
unfolding InPlace
columns_none m p l bound weight rows degrees law ps suited fits led =
    led_as m law l bound weight _ _ rows degrees (sym (stage_first ps (into (operations m) law p.abscissa) (into (operations m) law p.ordinate) p.multiplicity)) led

-- one power of y more
pub columns_more : (m : Meaning) (p : Place) (u count l bound weight : ℕ) (rows rows' rows'' : List (List (List ℕ))) (degrees degrees' degrees'' : List ℕ)
    → u < p.multiplicity
    → InPlace m p u l bound weight rows degrees rows' degrees'
    → count ≡ p.multiplicity - u
    → ColumnMet m p.abscissa p.ordinate u count l bound weight rows' degrees' rows'' degrees''
    → InPlace m p (u + 1) l bound weight rows degrees rows'' degrees''
unfolding InPlace
columns_more m p u count l bound weight rows rows' rows'' degrees degrees' degrees'' under met is column law ps suited fits led =
    let α = into (operations m) law p.abscissa in
    let β = into (operations m) law p.ordinate in
    let k : ℕ = p.multiplicity in
    let up : suc u ≡ u + 1 = omega arith in
    led_as
    m
    law
    l
    bound
    weight
    (stage ps α β k u count)
    (stage ps α β k (u + 1) 0)
    rows''
    degrees''
    (ap (stage ps α β k u) is ∙ stage_turn ps α β k u ∙ ap (λ n. stage ps α β k n 0) up)
    (column law ps k suited (omega arith) (met law ps suited (omega arith) led))

pub columns_all : (m : Meaning) (p : Place) (u l bound weight : ℕ) (rows rows' : List (List (List ℕ))) (degrees degrees' : List ℕ)
    → InPlace m p u l bound weight rows degrees rows' degrees'
    → p.multiplicity ≤ u
    → u ≤ p.multiplicity
    → PlaceMet m p l bound weight rows degrees rows' degrees'
unfolding InPlace
columns_all m p u l bound weight rows rows' degrees degrees' met h k law ps suited led =
    let e : u ≡ p.multiplicity = omega arith in
    let α = into (operations m) law p.abscissa in
    let β = into (operations m) law p.ordinate in
    led_as
    m
    law
    l
    bound
    weight
    (stage ps α β p.multiplicity u 0)
    (conditions_of (ps ++ (place_of (operations m) law p ∷ [])))
    rows'
    degrees'
    (ap (λ n. stage ps α β p.multiplicity n 0) e ∙ stage_last ps (place_of (operations m) law p))
    (met law ps suited (omega arith) led)

-- the start: the powers of y with their degrees
module _ (m : Meaning) (law : Lawful (operations m)) (l bound weight : ℕ) (few : l ≤ 8) (light : weight * 8 < 2 ^ 64) where
  start_row : (j : ℕ) → j < 8 → get_or start_rows j [] ≡ y_power_of j
  unfolding start_rows
  start_row j h = made_at y_power_of 8 j [] h

  start_past : (j : ℕ) → 8 ≤ j → get_or start_rows j [] ≡ []
  unfolding start_rows
  start_past j h = made_past y_power_of 8 j [] h

  start_degree : (j : ℕ) → j < 8 → get_or (start_degrees weight) j 0 ≡ weight * j
  unfolding start_degrees
  start_degree j h = made_at (λ k. min (weight * k) (2 ^ 64 - 1)) 8 j 0 h ∙ fits
    where
      fits : min (weight * j) (2 ^ 64 - 1) ≡ weight * j
      fits =
          let s : j + (8 - j) ≡ 8 = omega arith in
          let e : weight * (j + (8 - j)) ≡ weight * j + weight * (8 - j) = mul-add weight j (8 - j) in
          let f : weight * (j + (8 - j)) ≡ weight * 8 = ap (λ n. weight * n) s in
          let x : ℕ = weight * j in
          let y : ℕ = weight * (8 - j) in
          omega arith

  start_state : Start (element_ring (operations m) law) weight bound l (state_of (operations m) law start_rows (start_degrees weight))
  start_state =
      record {
        row = λ j k. let h : j < l = k.0 in ap (polynomial_of (operations m) law) (start_row j (omega arith)) ∙ y_power_lift m law j (omega arith);
        degree = λ j h. start_degree j (omega arith);
      }

  start_elements : RowsOf (operations m) start_rows
  start_elements j = go (cases_lt j 8)
    where
      go : (j < 8) ⊎ (8 ≤ j) → PolynomialOf (operations m) (get_or start_rows j [])
      go (inl h) = subst (PolynomialOf (operations m)) (sym (start_row j h)) (y_power_elements m law j)
      go (inr h) = subst (PolynomialOf (operations m)) (sym (start_past j h)) (λ c i. zero_element m law)

  start_led : Led m law l bound weight [] start_rows (start_degrees weight)
  start_led =
      record {
        elements = start_elements;
        invariant = start_invariant (elements (operations m) law) weight bound l (state_of (operations m) law start_rows (start_degrees weight)) start_state;
        least = start_least (elements (operations m) law) weight bound l (state_of (operations m) law start_rows (start_degrees weight)) start_state;
      }

-- the rows are led through the conditions of the first i places
unfoldable pub Reached : Meaning → List Place → ℕ → ℕ → ℕ → ℕ → List (List (List ℕ)) → List ℕ → Type 0
Reached m places i l bound weight rows degrees =
    (law : Lawful (operations m))
    → l ≤ 8
    → bound ≤ 256
    → weight * 8 < 2 ^ 64
    → AllSuited m l bound places
    → Led m law l bound weight (conditions_of (places_over (operations m) law (take i places))) rows degrees

pub reached_none : (m : Meaning) (places : List Place) (l bound weight : ℕ) (rows : List (List (List ℕ))) (degrees : List ℕ)
    → rows ≡ start_rows
    → degrees ≡ start_degrees weight
    → Reached m places 0 l bound weight rows degrees
unfolding Reached
reached_none m places l bound weight rows degrees er ed law few short light suited =
    subst₂ (λ x y. Led m law l bound weight [] x y) (sym er) (sym ed) (start_led m law l bound weight few light)

-- the place at i is suited
suited_at : (m : Meaning) (l bound : ℕ) (ps : List Place) (i : ℕ) (d : Place)
    → i < length ps
    → AllSuited m l bound ps
    → Suited m (get_or ps i d).abscissa (get_or ps i d).ordinate (get_or ps i d).multiplicity l bound
suited_at m l bound [] i d h s = absurd (omega arith)
suited_at m l bound (p ∷ ps) zero d h s = s.0
suited_at m l bound (p ∷ ps) (suc i) d h s = suited_at m l bound ps i d (omega arith) s.1

-- one place more
pub reached_more : (m : Meaning) (places : List Place) (i l bound weight : ℕ) (d : Place) (rows rows' : List (List (List ℕ))) (degrees degrees' : List ℕ)
    → i < length places
    → Reached m places i l bound weight rows degrees
    → PlaceMet m (get_or places i d) l bound weight rows degrees rows' degrees'
    → Reached m places (i + 1) l bound weight rows' degrees'
unfolding Reached
reached_more m places i l bound weight d rows rows' degrees degrees' h reached met law few short light suited =
    led_as
    m
    law
    l
    bound
    weight
    (conditions_of (places_over (operations m) law (take i places) ++ (place_of (operations m) law (get_or places i d) ∷ [])))
    (conditions_of (places_over (operations m) law (take (i + 1) places)))
    rows'
    degrees'
    (sym
    (ap conditions_of (map_more (place_of (operations m) law) places i d h)))
    (met law (places_over (operations m) law (take i places)) (suited_at m l bound places i d h suited) (reached law few short light suited))

pub reached_all : (m : Meaning) (places : List Place) (i l bound weight : ℕ) (rows : List (List (List ℕ))) (degrees : List ℕ)
    → length places ≤ i
    → Reached m places i l bound weight rows degrees
    → Interpolated m places l bound weight rows degrees
unfolding Reached
reached_all m places i l bound weight rows degrees h reached law few short light suited =
    led_as
    m
    law
    l
    bound
    weight
    (conditions_of (places_over (operations m) law (take i places)))
    (conditions_of (places_over (operations m) law places))
    rows
    degrees
    (ap (λ ps. conditions_of (places_over (operations m) law ps)) (take_all i places h))
    (reached law few short light suited)
