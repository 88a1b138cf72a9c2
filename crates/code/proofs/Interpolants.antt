-- The polynomial that interpolates the word heard: it exists, its sizes fit the arrays, and it is in the lattice.
use Rattle.std.proofs.Common.{◌≡◌, ℕ, suc, ◌+◌, ◌-◌, ◌*◌, ◌/◌, ◌^◌, ◌<◌, ◌≤◌, Bool, true, List, [], ◌∷◌, get_or, sym, ◌∙◌, subst, ⊎_elim, arith}
use Rattle.std.proofs.lemmas.Bool.{cases_order}
use Rattle.algebra.specs.Operations.{Operations, Lawful}
use Rattle.algebra.specs.Ring.{CommRing, Field}
use Rattle.algebra.specs.Elements.{Elem, element_ring, elements}
use Rattle.algebra.specs.Degree.{Below}
use Rattle.algebra.specs.Bivariate.{Bivariate}
use Rattle.algebra.specs.Interpolation.{Separate, newton}
use Rattle.algebra.specs.Lattice.{VanishesAt}
use Rattle.algebra.specs.Koetter as koetter
use Rattle.algebra.specs.Places as points-at
use Rattle.algebra.proofs.Elements.{into_injective}
use Rattle.algebra.proofs.Bivariate.{weighted_weaken, below_weighted}
use Rattle.algebra.proofs.Interpolation.{below_newton, eval_newton, newton_through}
use Rattle.algebra.proofs.ConditionCount.{uniform_inequality}
use Rattle.algebra.proofs.LatticeTheorem.{lattice_by_multiplicity}
use Rattle.algebra.proofs.MultiplicityBounds.{multiplicity_bound}
use Rattle.field.specs.Meaning.{Meaning, operations}
use Rattle.plan.specs.declared.Plan.{Plan}
use Rattle.plan.proofs.Facts as facts
use Rattle.field.specs.Made.{made}
use Rattle.bivariate.specs.Lifted.{polynomial_of, Sized}
use Rattle.bivariate.proofs.LiftedSizes.{weighted_within, below_narrow}
use Rattle.interpolation.specs.Runs.{Interpolant}
use Rattle.code.specs.Decoding.{places_of}
use Rattle.code.specs.Listing.{weight_of, width_of, points, ordinates, Through, Interpolates}
use Rattle.code.proofs.PlacesHeard as places

module _ (p : Plan) (m : Meaning) (law : Lawful (operations m)) (same : p.size ≡ m.size) (heard : List ℕ) where
  abbrev o : Operations
  o = operations m

  abbrev F : Field (Elem o)
  F = elements o law

  abbrev R : CommRing (Elem o)
  R = element_ring o law

  -- the places of the word heard, over the elements
  abbrev pub heard_places : List (points-at.Place (Elem o))
  heard_places = places.lifted p m law same heard 0 p.n

  -- Q, of weighted degree below D, interpolates the word heard
  abbrev pub Serves : Bivariate (Elem o) → Type 0
  Serves Q = koetter.Interpolates R (weight_of p) (width_of p) p.l heard_places Q

  -- a larger bound of the degree in x gives the same multiplicities
  more_multiplicities : (ps : List (points-at.Place (Elem o))) (d e : ℕ) (Q : Bivariate (Elem o))
      → ((c : ℕ) → Below R d (Q c))
      → ((c : ℕ) → Below R e (Q c))
      → points-at.Multiplicities R d p.l Q ps
      → points-at.Multiplicities R e p.l Q ps
  more_multiplicities [] d e Q b c v = tt
  more_multiplicities (x ∷ ps) d e Q b c v = (
    multiplicity_bound R x.abscissa x.ordinate x.multiplicity d e p.l Q b c v.0,
    more_multiplicities ps d e Q b c v.1,
  )

  -- what interpolates below a lower bound does so below D
  more : (W : ℕ) (ps : List (points-at.Place (Elem o))) (Q : Bivariate (Elem o))
      → W ≤ width_of p
      → koetter.Interpolates R (weight_of p) W p.l ps Q
      → koetter.Interpolates R (weight_of p) (width_of p) p.l ps Q
  more W ps Q h i =
      let w = weighted_weaken R (weight_of p) W (width_of p) Q h i.weighted in
      record {
        nonzero = i.nonzero;
        narrow = i.narrow;
        weighted = w;
        vanishes =
            more_multiplicities
            ps
            W
            (width_of p)
            Q
            (below_weighted R (weight_of p) W Q i.weighted)
            (below_weighted R (weight_of p) (width_of p) Q w)
            i.vanishes;
      }

  weight_small : weight_of p * 8 < 2 ^ 64
  weight_small = let h : p.n ≤ 64 = p.n_high in omega arith

  -- the interpolation of the word heard finds a polynomial
  pub serves : (q : List (List ℕ)) (answer : Bool)
      → Interpolant m (places_of p m heard) p.l (width_of p) (weight_of p) q answer
      → Serves (polynomial_of o law q) × ((c i : ℕ) → get_or (get_or q c []) i 0 < m.size)
  unfolding places_of made
  serves q answer i =
      let suited = places.suited p m law same heard 0 p.n (omega arith) in
      let found : answer ≡ true
      = i.exists
      law
      p.l_high
      (facts.bound_high p)
      weight_small
      suited
      (uniform_inequality
      p.k
      (weight_of p)
      (width_of p)
      p.l
      heard_places
      (places.uniform p m law same heard 0 p.n)
      (subst
      (λ (n : ℕ). n * (p.k * (p.k + 1) / 2) + weight_of p * (p.l * (p.l - 1) / 2) < p.l * width_of p)
      (sym (places.lifted_length p m law same heard 0 p.n)) p.solvable)) in
      let r = i.found found law p.l_high (facts.bound_high p) weight_small suited in
      (more (suc r.0) heard_places (polynomial_of o law q) r.1.below r.1.serves, r.1.elements)

  module _ (q : List (List ℕ)) (s : Serves (polynomial_of o law q)) (es : (c i : ℕ) → get_or (get_or q c []) i 0 < m.size) where
    -- its sizes fit the arrays
    pub sized : Sized o p.l (width_of p) (weight_of p) q
    sized =
        record {
          elements = es;
          within = weighted_within m law q (width_of p) (weight_of p) (facts.bound_high p) es s.weighted;
          narrow = below_narrow m law q p.l es s.narrow;
        }

  separate : Separate p.n (points p m law)
  separate i j h k e =
      let t = into_injective o law _ _ (places.support_element p m law same heard i h) (places.support_element p m law same heard j k) e in
      ⊎_elim
      (λ q. q)
      (⊎_elim
      (λ l. absurd (facts.distinct_elements p i j l k t))
      (λ l. absurd (facts.distinct_elements p j i l h (sym t))))
      (cases_order i j)

  -- the polynomial through the letters of the word heard
  through : Through p m law heard (newton F p.n (points p m law) (ordinates p m law heard))
  through =
      record {
        below = below_newton F p.n (points p m law) (ordinates p m law heard);
        values =
            λ i h.
            eval_newton F p.n (points p m law) (ordinates p m law heard) (points p m law i)
            ∙ newton_through F p.n (points p m law) (ordinates p m law heard) separate i h;
      }

  -- what interpolates the word heard has the properties that are promised of Q
  pub interpolates : (Q : Bivariate (Elem o)) → Serves Q → Interpolates p m law heard Q
  interpolates Q s =
      record {
        nonzero = s.nonzero;
        weighted = s.weighted;
        lattice =
            record {
              V = newton F p.n (points p m law) (ordinates p m law heard);
              through = through;
              member =
                  (lattice_by_multiplicity
                  o
                  law
                  p.n
                  p.k
                  (width_of p)
                  p.l
                  (points p m law)
                  (ordinates p m law heard)
                  (newton F p.n (points p m law) (ordinates p m law heard))
                  Q
                  separate
                  through.below
                  through.values
                  (below_weighted R (weight_of p) (width_of p) Q s.weighted)
                  s.narrow
                  ).1
                  vanishing;
            };
      }
    where
      vanishing : VanishesAt R p.n (points p m law) (ordinates p m law heard) p.k (width_of p) p.l Q
      vanishing i h =
          let e : 0 + i ≡ i = omega arith in
          (subst
          (λ j. points-at.Multiplicities R (width_of p) p.l Q (record { abscissa = points p m law j; ordinate = ordinates p m law heard j; multiplicity = p.k } ∷ []))
          e
          (places.vanishes p m law same heard (width_of p) Q 0 p.n s.vanishes i h, tt)
          ).0
