-- A polynomial f that agrees enough with the places at which Q vanishes is a root: Q(x, f(x)) = 0.
use mathlib.Core.Path.{◌≡◌, sym, ◌∙◌, ap}
use mathlib.Core.List.{List, [], ◌∷◌}
use Prim.Native.Nat.{ℕ, suc, ◌≤◌}
use Rattle.algebra.specs.Ring.{CommRing, Field}
use Rattle.algebra.specs.Series.{Series, series}
use Rattle.algebra.specs.Degree.{Below}
use Rattle.algebra.specs.Evaluation.{eval}
use Rattle.algebra.specs.Order.{Orders, Differs, Distinct, total}
use Rattle.algebra.specs.Bivariate.{Bivariate, Weighted, substitute}
use Rattle.algebra.specs.Places.{Place, orders_of, Elsewhere, DistinctPoints, Multiplicities, Through, met, agreement}
use Rattle.algebra.proofs.Bivariate.{below_substitute}
use Rattle.algebra.proofs.Multiplicity.{order_substitute}
use Rattle.algebra.proofs.Zeros.{zero_by_orders}

module _ {K : Type 0} (F : Field K) where
  abbrev R : CommRing K
  R = F.ring

  orders_at : (ps : List (Place K)) (l s D : ℕ) (Q : Bivariate K) (f : Series K)
      → Weighted R s D Q
      → Below R (suc s) f
      → Multiplicities R D l Q ps
      → Through R (suc s) f ps
      → Orders R (orders_of ps) D (substitute R l Q f)
  orders_at [] l s D Q f w b m t = tt
  orders_at (p ∷ ps) l s D Q f w b m t = (
    order_substitute R p.abscissa p.ordinate p.multiplicity l s D Q f w b t.0 m.0,
    orders_at ps l s D Q f w b m.1 t.1,
  )

  -- f of degree at most s through places whose multiplicities sum to D or more
  pub root_through : (ps : List (Place K)) (l s D : ℕ) (Q : Bivariate K) (f : Series K)
      → Distinct (orders_of ps)
      → Weighted R s D Q
      → Below R (suc s) f
      → Multiplicities R D l Q ps
      → Through R (suc s) f ps
      → D ≤ total (orders_of ps)
      → substitute R l Q f ≡ (series R).zero
  root_through ps l s D Q f h w b m t k =
      zero_by_orders
      F
      (orders_of ps)
      D
      (substitute R l Q f)
      h
      (below_substitute R l s D Q f w b)
      (orders_at ps l s D Q f w b m t)
      k

  module _ (d : ℕ) (f : Series K) where
    -- the places met, given what is decided at the first
    abbrev picked : (p : Place K) → List (Place K) → Dec (eval R d f p.abscissa ≡ p.ordinate) → List (Place K)
    picked p ps c = elim c [ yes e ↦ p ∷ met F d f ps | no h ↦ met F d f ps ]

    through_met : (ps : List (Place K)) → Through R d f (met F d f ps)
    through_met [] = tt
    through_met (p ∷ ps) = go (F.decide (eval R d f p.abscissa) p.ordinate) (through_met ps)
      where
        go : (c : Dec (eval R d f p.abscissa ≡ p.ordinate))
            → Through R d f (met F d f ps)
            → Through R d f (picked p ps c)
        go (yes e) t = (e, t)
        go (no h) t = t

    multiplicities_met : (ps : List (Place K)) (e l : ℕ) (Q : Bivariate K)
        → Multiplicities R e l Q ps
        → Multiplicities R e l Q (met F d f ps)
    multiplicities_met [] e l Q m = tt
    multiplicities_met (p ∷ ps) e l Q m =
        go (F.decide (eval R d f p.abscissa) p.ordinate) (multiplicities_met ps e l Q m.1)
      where
        go : (c : Dec (eval R d f p.abscissa ≡ p.ordinate))
            → Multiplicities R e l Q (met F d f ps)
            → Multiplicities R e l Q (picked p ps c)
        go (yes _) t = (m.0, t)
        go (no _) t = t

    -- a place that f goes through has another abscissa than the other places that it goes through
    differs_met : (p : Place K) (ps : List (Place K))
        → eval R d f p.abscissa ≡ p.ordinate
        → Elsewhere p ps
        → Differs p.abscissa (orders_of (met F d f ps))
    differs_met p [] e h = tt
    differs_met p (q ∷ ps) e h =
        go (F.decide (eval R d f q.abscissa) q.ordinate) (differs_met p ps e h.1)
      where
        go : (c : Dec (eval R d f q.abscissa ≡ q.ordinate))
            → Differs p.abscissa (orders_of (met F d f ps))
            → Differs p.abscissa (orders_of (picked q ps c))
        go (yes e') t = (λ x. h.0 x (sym e ∙ ap (eval R d f) x ∙ e'), t)
        go (no _) t = t

    -- the places that f goes through have distinct abscissae
    distinct_met : (ps : List (Place K)) → DistinctPoints ps → Distinct (orders_of (met F d f ps))
    distinct_met [] h = tt
    distinct_met (p ∷ ps) h =
        go (F.decide (eval R d f p.abscissa) p.ordinate) (distinct_met ps h.1)
      where
        go : (c : Dec (eval R d f p.abscissa ≡ p.ordinate))
            → Distinct (orders_of (met F d f ps))
            → Distinct (orders_of (picked p ps c))
        go (yes e) t = (differs_met p ps e h.0, t)
        go (no _) t = t

  -- every f of degree at most s whose agreement with the places is D or more is a root
  pub complete : (ps : List (Place K)) (l s D : ℕ) (Q : Bivariate K) (f : Series K)
      → DistinctPoints ps
      → Weighted R s D Q
      → Multiplicities R D l Q ps
      → Below R (suc s) f
      → D ≤ agreement F (suc s) f ps
      → substitute R l Q f ≡ (series R).zero
  complete ps l s D Q f h w m b k =
      root_through
      (met F (suc s) f ps)
      l
      s
      D
      Q
      f
      (distinct_met (suc s) f ps h)
      w
      b
      (multiplicities_met (suc s) f ps D l Q m)
      (through_met (suc s) f ps)
      k

-- places with distinct abscissae stand at distinct points
module _ {K : Type 0} where
  elsewhere_of_differs : (p : Place K) (ps : List (Place K)) → Differs p.abscissa (orders_of ps) → Elsewhere p ps
  elsewhere_of_differs p [] h = tt
  elsewhere_of_differs p (q ∷ ps) h = (λ x y. h.0 x, elsewhere_of_differs p ps h.1)

  pub distinct_by_abscissae : (ps : List (Place K)) → Distinct (orders_of ps) → DistinctPoints ps
  distinct_by_abscissae [] h = tt
  distinct_by_abscissae (p ∷ ps) h = (elsewhere_of_differs p ps h.0, distinct_by_abscissae ps h.1)
