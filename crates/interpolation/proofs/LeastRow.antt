-- The live row of least degree after the conditions of the places.
use Rattle.std.proofs.Common.{◌≡◌, ℕ, suc, ◌<◌, ◌≤◌, true, false, ◌⊎◌, List, [], get_or, replicate, Some, None, Option, sym, refl, subst, inl, inr, arith}
use lib.ListN.{get_or-replicate}
use Rattle.std.proofs.lemmas.Bool.{cases_lt, false≢true}
use Rattle.algebra.specs.Elements.{element_ring, elements}
use Rattle.algebra.specs.Conditions.{conditions_of}
use Rattle.algebra.specs.Koetter.{Interpolates}
use Rattle.algebra.proofs.KoetterLive.{places_live_row}
use Rattle.algebra.proofs.KoetterDegree.{live_degree, least_degree, row_below}
use Rattle.field.specs.Meaning.{Meaning, operations}
use Rattle.bivariate.specs.Lifted.{polynomial_of, PolynomialOf}
use Rattle.interpolation.specs.Pivots.{Fails, Pivot}
use Rattle.interpolation.specs.States.{state_of}
use Rattle.interpolation.specs.Runs.{places_over, Led, Interpolated, Interpolant, NoneBelow}
use Rattle.interpolation.specs.declared.places.Place.{Place}

-- eight ones
abbrev ones : List ℕ
ones = replicate 8 1

one_apart : (j : ℕ) → j < 8 → get_or ones j 0 ≡ 0 → ⊥
one_apart j h e = let q : get_or ones j 0 ≡ 1 = get_or-replicate {A = ℕ} 8 j 1 0 h in omega arith

module _ (m : Meaning) (places : List Place) (l bound weight : ℕ) (rows : List (List (List ℕ))) (degrees : List ℕ) (answer : Option ℕ) (led : Interpolated m places l bound weight rows degrees) (pivot : Pivot degrees ones l bound answer) where
  -- the row p is the one
  pub row_found : (p : ℕ) (q : List (List ℕ)) → answer ≡ Some p → q ≡ get_or rows p [] → Interpolant m places l bound weight q true
  row_found p q is e =
      record {
        found = λ _ law few short light suited.
            let h : Led m law l bound weight (conditions_of (places_over (operations m) law places)) rows degrees = led law few short light suited in
            let fails : Fails degrees ones l bound p = pivot.fails p is in (
              get_or degrees p 0,
              record {
                elements = subst (PolynomialOf (operations m)) (sym e) (h.elements p);
                below = fails.2;
                serves = subst
                    (λ x. Interpolates (element_ring (operations m) law) weight (suc (get_or degrees p 0)) l (places_over (operations m) law places) (polynomial_of (operations m) law x))
                    (sym e)
                    (live_degree (elements (operations m) law) weight bound l (places_over (operations m) law places) (state_of (operations m) law rows degrees) h.invariant p (fails.0, fails.2));
                least = λ W P k.
                    least_degree (elements (operations m) law) weight bound l W (places_over (operations m) law places) (state_of (operations m) law rows degrees) P h.least p (fails.0, fails.2) (λ i u. lowest fails few i u (cases_lt (get_or degrees i 0) bound)) k;
              },
            );
        exists = λ law few short light suited count. refl;
      }
    where
      lowest : Fails degrees ones l bound p → l ≤ 8 → (i : ℕ) → i < l → (get_or degrees i 0 < bound) ⊎ (bound ≤ get_or degrees i 0) → get_or degrees p 0 ≤ get_or degrees i 0
      lowest fails few i u (inl k) =
          let inside : i < 8 = omega arith in
          (pivot.least p is i (u, inside, k, one_apart i inside)).0
      lowest fails few i u (inr k) = let d : get_or degrees p 0 < bound = fails.2 in omega arith

  -- no row below the bound is left
  live : answer ≡ None → (j : ℕ) → j < l → l ≤ 8 → get_or degrees j 0 < bound → ⊥
  live is j k few d = let inside : j < 8 = omega arith in pivot.none is j (k, inside, d, one_apart j inside)

  -- there is no live row
  pub row_none : (q : List (List ℕ)) → answer ≡ None → Interpolant m places l bound weight q false
  row_none q is =
      record {
        found = λ e. absurd (false≢true e);
        exists = λ law few short light suited count.
            let h = led law few short light suited in
            let j = places_live_row (elements (operations m) law) weight bound l (places_over (operations m) law places) (state_of (operations m) law rows degrees) h.invariant count in
            let k : j.0 < l = j.1.0 in
            absurd (live is j.0 k few j.1.1);
      }

  -- then no polynomial of lower degree than the bound interpolates
  pub none_below : answer ≡ None → NoneBelow m places l bound weight false
  none_below is _ law few short light suited P serves =
      let h = led law few short light suited in
      let j = row_below (elements (operations m) law) weight bound l bound (places_over (operations m) law places) (state_of (operations m) law rows degrees) P h.least (omega arith) serves in
      live is j.0 j.1 few j.2
