-- The search for the pivot, row by row.
use Rattle.std.proofs.Common.{◌≡◌, ℕ, ◌+◌, ◌<◌, ◌≤◌, min, Bool, true, false, not, ◌&&◌, eqb, ltb, ◌⊎◌, List, get_or, Some, None, Option, sym, refl, ap, ◌∙◌, subst, inl, inr, arith}
use Rattle.std.proofs.lemmas.Bool.{cases_eq, cases_lt, and_parts, and_cases, ltb-true, ltb-false, eqb-true, eqb-false, not-true, not-false}
use Rattle.algebra.specs.Koetter.{AtMost}
use Rattle.interpolation.specs.Pivots.{Fails, Pivot}

-- what the test of a row with the degree d and the discrepancy x says
module _ (d least x : ℕ) (b : Bool) (is : b ≡ (ltb d least && not (eqb x 0))) where
  pub better_yes : b ≡ true → (d < least) × (x ≡ 0 → ⊥)
  better_yes h =
      let p : (ltb d least ≡ true) × (not (eqb x 0) ≡ true) = and_parts (ltb d least) (not (eqb x 0)) (sym is ∙ h) in
      (ltb-true d least p.0, eqb-false x 0 (not-true (eqb x 0) p.1))

  pub better_no : b ≡ false → (x ≡ 0 → ⊥) → least ≤ d
  better_no h apart = go (and_cases (ltb d least) (not (eqb x 0)) (sym is ∙ h))
    where
      go : (ltb d least ≡ false) ⊎ (not (eqb x 0) ≡ false) → least ≤ d
      go (inl p) = ltb-false d least p
      go (inr p) = absurd (apart (eqb-true x 0 (not-false (eqb x 0) p)))

module _ (degrees discrepancies : List ℕ) (l bound : ℕ) where
  -- of the rows below i the answer is the first of least degree among those that fail, and least is its degree
  pub record Scanned (i : ℕ) (best : Option ℕ) (least : ℕ) : Type 0 where
    pub below : (j : ℕ) → j < i → Fails degrees discrepancies l bound j → least ≤ get_or degrees j 0
    pub none : best ≡ None → least ≡ bound
    pub most : least ≤ bound
    pub fails : (p : ℕ) → best ≡ Some p → Fails degrees discrepancies l bound p
    pub degree : (p : ℕ) → best ≡ Some p → get_or degrees p 0 ≡ least
    pub under : (p : ℕ) → best ≡ Some p → p < i
    pub first : (p : ℕ) → best ≡ Some p → (j : ℕ) → j < p → Fails degrees discrepancies l bound j → least < get_or degrees j 0

  some_some : (p q : ℕ) → ◌≡◌ {A = Option ℕ} (Some p) (Some q) → q ≡ p
  some_some p q e = cc

  none_some : (p : ℕ) → ◌≡◌ {A = Option ℕ} None (Some p) → ⊥
  none_some p e = let z : ◌≡◌ {A = ℕ} 0 1 = cc in omega arith

  some_none : (p : ℕ) → ◌≡◌ {A = Option ℕ} (Some p) None → ⊥
  some_none p e = let z : ◌≡◌ {A = ℕ} 0 1 = cc in omega arith

  pub scan_none : Scanned 0 None bound
  scan_none =
      record {
        below = λ j h f. absurd (omega arith);
        none = λ e. refl;
        most = omega arith;
        fails = λ p e. absurd (none_some p e);
        degree = λ p e. absurd (none_some p e);
        under = λ p e. absurd (none_some p e);
        first = λ p e. absurd (none_some p e);
      }

  -- row i has a lower degree
  pub scan_lower : (i : ℕ) (best : Option ℕ) (least : ℕ)
      → i < l
      → i < 8
      → get_or degrees i 0 < least
      → (get_or discrepancies i 0 ≡ 0 → ⊥)
      → Scanned i best least
      → Scanned (i + 1) (Some i) (get_or degrees i 0)
  scan_lower i best least hl h8 lower apart s =
      record {
        below = λ j h f. go j h f (cases_eq j i);
        none = λ e. absurd (some_none i e);
        most = let t : least ≤ bound = s.most in omega arith;
        fails = λ p e. subst (λ k. Fails degrees discrepancies l bound k) (sym (some_some i p e)) fails;
        degree = λ p e. ap (λ k. get_or degrees k 0) (some_some i p e);
        under = λ p e. let q : p ≡ i = some_some i p e in omega arith;
        first = λ p e j h f.
            let q : p ≡ i = some_some i p e in
            let k : j < i = omega arith in
            let t : least ≤ get_or degrees j 0 = s.below j k f in
            omega arith;
      }
    where
      fails : Fails degrees discrepancies l bound i
      fails = (hl, h8, (let t : least ≤ bound = s.most in omega arith), apart)

      go : (j : ℕ) → j < i + 1 → Fails degrees discrepancies l bound j → (j ≡ i) ⊎ (j ≡ i → ⊥) → get_or degrees i 0 ≤ get_or degrees j 0
      go j h f (inl e) = let q : get_or degrees j 0 ≡ get_or degrees i 0 = ap (λ k. get_or degrees k 0) e in omega arith
      go j h f (inr e) = let t : least ≤ get_or degrees j 0 = s.below j (omega arith) f in omega arith

  -- row i has no lower degree, or does not fail
  pub scan_still : (i : ℕ) (best : Option ℕ) (least : ℕ)
      → (Fails degrees discrepancies l bound i → least ≤ get_or degrees i 0)
      → Scanned i best least
      → Scanned (i + 1) best least
  scan_still i best least still s =
      record {
        below = λ j h f. go j h f (cases_eq j i);
        none = s.none;
        most = s.most;
        fails = s.fails;
        degree = s.degree;
        under = λ p e. let t : p < i = s.under p e in omega arith;
        first = s.first;
      }
    where
      go : (j : ℕ) → j < i + 1 → Fails degrees discrepancies l bound j → (j ≡ i) ⊎ (j ≡ i → ⊥) → least ≤ get_or degrees j 0
      go j h f (inl e) =
          let t : least ≤ get_or degrees i 0 = still (subst (λ k. Fails degrees discrepancies l bound k) e f) in
          let q : get_or degrees j 0 ≡ get_or degrees i 0 = ap (λ k. get_or degrees k 0) e in
          omega arith
      go j h f (inr e) = s.below j (omega arith) f

  pub scan_all : (i : ℕ) (best : Option ℕ) (least : ℕ)
      → min l 8 ≤ i
      → Scanned i best least
      → Pivot degrees discrepancies l bound best
  scan_all i best least end s =
      record {
        none = λ e j f.
            let t : least ≤ get_or degrees j 0 = s.below j (inside j f) f in
            let q : least ≡ bound = s.none e in
            let d : get_or degrees j 0 < bound = f.2 in
            omega arith;
        fails = s.fails;
        least = λ p e j f. at_most p e j f;
      }
    where
      inside : (j : ℕ) → Fails degrees discrepancies l bound j → j < i
      inside j f = let a : j < l = f.0 in let b : j < 8 = f.1 in omega arith

      at_most : (p : ℕ) → best ≡ Some p → (j : ℕ) → Fails degrees discrepancies l bound j → AtMost (get_or degrees p 0) p (get_or degrees j 0) j
      at_most p e j f =
          let d : get_or degrees p 0 ≡ least = s.degree p e in
          let t : least ≤ get_or degrees j 0 = s.below j (inside j f) f in
          (omega arith, λ same. go same (cases_lt j p))
        where
          go : get_or degrees p 0 ≡ get_or degrees j 0 → (j < p) ⊎ (p ≤ j) → p ≤ j
          go same (inr h) = h
          go same (inl h) =
              let k : least < get_or degrees j 0 = s.first p e j h f in
              let d : get_or degrees p 0 ≡ least = s.degree p e in
              absurd (omega arith)

-- the row found is one of the eight
pub found_inside : (degrees discrepancies : List ℕ) (l bound : ℕ) (answer : Option ℕ) (p : ℕ)
    → Pivot degrees discrepancies l bound answer
    → answer ≡ Some p
    → p < 8
found_inside degrees discrepancies l bound answer p pivot is = (pivot.fails p is).1
