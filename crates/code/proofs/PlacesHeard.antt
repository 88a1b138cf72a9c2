-- The places of the word heard: they suit the interpolation, stand at distinct points, and a polynomial goes through those
-- where its word agrees with the word heard.
use Rattle.std.proofs.Common.{◌≡◌, ℕ, zero, suc, ◌+◌, ◌-◌, ◌*◌, ◌<◌, ◌≤◌, true, false, cond, eqb, ◌⊎◌, List, ◌∷◌, map, length, get_or, sym, refl, ap, ◌∙◌, subst, ap₂, inl, inr, mul-le-mul, mul-zero, mul-one, mul-suc, mul-add, arith}
use native.Mathlib.Nat.{mul-sub}
use Rattle.std.specs.List.{range_with_len}
use Rattle.std.proofs.lemmas.List.FromFn.{fill_by_all}
use Rattle.std.proofs.lemmas.Bool.{cases_Bool, eqb-true, cond-false}
use Rattle.algebra.specs.Operations.{Operations, Lawful}
use Rattle.algebra.specs.Ring.{CommRing, Field}
use Rattle.algebra.specs.Elements.{Elem, element_ring, elements}
use Rattle.algebra.specs.Series.{Series}
use Rattle.algebra.specs.Evaluation.{eval}
use Rattle.algebra.specs.Order.{total, Differs, Distinct}
use Rattle.algebra.specs.Bivariate.{Bivariate, Multiplicity}
use Rattle.algebra.specs.Places as places
use Rattle.algebra.specs.Conditions.{Uniform}
use Rattle.algebra.proofs.Elements.{into_injective}
use Rattle.field.specs.Meaning.{Meaning, operations}
use Rattle.plan.specs.declared.Plan.{Plan}
use Rattle.plan.proofs.Facts as facts
use Rattle.poly.proofs.Elementary as elementary
use Rattle.interpolation.specs.declared.places.Place.{Place}
use Rattle.interpolation.specs.Runs.{place_of, places_over, AllSuited}
use Rattle.code.specs.Codes.{support_of}
use Rattle.code.specs.Decoding.{place_at}
use Rattle.code.specs.Listing.{distance, width_of, points, ordinates}

module _ (p : Plan) (m : Meaning) (law : Lawful (operations m)) (same : p.size ≡ m.size) (heard : List ℕ) where
  abbrev o : Operations
  o = operations m

  abbrev F : Field (Elem o)
  F = elements o law

  abbrev R : CommRing (Elem o)
  R = element_ring o law

  -- n places from place a on
  abbrev pub some : ℕ → ℕ → List Place
  some a n = map (place_at p m heard) (range_with_len a n)

  abbrev pub lifted : ℕ → ℕ → List (places.Place (Elem o))
  lifted a n = places_over o law (some a n)

  pub support_element : (i : ℕ) → i < p.n → get_or (support_of p) i 0 < m.size
  support_element i h = omega (arith, facts.element p i h)

  pub suited : (a n : ℕ) → a + n ≤ p.n → AllSuited m p.l (width_of p) (some a n)
  suited a zero h = tt
  suited a (suc n) h = (
    record {
      abscissa = support_element a (omega arith);
      ordinate = elementary.quotient_element m law _ _;
      multiplicity = let k : p.k ≤ 4 = p.k_high in omega arith;
      few = p.l_high;
      short = facts.bound_high p;
    },
    suited (a + 1) n (omega arith),
  )

  differs : (a b n : ℕ) → a < b → b + n ≤ p.n → Differs (points p m law a) (places.orders_of (lifted b n))
  differs a b zero h k = tt
  differs a b (suc n) h k = (
    λ e. facts.distinct_elements p a b h (omega arith) (into_injective o law _ _ (support_element a (omega arith)) (support_element b (omega arith)) e),
    differs a (b + 1) n (omega arith) (omega arith),
  )

  pub distinct : (a n : ℕ) → a + n ≤ p.n → Distinct (places.orders_of (lifted a n))
  distinct a zero h = tt
  distinct a (suc n) h = (differs a (a + 1) n (omega arith) (omega arith), distinct (a + 1) n (omega arith))

  pub uniform : (a n : ℕ) → Uniform p.k (lifted a n)
  uniform a zero = tt
  uniform a (suc n) = (refl, uniform (a + 1) n)

  pub lifted_length : (a n : ℕ) → length (lifted a n) ≡ n
  lifted_length a zero = refl
  lifted_length a (suc n) = ap suc (lifted_length (a + 1) n)

  -- what vanishes at the places vanishes at each
  pub vanishes : (d : ℕ) (Q : Bivariate (Elem o)) (a n : ℕ)
      → places.Multiplicities R d p.l Q (lifted a n)
      → (i : ℕ)
      → i < n
      → Multiplicity R (points p m law (a + i)) (ordinates p m law heard (a + i)) p.k d p.l Q
  vanishes d Q a zero v i h = absurd (omega arith)
  vanishes d Q a (suc n) v zero h =
      let e : a ≡ a + 0 = omega arith in
      subst (λ j. Multiplicity R (points p m law j) (ordinates p m law heard j) p.k d p.l Q) e v.0
  vanishes d Q a (suc n) v (suc i) h =
      let e : a + 1 + i ≡ a + suc i = omega arith in
      subst (λ j. Multiplicity R (points p m law j) (ordinates p m law heard j) p.k d p.l Q) e (vanishes d Q (a + 1) n v.1 i (omega arith))

  module _ (d : ℕ) (f : Series (Elem o)) (word : List ℕ) where
    -- at an agreeing place f goes through the point
    abbrev pub Agrees : ℕ → Type 0
    Agrees i = get_or word i 0 ≡ get_or heard i 0 → eval R d f (points p m law i) ≡ ordinates p m law heard i

    -- the distance at n places from place a on
    abbrev pub apart : ℕ → ℕ → ℕ
    apart a n = distance (map (λ i. get_or word i 0) (range_with_len a n)) (map (λ i. get_or heard i 0) (range_with_len a n))

    one_more : (a n : ℕ)
        → Agrees a
        → p.k * n ≤ places.agreement F d f (lifted (a + 1) n) + p.k * apart (a + 1) n
        → p.k * suc n ≤ places.agreement F d f (lifted a (suc n)) + p.k * apart a (suc n)
    one_more a n agree r =
        go
        (cases_Bool (eqb (get_or word a 0) (get_or heard a 0)))
        (F.decide (eval R d f (points p m law a)) (ordinates p m law heard a))
      where
        here : places.Place (Elem o)
        here = place_of o law (place_at p m heard a)

        rest : List (places.Place (Elem o))
        rest = places.met F d f (lifted (a + 1) n)

        -- the multiples of k are those of the two summands
        spread : (b : ℕ) → p.k * (b + apart (a + 1) n) ≡ p.k * b + p.k * apart (a + 1) n
        spread b = mul-add p.k b (apart (a + 1) n)

        go : (eqb (get_or word a 0) (get_or heard a 0) ≡ true) ⊎ (eqb (get_or word a 0) (get_or heard a 0) ≡ false)
            → (c : Dec (eval R d f (points p m law a) ≡ ordinates p m law heard a))
            → p.k * suc n
            ≤ total (places.orders_of (let ps : List (places.Place (Elem o)) = elim c [ yes e ↦ place_of o law (place_at p m heard a) ∷ places.met F d f (lifted (a + 1) n) | no h ↦ places.met F d f (lifted (a + 1) n) ] in ps))
            + p.k * (cond (eqb (get_or word a 0) (get_or heard a 0)) 0 1 + apart (a + 1) n)
        go t (yes e) =
            let up : p.k * suc n ≡ p.k * n + p.k = mul-suc p.k n in
            let b : ℕ = cond (eqb (get_or word a 0) (get_or heard a 0)) 0 1 in
            let s : p.k * (b + apart (a + 1) n) ≡ p.k * b + p.k * apart (a + 1) n = spread b in
            omega arith
        go (inl t) (no h) = absurd (h (agree (eqb-true _ _ t)))
        go (inr t) (no h) =
            let up : p.k * suc n ≡ p.k * n + p.k = mul-suc p.k n in
            let b : ℕ = cond (eqb (get_or word a 0) (get_or heard a 0)) 0 1 in
            let one : b ≡ 1 = cond-false (eqb (get_or word a 0) (get_or heard a 0)) 0 1 t in
            let k : p.k * b ≡ p.k = ap (λ x. p.k * x) one ∙ mul-one p.k in
            let s : p.k * (b + apart (a + 1) n) ≡ p.k * b + p.k * apart (a + 1) n = spread b in
            omega arith

    -- each place is gone through or counts for the distance
    pub agreed : (a n : ℕ)
        → ((i : ℕ) → i < a + n → Agrees i)
        → p.k * n ≤ places.agreement F d f (lifted a n) + p.k * apart a n
    agreed a zero agree = let z : p.k * 0 ≡ 0 = mul-zero p.k in omega arith
    agreed a (suc n) agree = one_more a n (agree a (omega arith)) (agreed (a + 1) n (λ i h. agree i (omega arith)))

    -- a word within the plan's errors agrees at places whose multiplicities sum to D or more
    pub enough : (long : length word ≡ p.n)
        → length heard ≡ p.n
        → distance word heard ≤ p.w
        → ((i : ℕ) → i < p.n → Agrees i)
        → width_of p ≤ places.agreement F d f (lifted 0 p.n)
    enough long heard_long close agree =
        let e : apart 0 p.n ≡ distance word heard
        = sym
        (ap₂
        distance
        (fill_by_all (λ i. get_or word i 0) word p.n 0 long (λ k h. refl))
        (fill_by_all (λ i. get_or heard i 0) heard p.n 0 heard_long (λ k h. refl))) in
        let a : p.k * p.n ≤ places.agreement F d f (lifted 0 p.n) + p.k * apart 0 p.n
        = agreed 0 p.n (λ i h. agree i (omega arith)) in
        let b : p.k * apart 0 p.n ≤ p.k * p.w = mul-le-mul {n₁ = p.k} {m₁ = apart 0 p.n} {n₂ = p.k} {m₂ = p.w} (omega arith) (omega arith) in
        let c : p.k * (p.n - p.w) ≡ p.k * p.n - p.k * p.w = mul-sub p.k p.n p.w in
        omega arith
