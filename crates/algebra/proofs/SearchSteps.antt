-- The clauses of the root search, as equations.
use mathlib.Core.Path.{◌≡◌, refl, sym, ◌∙◌, ap, ap₂, subst}
use mathlib.Core.List.{List, [], ◌∷◌, ◌++◌, map}
use lib.ListN.{length, length-append}
use Prim.Native.Nat.{ℕ, zero, suc, ◌+◌, ◌≤◌}
use native.Mathlib.Omega.{arith}
use native.Mathlib.Decide.{dec_le}
use Rattle.algebra.specs.Ring.{CommRing, Field}
use Rattle.algebra.specs.Evaluation.{eval}
use Rattle.algebra.specs.Bivariate.{Bivariate}
use Rattle.algebra.specs.RootSearch.{Vanish, decide_vanish, at_zero, Candidate, strip, next, at_constant}
use Rattle.algebra.specs.RootList.{branches, ending, continuing, search}

module _ {K : Type 0} where
  pub branches_zero : (ε : ℕ → K) (follow : K → List (List K)) → branches ε follow 0 ≡ []
  unfolding branches
  branches_zero ε follow = refl

  -- the loop over the elements adds the words that begin with the next one
  pub branches_suc : (ε : ℕ → K) (follow : K → List (List K)) (n : ℕ)
      → branches ε follow (suc n) ≡ branches ε follow n ++ map (λ w. ε n ∷ w) (follow (ε n))
  unfolding branches
  branches_suc ε follow n = refl

  map_append : (φ : List K → List K) (xs ys : List (List K)) → map φ (xs ++ ys) ≡ map φ xs ++ map φ ys
  map_append φ [] ys = refl
  map_append φ (x ∷ xs) ys = ap (λ zs. φ x ∷ zs) (map_append φ xs ys)

  append_assoc : (xs ys zs : List K) → xs ++ ys ++ zs ≡ xs ++ (ys ++ zs)
  append_assoc [] ys zs = refl
  append_assoc (x ∷ xs) ys zs = ap (λ ws. x ∷ ws) (append_assoc xs ys zs)

  map_prefixed : (p : List K) (γ : K) (vs : List (List K))
      → map (λ w. p ++ w) (map (λ w. γ ∷ w) vs) ≡ map (λ w. p ++ (γ ∷ []) ++ w) vs
  map_prefixed p γ [] = refl
  map_prefixed p γ (v ∷ vs) = ap₂ (λ w ws. w ∷ ws) (sym (append_assoc p (γ ∷ []) v)) (map_prefixed p γ vs)

  -- the same below a word p of coefficients already chosen
  pub prefixed_branches_suc : (ε : ℕ → K) (follow : K → List (List K)) (p : List K) (n : ℕ)
      → map (λ w. p ++ w) (branches ε follow (suc n))
      ≡ map (λ w. p ++ w) (branches ε follow n) ++ map (λ w. p ++ (ε n ∷ []) ++ w) (follow (ε n))
  prefixed_branches_suc ε follow p n =
      ap (map (λ w. p ++ w)) (branches_suc ε follow n)
      ∙ map_append (λ w. p ++ w) (branches ε follow n) (map (λ w. ε n ∷ w) (follow (ε n)))
      ∙ ap (λ ws. map (λ w. p ++ w) (branches ε follow n) ++ ws) (map_prefixed p (ε n) (follow (ε n)))

  length_prefixed : (γ : K) (vs : List (List K)) → length (map (λ w. γ ∷ w) vs) ≡ length vs
  length_prefixed γ [] = refl
  length_prefixed γ (v ∷ vs) = ap suc (length_prefixed γ vs)

  pub length_branches_suc : (ε : ℕ → K) (follow : K → List (List K)) (n : ℕ)
      → length (branches ε follow (suc n)) ≡ length (branches ε follow n) + length (follow (ε n))
  length_branches_suc ε follow n =
      ap length (branches_suc ε follow n)
      ∙ length-append (branches ε follow n) (map (λ w. ε n ∷ w) (follow (ε n)))
      ∙ ap (λ k. length (branches ε follow n) + k) (length_prefixed (ε n) (follow (ε n)))

  -- the words found so far are no more than all
  pub length_branches_le : (ε : ℕ → K) (follow : K → List (List K)) (n q : ℕ)
      → n ≤ q
      → length (branches ε follow n) ≤ length (branches ε follow q)
  length_branches_le ε follow n zero h =
      let e : n ≡ 0 = omega arith in subst (λ k. length (branches ε follow k) ≤ length (branches ε follow 0)) (sym e) (omega arith)
  length_branches_le ε follow n (suc q) h = go (dec_le n q) (length_branches_le ε follow n q)
    where
      go : Dec (n ≤ q)
          → (n ≤ q → length (branches ε follow n) ≤ length (branches ε follow q))
          → length (branches ε follow n) ≤ length (branches ε follow (suc q))
      go (yes k) r =
          let a : length (branches ε follow n) ≤ length (branches ε follow q) = r k in
          let e : length (branches ε follow (suc q)) ≡ length (branches ε follow q) + length (follow (ε q))
          = length_branches_suc ε follow q in
          omega arith
      go (no k) r =
          let e : n ≡ suc q = omega arith in
          subst (λ k. length (branches ε follow k) ≤ length (branches ε follow (suc q))) (sym e) (omega arith)

module _ {K : Type 0} (F : Field K) where
  abbrev R : CommRing K
  R = F.ring

  pub ending_yes : (l D : ℕ) (Q : Bivariate K) (γ : K)
      → Vanish R D (at_constant R l Q γ)
      → ending F l D Q γ ≡ [] ∷ []
  unfolding ending
  ending_yes l D Q γ v = go (decide_vanish F D (at_constant R l Q γ))
    where
      go : (c : Dec (Vanish R D (at_constant R l Q γ))) → (let ws : List (List K) = elim c [ yes v ↦ [] ∷ [] | no h ↦ [] ] in ws) ≡ [] ∷ []
      go (yes w) = refl
      go (no h) = absurd (h v)

  pub ending_no : (l D : ℕ) (Q : Bivariate K) (γ : K)
      → (Vanish R D (at_constant R l Q γ) → ⊥)
      → ending F l D Q γ ≡ []
  unfolding ending
  ending_no l D Q γ h = go (decide_vanish F D (at_constant R l Q γ))
    where
      go : (c : Dec (Vanish R D (at_constant R l Q γ))) → (let ws : List (List K) = elim c [ yes v ↦ [] ∷ [] | no h ↦ [] ] in ws) ≡ []
      go (yes v) = absurd (h v)
      go (no k) = refl

  pub continuing_yes : (l : ℕ) (Q : Bivariate K) (γ : K) (ws : List (List K))
      → Candidate R l Q γ
      → continuing F l Q γ ws ≡ ws
  unfolding continuing
  continuing_yes l Q γ ws e = go (F.decide (eval R l (at_zero Q) γ) R.zero)
    where
      go : (c : Dec (Candidate R l Q γ)) → (let vs : List (List K) = elim c [ yes e ↦ ws | no h ↦ [] ] in vs) ≡ ws
      go (yes k) = refl
      go (no h) = absurd (h e)

  pub continuing_no : (l : ℕ) (Q : Bivariate K) (γ : K) (ws : List (List K))
      → (Candidate R l Q γ → ⊥)
      → continuing F l Q γ ws ≡ []
  unfolding continuing
  continuing_no l Q γ ws h = go (F.decide (eval R l (at_zero Q) γ) R.zero)
    where
      go : (c : Dec (Candidate R l Q γ)) → (let vs : List (List K) = elim c [ yes e ↦ ws | no h ↦ [] ] in vs) ≡ []
      go (yes k) = absurd (h k)
      go (no k) = refl

  -- the search for constants
  pub search_zero : (ε : ℕ → K) (q l D : ℕ) (Q : Bivariate K)
      → search F ε q l D 0 Q ≡ branches ε (ending F l D (strip F l D Q)) q
  unfolding search
  search_zero ε q l D Q = refl

  -- the search for one coefficient more
  pub search_suc : (ε : ℕ → K) (q l D s : ℕ) (Q : Bivariate K)
      → search F ε q l D (suc s) Q
      ≡ branches ε (λ γ. continuing F l (strip F l D Q) γ (search F ε q l D s (next R l (strip F l D Q) γ))) q
  unfolding search
  search_suc ε q l D s Q = refl
