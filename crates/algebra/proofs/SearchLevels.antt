-- The search lists exactly the roots, each once: level by level.
use mathlib.Core.Path.{◌≡◌, sym, ◌∙◌, subst}
use mathlib.Core.List.{List, [], ◌∷◌}
use lib.ListN.{length, get_or}
use Prim.Native.Nat.{ℕ, zero, suc, ◌<◌}
use native.Mathlib.Omega.{arith}
use native.Mathlib.Decide.{dec_lt}
use Rattle.algebra.specs.Ring.{CommRing, Field}
use Rattle.algebra.specs.Series.{constant, series}
use Rattle.algebra.specs.Degree.{Below}
use Rattle.algebra.specs.Evaluation.{eval, from_list}
use Rattle.algebra.specs.Bivariate.{Bivariate, Weighted}
use Rattle.algebra.specs.RootSearch.{Nonzero, Vanish, decide_vanish, at_zero, Candidate, strip, next, at_constant}
use Rattle.algebra.specs.RootList.{Enumerates, ListsRoots, branches, ending, continuing, search}
use Rattle.algebra.proofs.Degree.{below_constant}
use Rattle.algebra.proofs.Bivariate.{below_substitute}
use Rattle.algebra.proofs.FewRoots.{few_roots}
use Rattle.algebra.proofs.RootSteps.{root_candidate, root_tail, weighted_next, root_constant, substitute_constant_at}
use Rattle.algebra.proofs.Strip.{root_strip, weighted_strip}
use Rattle.algebra.proofs.ListMembers.{member_at}
use Rattle.algebra.proofs.SearchSteps.{ending_yes, ending_no, continuing_yes, continuing_no, search_zero, search_suc}
use Rattle.algebra.proofs.ListedRoots.{lists_same, lists_branches, root_last, lists_root_none, lists_nothing, distinct_listed}

module _ {K : Type 0} (F : Field K) where
  abbrev R : CommRing K
  R = F.ring

  -- the list of the roots is shorter than l
  pub few_listed : (l m : ℕ) (Q : Bivariate K) (ws : List (List K))
      → Nonzero R Q
      → Below (series R) l Q
      → ListsRoots R l m Q ws
      → length ws < l
  few_listed l m Q ws z b r =
      few_roots
      F
      l
      (length ws)
      Q
      (λ i. from_list R (get_or ws i []))
      z
      b
      (distinct_listed R l m Q ws r)
      (λ i h. r.sound (get_or ws i []) (member_at ws i [] h))

  -- the last level
  pub lists_ending : (l D : ℕ) (Q : Bivariate K) (γ : K)
      → Weighted R 0 D Q
      → ListsRoots R l 0 (next R l Q γ) (ending F l D Q γ)
  lists_ending l D Q γ w = go (decide_vanish F D (at_constant R l Q γ))
    where
      beyond : Vanish R D (at_constant R l Q γ) → (i : ℕ) → at_constant R l Q γ i ≡ R.zero
      beyond v i = pick (dec_lt i D)
        where
          pick : Dec (i < D) → at_constant R l Q γ i ≡ R.zero
          pick (yes h) = v i h
          pick (no h) =
              sym (substitute_constant_at R l Q γ i)
              ∙ below_substitute R l 0 D Q (constant R γ) w (below_constant R γ) i (omega arith)

      go : Dec (Vanish R D (at_constant R l Q γ)) → ListsRoots R l 0 (next R l Q γ) (ending F l D Q γ)
      go (yes v) =
          subst
          (ListsRoots R l 0 (next R l Q γ))
          (sym (ending_yes F l D Q γ v))
          (lists_root_none R l (next R l Q γ) ((root_last R l Q γ).1 ((root_constant R l Q γ).1 (beyond v))))
      go (no h) =
          subst
          (ListsRoots R l 0 (next R l Q γ))
          (sym (ending_no F l D Q γ h))
          (lists_nothing
          R
          l
          0
          (next R l Q γ)
          (elim [
            | [] ↦ λ k t. h (λ i _. (root_constant R l Q γ).0 ((root_last R l Q γ).0 t) i)
            | x ∷ w ↦ λ k t. absurd (omega arith)
          ]))

  -- an earlier level: what is no candidate is followed by no root
  pub lists_continuing : (l m : ℕ) (Q : Bivariate K) (γ : K) (ws : List (List K))
      → ListsRoots R l m (next R l Q γ) ws
      → ListsRoots R l m (next R l Q γ) (continuing F l Q γ ws)
  lists_continuing l m Q γ ws r = go (F.decide (eval R l (at_zero Q) γ) R.zero)
    where
      go : Dec (Candidate R l Q γ) → ListsRoots R l m (next R l Q γ) (continuing F l Q γ ws)
      go (yes e) = subst (ListsRoots R l m (next R l Q γ)) (sym (continuing_yes F l Q γ ws e)) r
      go (no h) =
          subst
          (ListsRoots R l m (next R l Q γ))
          (sym (continuing_no F l Q γ ws h))
          (lists_nothing
          R
          l
          m
          (next R l Q γ)
          (λ w k t. h (root_candidate R l Q (from_list R (γ ∷ w)) ((root_tail R l Q (from_list R (γ ∷ w))).1 t))))

  -- the search lists the roots with s + 1 coefficients, each once
  pub search_lists : (ε : ℕ → K) (q l D s : ℕ) (Q : Bivariate K)
      → Enumerates q ε
      → Weighted R s D Q
      → ListsRoots R l (suc s) Q (search F ε q l D s Q)
  search_lists ε q l D zero Q en w =
      subst
      (ListsRoots R l 1 Q)
      (sym (search_zero F ε q l D Q))
      (lists_same
      R
      l
      1
      (strip F l D Q)
      Q
      (branches ε (ending F l D (strip F l D Q)) q)
      (root_strip F l D Q)
      (lists_branches
      R
      ε
      q
      l
      0
      (strip F l D Q)
      (ending F l D (strip F l D Q))
      en
      (λ γ. lists_ending l D (strip F l D Q) γ (weighted_strip F l D 0 D Q w))))
  search_lists ε q l D (suc s) Q en w =
      let P : Bivariate K = strip F l D Q in
      let follow : K → List (List K) = λ γ. continuing F l P γ (search F ε q l D s (next R l P γ)) in
      subst
      (ListsRoots R l (suc (suc s)) Q)
      (sym (search_suc F ε q l D s Q))
      (lists_same
      R
      l
      (suc (suc s))
      P
      Q
      (branches ε follow q)
      (root_strip F l D Q)
      (lists_branches
      R
      ε
      q
      l
      (suc s)
      P
      follow
      en
      (λ γ.
      lists_continuing
      l
      (suc s)
      P
      γ
      (search F ε q l D s (next R l P γ))
      (search_lists ε q l D s (next R l P γ) en (weighted_next R l s D P γ (weighted_strip F l D (suc s) D Q w))))))
