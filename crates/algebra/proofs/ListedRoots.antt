-- Lists of roots with a given number of coefficients: one level of the search, and what such a list holds.
use mathlib.Core.Path.{◌≡◌, refl, sym, ◌∙◌, ap, subst, fun_ext}
use mathlib.Core.Logic.{◌↔◌, inl, inr}
use mathlib.Core.List.{List, [], ◌∷◌}
use lib.ListN.{length, get_or}
use Prim.Native.Nat.{ℕ, zero, suc}
use native.Mathlib.Omega.{arith}
use Rattle.algebra.specs.Members.{Member}
use Rattle.algebra.specs.Ring.{CommRing, mul_zero}
use Rattle.algebra.specs.Series.{Series, tail, constant, X, series}
use Rattle.algebra.proofs.Coefficients.{zero_at}
use Rattle.algebra.specs.Degree.{Below}
use Rattle.algebra.specs.Evaluation.{from_list}
use Rattle.algebra.specs.Interpolation.{Separate}
use Rattle.algebra.specs.Bivariate.{Bivariate}
use Rattle.algebra.specs.RootSearch.{Root, next}
use Rattle.algebra.specs.RootList.{Enumerates, to_list, ListsRoots, branches}
use Rattle.algebra.proofs.RootSteps.{root_step, root_tail}
use Rattle.algebra.proofs.ListMembers.{member_at, separate_members, member_branches, branches_member, no_repetition_branches}

module _ {K : Type 0} (R : CommRing K) where
  open series R use {zero as 𝟎, one as 𝟏, add as ◌⊕◌, mul as ◌⊗◌, neg as ⊖◌}

  infixl 65 ◌⊕◌
  infixl 70 ◌⊗◌
  infix 75 ⊖◌
  -- polynomials with the same roots have the same lists
  pub lists_same : (l m : ℕ) (P Q : Bivariate K) (ws : List (List K))
      → ((f : Series K) → Root R l Q f ↔ Root R l P f)
      → ListsRoots R l m P ws
      → ListsRoots R l m Q ws
  lists_same l m P Q ws e r =
      record {
        long = r.long;
        sound = λ w h. (e (from_list R w)).1 (r.sound w h);
        whole = λ w h t. r.whole w h ((e (from_list R w)).0 t);
        once = r.once;
      }

  -- one level: the roots of Q are γ followed by a root of Q(x, γ + x·y)
  pub lists_branches : (ε : ℕ → K) (q l m : ℕ) (Q : Bivariate K) (follow : K → List (List K))
      → Enumerates q ε
      → ((γ : K) → ListsRoots R l m (next R l Q γ) (follow γ))
      → ListsRoots R l (suc m) Q (branches ε follow q)
  lists_branches ε q l m Q follow en r =
      record {
        long =
            λ w h.
            let t = member_branches ε follow q w h in
            ap length t.4 ∙ ap suc ((r (ε t.0)).long t.2 t.3);
        sound =
            λ w h.
            let t = member_branches ε follow q w h in
            subst
            (λ v. Root R l Q (from_list R v))
            (sym t.4)
            ((root_tail R l Q (from_list R (ε t.0 ∷ t.2))).1 ((r (ε t.0)).sound t.2 t.3));
        whole = whole_of;
        once = no_repetition_branches ε follow q q en.0 (omega arith) (λ γ. (r γ).once);
      }
    where
      whole_of : (w : List K) → length w ≡ suc m → Root R l Q (from_list R w) → Member w (branches ε follow q)
      whole_of [] h t = absurd (omega arith)
      whole_of (γ ∷ w) h t =
          let i = en.1 γ in
          let h' : length w ≡ m = omega arith in
          subst
          (λ x. Member (x ∷ w) (branches ε follow q))
          i.2
          (branches_member
          ε
          follow
          q
          i.0
          w
          i.1
          (subst (λ x. Member w (follow x)) (sym i.2) ((r γ).whole w h' ((root_tail R l Q (from_list R (γ ∷ w))).0 t))))

  -- the polynomial without coefficients is a root of Q(x, γ + x·y) exactly if γ is one of Q
  pub root_last : (l : ℕ) (Q : Bivariate K) (γ : K)
      → Root R l (next R l Q γ) (from_list R []) ↔ Root R l Q (constant R γ)
  root_last l Q γ = (
    λ e. subst (Root R l Q) same ((root_step R l Q γ (from_list R [])).1 e),
    λ e. (root_step R l Q γ (from_list R [])).0 (subst (Root R l Q) (sym same) e),
  )
    where
      same : constant R γ ⊕ X R ⊗ from_list R [] ≡ constant R γ
      same =
          ap (λ f. constant R γ ⊕ X R ⊗ f) (fun_ext (λ n. sym (zero_at R n)))
          ∙ ap (λ f. constant R γ ⊕ f) (mul_zero (series R) (X R))
          ∙ (series R).add_zero (constant R γ)

  -- the roots without coefficients
  pub lists_root_none : (l : ℕ) (Q : Bivariate K) → Root R l Q (from_list R []) → ListsRoots R l 0 Q ([] ∷ [])
  lists_root_none l Q e =
      record { long = long_of; sound = sound_of; whole = whole_of; once = (λ h. h, tt) }
    where
      long_of : (w : List K) → Member w ([] ∷ []) → length w ≡ 0
      long_of w (inl p) = ap length p
      long_of w (inr h) = absurd h

      sound_of : (w : List K) → Member w ([] ∷ []) → Root R l Q (from_list R w)
      sound_of w (inl p) = subst (λ v. Root R l Q (from_list R v)) (sym p) e
      sound_of w (inr h) = absurd h

      whole_of : (w : List K) → length w ≡ 0 → Root R l Q (from_list R w) → Member w ([] ∷ [])
      whole_of [] h t = inl refl
      whole_of (x ∷ w) h t = absurd (omega arith)

  -- no roots
  pub lists_nothing : (l m : ℕ) (Q : Bivariate K)
      → ((w : List K) → length w ≡ m → Root R l Q (from_list R w) → ⊥)
      → ListsRoots R l m Q []
  lists_nothing l m Q h =
      record { long = λ w k. absurd k; sound = λ w k. absurd k; whole = λ w k t. absurd (h w k t); once = tt }

  -- the list of a word's coefficients gives the word's polynomial only
  from_list_injective : (v w : List K) → length v ≡ length w → from_list R v ≡ from_list R w → v ≡ w
  from_list_injective [] [] h e = refl
  from_list_injective [] (y ∷ w) h e = absurd (omega arith)
  from_list_injective (x ∷ v) [] h e = absurd (omega arith)
  from_list_injective (x ∷ v) (y ∷ w) h e =
      let h' : length v ≡ length w = omega arith in
      ap (λ z. z ∷ v) (ap (λ f. f 0) e) ∙ ap (λ u. y ∷ u) (from_list_injective v w h' (ap tail e))

  length_to_list : (m : ℕ) (f : Series K) → length (to_list m f) ≡ m
  length_to_list zero f = refl
  length_to_list (suc m) f = ap suc (length_to_list m (tail f))

  from_to_list_at : (m : ℕ) (f : Series K) → Below R m f → (n : ℕ) → from_list R (to_list m f) n ≡ f n
  from_to_list_at zero f b n = sym (b n (omega arith))
  from_to_list_at (suc m) f b zero = refl
  from_to_list_at (suc m) f b (suc n) = from_to_list_at m (tail f) (λ k h. b (suc k) (omega arith)) n

  -- a polynomial of degree below m is that of its first m coefficients
  pub from_to_list : (m : ℕ) (f : Series K) → Below R m f → from_list R (to_list m f) ≡ f
  from_to_list m f b = fun_ext (from_to_list_at m f b)

  -- every root of degree below m is listed
  pub listed : (l m : ℕ) (Q : Bivariate K) (ws : List (List K)) (f : Series K)
      → ListsRoots R l m Q ws
      → Below R m f
      → Root R l Q f
      → Member (to_list m f) ws
  listed l m Q ws f r b e =
      r.whole (to_list m f) (length_to_list m f) (subst (Root R l Q) (sym (from_to_list m f b)) e)

  pub distinct_listed : (l m : ℕ) (Q : Bivariate K) (ws : List (List K))
      → ListsRoots R l m Q ws
      → Separate (length ws) (λ i. from_list R (get_or ws i []))
  distinct_listed l m Q ws r i j p q e =
      separate_members
      ws
      []
      r.once
      i
      j
      p
      q
      (from_list_injective
      (get_or ws i [])
      (get_or ws j [])
      (r.long (get_or ws i []) (member_at ws i [] p) ∙ sym (r.long (get_or ws j []) (member_at ws j [] q)))
      e)
