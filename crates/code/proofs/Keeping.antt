-- The steps of the loop that keeps the words near the word heard.
use Rattle.std.proofs.Common.{◌≡◌, ℕ, ◌+◌, ◌<◌, ◌≤◌, List, [], ◌∷◌, ◌++◌, length, sym, ap, ◌∙◌, subst, inl, inr, ⊎_elim, arith, length-append}
use Rattle.std.proofs.lemmas.Bool.{cases_eq}
use Rattle.algebra.specs.Members.{Member, NoRepetition}
use Rattle.algebra.proofs.ListMembers.{member_left, member_last, member_append, no_repetition_append}
use Rattle.field.specs.Meaning.{Meaning}
use Rattle.plan.specs.declared.Plan.{Plan}
use Rattle.code.specs.Decoding.{Near, candidate_of, Kept}

module _ (p : Plan) (m : Meaning) (heard : List ℕ) (cs : List (List ℕ)) where
  -- the word of candidate i
  abbrev word : ℕ → List ℕ
  word i = candidate_of p m cs i

  pub kept_none : Kept p m heard cs 0 []
  kept_none =
      record {
        sound = λ w h. absurd h;
        whole = λ i h. absurd (omega arith);
        few = omega arith;
        once = λ d. tt;
      }

  module _ (i : ℕ) (ws : List (List ℕ)) (k : Kept p m heard cs i ws) where
    -- one that is near comes to the others
    pub kept_more : Near p m heard (word i) → Kept p m heard cs (i + 1) (ws ++ (word i ∷ []))
    kept_more near =
        record {
          sound = λ w h. ⊎_elim (old w) (new w) (member_append w ws (word i ∷ []) h);
          whole = whole;
          few = let e = length-append ws (word i ∷ []) in let f = k.few in omega arith;
          once = once;
        }
      where
        old : (w : List ℕ) → Member w ws → Near p m heard w × ((j : ℕ) × (j < i + 1) × (w ≡ word j))
        old w h = let s = k.sound w h in (s.0, (s.1.0, let l : s.1.0 < i = s.1.1 in omega arith, s.1.2))

        new : (w : List ℕ) → Member w (word i ∷ []) → Near p m heard w × ((j : ℕ) × (j < i + 1) × (w ≡ word j))
        new w (inl e) = (subst (Near p m heard) (sym e) near, (i, omega arith, e))
        new w (inr h) = absurd h

        whole : (j : ℕ) → j < i + 1 → Near p m heard (word j) → Member (word j) (ws ++ (word i ∷ []))
        whole j h n =
            ⊎_elim
            (λ e. subst (λ x. Member (word x) (ws ++ (word i ∷ []))) (sym e) (member_last (word i) ws))
            (λ e. member_left (word j) ws (word i ∷ []) (k.whole j (omega arith) n))
            (cases_eq j i)

        once : ((a b : ℕ) → a < b → b < i + 1 → word a ≡ word b → ⊥) → NoRepetition (ws ++ (word i ∷ []))
        once d =
            no_repetition_append
            ws
            (word i ∷ [])
            (k.once (λ a b l h. d a b l (omega arith)))
            (λ h. h, tt)
            (λ w h t. apart w h t)
          where
            apart : (w : List ℕ) → Member w ws → Member w (word i ∷ []) → ⊥
            apart w h (inl e) = let s = k.sound w h in d s.1.0 i s.1.1 (omega arith) (sym s.1.2 ∙ e)
            apart w h (inr t) = t

    -- one that is not near is left out
    pub kept_less : (Near p m heard (word i) → ⊥) → Kept p m heard cs (i + 1) ws
    kept_less far =
        record {
          sound = λ w h. let s = k.sound w h in (s.0, (s.1.0, let l : s.1.0 < i = s.1.1 in omega arith, s.1.2));
          whole =
              λ j h n.
              ⊎_elim
              (λ e. absurd (far (subst (λ x. Near p m heard (word x)) e n)))
              (λ e. k.whole j (omega arith) n)
              (cases_eq j i);
          few = let f = k.few in omega arith;
          once = λ d. k.once (λ a b l h. d a b l (omega arith));
        }

-- the words kept of the candidates before i
unfoldable pub Keeping : Plan → Meaning → List ℕ → List (List ℕ) → ℕ → List (List ℕ) → Type 0
Keeping p m heard cs i ws = Kept p m heard cs i ws

module _ (p : Plan) (m : Meaning) (heard : List ℕ) (cs : List (List ℕ)) where
  pub keeping_none : Keeping p m heard cs 0 []
  unfolding Keeping
  keeping_none = kept_none p m heard cs

  -- there are no more words than candidates
  pub keeping_room : (i : ℕ) (ws : List (List ℕ)) → Keeping p m heard cs i ws → i < length cs → length cs ≤ 7 → length ws < 7
  unfolding Keeping
  keeping_room i ws k h l = let few : length ws ≤ i = k.few in omega arith

  pub keeping_more : (i : ℕ) (ws next : List (List ℕ)) (w : List ℕ)
      → Keeping p m heard cs i ws
      → w ≡ candidate_of p m cs i
      → Near p m heard w
      → next ≡ ws ++ w ∷ []
      → Keeping p m heard cs (i + 1) next
  unfolding Keeping
  keeping_more i ws next w k e near is =
      subst
      (Kept p m heard cs (i + 1))
      (ap (λ v. ws ++ (v ∷ [])) (sym e) ∙ sym is)
      (kept_more p m heard cs i ws k (subst (Near p m heard) e near))

  pub keeping_less : (i : ℕ) (ws next : List (List ℕ)) (w : List ℕ)
      → Keeping p m heard cs i ws
      → w ≡ candidate_of p m cs i
      → (Near p m heard w → ⊥)
      → next ≡ ws
      → Keeping p m heard cs (i + 1) next
  unfolding Keeping
  keeping_less i ws next w k e far is =
      subst (Kept p m heard cs (i + 1)) (sym is) (kept_less p m heard cs i ws k (λ n. far (subst (Near p m heard) (sym e) n)))

  pub keeping_all : (i : ℕ) (ws : List (List ℕ)) → length cs ≤ i → i ≤ length cs → Keeping p m heard cs i ws → Kept p m heard cs (length cs) ws
  unfolding Keeping
  keeping_all i ws h l k = let e : i ≡ length cs = omega arith in subst (λ j. Kept p m heard cs j ws) e k
