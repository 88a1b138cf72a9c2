-- What the arms of a line's match show of the line.
use Rattle.std.proofs.Common.{◌≡◌, ℕ, ◌<◌, ◌-◌, true, false, List, length, take, drop, codes, vec_items, Vec, Ok, Err, Result, IsErrAnd, refl, sym, subst, ◌∙◌, ap, inl, inr, Bor}
use Rattle.std.proofs.lemmas.Result.{err_from_is_err_and}
use Rattle.std.proofs.lemmas.Slice.Eq.{bytes_eq-Decides}
use Rattle.std.specs.Str.{bytes_eq}
use Rattle.std.specs.declared.alloc.Global.{Global}
use Rattle.command.specs.Lines.{texts, Word, Spells, InField, Verb, Prime, BinaryTwo, BinaryAll, Sum, Negative, Product, Inverse, Plan, Check, Write, ListWords}
use Rattle.command.specs.Runs.{Listed, Ran, RanAmong, RanWord}
use Rattle.command.proofs.Arms.{read, word_read}
use Rattle.command.proofs.PlanLines.{texts_rest, no_elements}
use Rattle.command.proofs.WordTexts.{length_texts}
use Rattle.console.specs.declared.answer.Answer.{Answer}
use Rattle.console.specs.declared.answer.Trouble.{Trouble}
use Rattle.console.specs.declared.answer.Trouble.TheVariants.{Unknown, Number, NoField, Memory}
use Rattle.console.specs.declared.state.Console.{Console}

module _ (P : List ℕ → Result Answer Trouble → Type 0) (words : List (Bor (List ℕ))) where
  -- the words after the first are read as numbers
  pub list_read : (v : Vec ℕ Global) (xs : List ℕ) (r : Result Answer Trouble) → Listed (texts (take (length words - 1) (drop 1 words))) (Ok v) → xs ≡ vec_items v → P xs r → RanWord P (texts words) r
  list_read v xs r told same h =
      inl (vec_items v, subst (λ ws. Listed ws (Ok v)) (texts_rest 1 words) told, subst (λ ys. P ys r) same h)

  -- the words after the first are not read
  pub list_not_read : (t : Trouble) (r : Result Answer Trouble) → Listed (texts (take (length words - 1) (drop 1 words))) (Err t) → IsErrAnd r (λ u. u ≡ t) → RanWord P (texts words) r
  list_not_read t r told h =
      let p = err_from_is_err_and r h in
      go t (subst (λ ws. Listed ws (Err t)) (texts_rest 1 words) told) (p.1 ∙ ap Err p.2)
    where
      go : (u : Trouble) → Listed (drop 1 (texts words)) (Err u) → r ≡ Err u → RanWord P (texts words) r
      go Unknown never e = absurd never
      go Number bad e = inr (inl (e, no_elements (drop 1 (texts words)) bad))
      go NoField never e = absurd never
      go Memory _ e = inr (inr e)

module _ (ws : List (List ℕ)) (before : Console) (r : Result Answer Trouble) (after : Console) where
  other_word : (a b : List ℕ) → bytes_eq a b ≡ false → Word ws 0 a → Word ws 0 b → ⊥
  other_word a b unlike v w =
      let same : bytes_eq a b ≡ true = (bytes_eq-Decides a b).1 (sym v.1 ∙ w.1) in
      let both : true ≡ false = sym same ∙ unlike in
      cc

  pub ran_plan : Word ws 0 (codes "plan") → RanAmong (λ v. v ≡ Plan) ws before r after → Ran ws before r after
  ran_plan first h = elim h [
    | inl x ↦ inl (x.0, x.2, x.3)
    | inr y ↦ inr (none y.0, y.1, y.2)
  ]
    where
      none : ((v : Verb) → v ≡ Plan → Spells v ws → ⊥) → (v : Verb) → Spells v ws → ⊥
      none never Prime s = other_word _ _ refl first s.1
      none never BinaryTwo s = other_word _ _ refl first s.1
      none never BinaryAll s = other_word _ _ refl first s.1
      none never Sum s = other_word _ _ refl first s.1
      none never Negative s = other_word _ _ refl first s.1
      none never Product s = other_word _ _ refl first s.1
      none never Inverse s = other_word _ _ refl first s.1
      none never Plan s = never Plan refl s
      none never Check s = other_word _ _ refl first s
      none never Write s = other_word _ _ refl first s
      none never ListWords s = other_word _ _ refl first s

module _ (words : List (Bor (List ℕ))) (before : Console) (r : Result Answer Trouble) (after : Console) where
  pub ran_in_field : (0 < length words → read words 0 ≡ codes "plan" → ⊥) → (0 < length words → read words 0 ≡ codes "check" → ⊥) → (0 < length words → read words 0 ≡ codes "write" → ⊥) → (0 < length words → read words 0 ≡ codes "list" → ⊥) → RanAmong InField (texts words) before r after → Ran (texts words) before r after
  ran_in_field plan check write list h = elim h [
    | inl x ↦ inl (x.0, x.2, x.3)
    | inr y ↦ inr (none y.0, y.1, y.2)
  ]
    where
      not : (text : List ℕ) → (0 < length words → read words 0 ≡ text → ⊥) → Word (texts words) 0 text → ⊥
      not text differs w = differs (subst (λ n. 0 < n) (length_texts words) w.0) (word_read words 0 text w)

      none : ((v : Verb) → InField v → Spells v (texts words) → ⊥) → (v : Verb) → Spells v (texts words) → ⊥
      none never Plan s = not _ plan s.0
      none never Check s = not _ check s
      none never Write s = not _ write s
      none never ListWords s = not _ list s
      none never Prime s = never Prime tt s
      none never BinaryTwo s = never BinaryTwo tt s
      none never BinaryAll s = never BinaryAll tt s
      none never Sum s = never Sum tt s
      none never Negative s = never Negative tt s
      none never Product s = never Product tt s
      none never Inverse s = never Inverse tt s
