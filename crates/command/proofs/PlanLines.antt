-- What reading the words of a plan shows of the line.
use Rattle.std.proofs.Common.{◌≡◌, ℕ, zero, suc, ◌+◌, ◌-◌, ◌<◌, List, [], ◌∷◌, length, get_or, take, drop, ◌≤◌, Some, Err, Result, IsErrAnd, sym, refl, ap, ap₂, ◌∙◌, subst, arith, length-drop, take_all, Bor}
use native.Mathlib.Decide.{dec_lt}
use Rattle.std.proofs.lemmas.List.{take-map, drop-map, drop-drop}
use Rattle.plan.specs.declared.asked.Parameters.{Parameters}
use Rattle.command.specs.Lines.{texts, FirstSlash}
use Rattle.command.specs.Runs.{Writes, WritesNone, SixNumbers, NoNumber, Elements, Listed, PlanLine, RanPlan}
use Rattle.console.specs.declared.answer.Answer.{Answer}
use Rattle.console.specs.declared.answer.Trouble.{Trouble}
use Rattle.command.proofs.Arms.{read, not_a_number}
use Rattle.command.proofs.WordTexts.{text_at}
use Rattle.console.specs.declared.answer.Trouble.TheVariants.{Unknown, Number, NoField, Memory}
use Rattle.console.specs.declared.state.Console.{Console}

-- the texts of a part of the words
pub texts_part : (n k : ℕ) (words : List (Bor (List ℕ))) → texts (take n (drop k words)) ≡ take n (drop k (texts words))
texts_part n k words = sym (take-map (λ w. w.now) n (drop k words)) ∙ ap (take n) (sym (drop-map (λ w. w.now) k words))

pub texts_rest : (k : ℕ) (words : List (Bor (List ℕ))) → texts (take (length words - k) (drop k words)) ≡ drop k (texts words)
texts_rest k words = ap texts (take_all (length words - k) (drop k words) (simp length-drop (omega arith))) ∙ sym (drop-map (λ w. w.now) k words)

-- no line is written where a number is wanting
pub no_six : (ws : List (List ℕ)) → NoNumber ws → (asked : Parameters) (α β : List ℕ) → PlanLine ws asked α β → ⊥
no_six ws bad asked α β line = bad.2 (line.six.1 bad.0 bad.1).0

pub no_elements : (ws : List (List ℕ)) → ((i : ℕ) × (i < length ws) × WritesNone 16 (get_or ws i [])) → (xs : List ℕ) → Elements ws xs → ⊥
no_elements ws bad xs h = bad.2 (h.1 bad.0 bad.1).0

-- the second slash is one only
same_slash : (ws : List (List ℕ)) (j k : ℕ) → FirstSlash ws 8 (Some j) → FirstSlash ws 8 (Some k) → j ≡ k
same_slash ws j k p q = go (dec_lt j k) (dec_lt k j)
  where
    go : Dec (j < k) → Dec (k < j) → j ≡ k
    go (yes h) d = absurd (q.2 j p.0 h p.1)
    go (no h) (yes l) = absurd (p.2 k q.0 l q.1)
    go (no h) (no l) = omega arith

module _ (ws : List (List ℕ)) (j : ℕ) (first : FirstSlash ws 8 (Some j)) where
  pub no_support : ((i : ℕ) × (i < length (take (j - 8) (drop 8 ws))) × WritesNone 16 (get_or (take (j - 8) (drop 8 ws)) i [])) → (asked : Parameters) (α β : List ℕ) → PlanLine ws asked α β → ⊥
  no_support bad asked α β line =
      no_elements (take (j - 8) (drop 8 ws)) bad α (subst (λ n. Elements (take (n - 8) (drop 8 ws)) α) (same_slash ws line.slash j line.second first) line.supported)

  pub no_multipliers : ((i : ℕ) × (i < length (drop (j + 1) ws)) × WritesNone 16 (get_or (drop (j + 1) ws) i [])) → (asked : Parameters) (α β : List ℕ) → PlanLine ws asked α β → ⊥
  no_multipliers bad asked α β line =
      no_elements (drop (j + 1) ws) bad β (subst (λ n. Elements (drop (n + 1) ws) β) (same_slash ws line.slash j line.second first) line.multiplied)

module _ (words : List (Bor (List ℕ))) (j : ℕ) (long : 8 ≤ length words) where
  -- the words of a plan's line after the first slash
  abbrev pub lists : List (Bor (List ℕ))
  lists = take (length words - 8) (drop 8 words)

  whole : lists ≡ drop 8 words
  whole = take_all (length words - 8) (drop 8 words) (simp length-drop (omega arith))

  pub texts_of_lists : texts lists ≡ drop 8 (texts words)
  texts_of_lists = texts_rest 8 words

  pub texts_of_support : texts (take j lists) ≡ take ((8 + j) - 8) (drop 8 (texts words))
  texts_of_support =
      let n : j ≡ (8 + j) - 8 = omega arith in
      ap₂ (λ k xs. texts (take k xs)) n whole ∙ texts_part ((8 + j) - 8) 8 words

  pub texts_of_multipliers : texts (take (length lists - (j + 1)) (drop (j + 1) lists)) ≡ drop ((8 + j) + 1) (texts words)
  texts_of_multipliers =
      let n : 8 + (j + 1) ≡ (8 + j) + 1 = omega arith in
      texts_rest (j + 1) lists ∙ ap (drop (j + 1)) texts_of_lists ∙ drop-drop (j + 1) 8 (texts words) ∙ ap (λ k. drop k (texts words)) n

-- a number that is wanting leaves the console as it was
pub no_number : (words : List (Bor (List ℕ))) (s : Console) (r : Result Answer Trouble) (i : ℕ) → i < 6 → WritesNone 64 (read words (i + 1)) → IsErrAnd r (λ t. t ≡ Number) → RanPlan (texts words) s r s
no_number words s r i l none h =
    subst (λ x. RanPlan (texts words) s x s) (sym (not_a_number r h)) (refl, no_six (texts words) (i, l, subst (WritesNone 64) (sym (text_at words (i + 1))) none))

-- six words that write the numbers
pub six_numbers : (words : List (Bor (List ℕ))) (size n t w k l : ℕ) → Writes 64 (read words 1) size → Writes 64 (read words 2) n → Writes 64 (read words 3) t → Writes 64 (read words 4) w → Writes 64 (read words 5) k → Writes 64 (read words 6) l → SixNumbers (texts words) (size ∷ n ∷ t ∷ w ∷ k ∷ l ∷ [])
six_numbers words size n t w k l h₁ h₂ h₃ h₄ h₅ h₆ = (refl, at)
  where
    as_text : (i x : ℕ) → Writes 64 (read words i) x → Writes 64 (get_or (texts words) i []) x
    as_text i x h = subst (λ t. Writes 64 t x) (sym (text_at words i)) h

    at : (i : ℕ) → i < 6 → Writes 64 (get_or (texts words) (i + 1) []) (get_or (size ∷ n ∷ t ∷ w ∷ k ∷ l ∷ []) i 0)
    at zero _ = as_text 1 size h₁
    at (suc zero) _ = as_text 2 n h₂
    at (suc (suc zero)) _ = as_text 3 t h₃
    at (suc (suc (suc zero))) _ = as_text 4 w h₄
    at (suc (suc (suc (suc zero)))) _ = as_text 5 k h₅
    at (suc (suc (suc (suc (suc zero))))) _ = as_text 6 l h₆
    at (suc (suc (suc (suc (suc (suc i)))))) b = absurd (omega (arith, b))

-- a list that is not read leaves the console as it was, with the same error
pub not_listed : (part ws : List (List ℕ)) (s : Console) (t : Trouble) → Listed part (Err t) → (((i : ℕ) × (i < length part) × WritesNone 16 (get_or part i [])) → (asked : Parameters) (α β : List ℕ) → PlanLine ws asked α β → ⊥) → RanPlan ws s (Err t) s
not_listed part ws s Unknown h none = h
not_listed part ws s Number h none = (refl, none h)
not_listed part ws s NoField h none = h
not_listed part ws s Memory h none = refl
