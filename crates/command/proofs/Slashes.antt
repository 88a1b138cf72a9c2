-- Where the slashes of a line stand.
use Rattle.std.proofs.Common.{◌≡◌, ℕ, ◌+◌, ◌-◌, ◌<◌, ◌≤◌, List, [], length, get_or, drop, Bool, true, false, Some, None, Option, codes, sym, ◌∙◌, subst, arith, Bor, length-drop}
use Rattle.std.specs.List.{position, position_or_len}
use Rattle.std.specs.Str.{bytes_eq}
use Rattle.std.proofs.lemmas.Grind.{common_steps}
use Rattle.std.proofs.lemmas.List.{get_or-drop}
use Rattle.std.proofs.lemmas.List.Quantifiers.{position-Some}
use Rattle.std.proofs.lemmas.List.Sums.{fails_before_first}
use Rattle.std.proofs.lemmas.Slice.Eq.{bytes_eq-Decides}
use Rattle.command.specs.Lines.{texts, Word, FirstSlash}
use Rattle.command.proofs.Arms.{read, has_word, word_read}
use Rattle.command.proofs.WordTexts.{length_texts}

abbrev is_slash : Bor (List ℕ) → Bool
is_slash = λ w. bytes_eq w.now (codes "/")

module _ (words : List (Bor (List ℕ))) where
  not_slash : (i : ℕ) → is_slash (get_or words i (record { ref_ptr = (0, 0); now = [] })) ≡ false → Word (texts words) i (codes "/") → ⊥
  not_slash i unlike w =
      let same : is_slash (get_or words i (record { ref_ptr = (0, 0); now = [] })) ≡ true = (bytes_eq-Decides (read words i) (codes "/")).1 (word_read words i _ w) in
      let both : true ≡ false = sym same ∙ unlike in
      cc

  pub first_slash : (o : Option ℕ) → o ≡ position (λ w. bytes_eq w.now (codes "/")) words → FirstSlash (texts words) 0 o
  first_slash None e = λ i _ w. not_slash i (fails_before_first is_slash words i _ (inside i w.0)) w
    where
      inside : (i : ℕ) → i < length (texts words) → i < position_or_len is_slash words
      inside i h = let l = length_texts words in grind (arith, common_steps)
  first_slash (Some j) e =
      let at = position-Some is_slash words j (record { ref_ptr = (0, 0); now = [] }) (sym e) in
      (omega arith, has_word words j _ at.0 ((bytes_eq-Decides (read words j) (codes "/")).0 at.1), λ i _ l w. not_slash i (at.2 i l) w)

module _ (ws : List (List ℕ)) (k : ℕ) where
  word_past : (j : ℕ) (t : List ℕ) → Word (drop k ws) j t → Word ws (k + j) t
  word_past j t w = (omega (arith, w.0, length-drop k ws), sym (get_or-drop k ws j []) ∙ w.1)

  word_before : (i : ℕ) (t : List ℕ) → k ≤ i → Word ws i t → Word (drop k ws) (i - k) t
  word_before i t h w =
      let e : i ≡ k + (i - k) = omega arith in
      let v : Word ws (k + (i - k)) t = subst (λ n. Word ws n t) e w in
      (omega (arith, v.0, length-drop k ws), get_or-drop k ws (i - k) [] ∙ v.1)

  -- the first slash from word k on, by its place among the words from there on
  pub slash_past : (j : ℕ) → FirstSlash (drop k ws) 0 (Some j) → FirstSlash ws k (Some (k + j))
  slash_past j f = (omega arith, word_past j _ f.1, λ i h l w. f.2 (i - k) (omega arith) (omega arith) (word_before i _ h w))

  pub no_slash_past : FirstSlash (drop k ws) 0 None → FirstSlash ws k None
  no_slash_past f = λ i h w. f (i - k) (omega arith) (word_before i _ h w)
