-- The word that was written and the words that were listed, as an answer holds them.
use Rattle.std.proofs.Common.{◌≡◌, ℕ, ◌+◌, ◌*◌, ◌<◌, ◌≤◌, List, length, take, sym, ap, ◌∙◌, subst, ap₂, subst₂, add-mul, mul-le-mul, one-mul, arith}
use Rattle.code.specs.Codes.{WordOf, Written}
use Rattle.code.specs.Listing.{Nearby, Listed, Tested, Decoded, polynomial_in}
use Rattle.code.proofs.ListedWords.{words_listed, words_fit}
use Rattle.field.specs.Meaning.{Meaning}
use Rattle.plan.specs.declared.Plan.{Plan}
use Rattle.console.specs.Spaced.{words_of}
use Rattle.console.specs.States.{Candidates}
use Rattle.console.specs.declared.word.Word.{Word}
use Rattle.console.specs.declared.words.Words.{Words}

pub word_out : (p : Plan) (m : Meaning) (content before after : List ℕ) (w : Word) (n : ℕ) → Written p m content before after → w.letters ≡ after → w.n ≡ n → n ≡ p.n → WordOf p m content (take w.n w.letters)
word_out p m content before after w n written same length whole =
    subst₂ (λ (k : ℕ) (xs : List ℕ). WordOf p m content (take k xs)) (sym (length ∙ whole)) (sym same) written.word

-- a word before the last lies inside the list
pub word_inside : (i count n : ℕ) → i < count → count * n ≤ 448 → i * n + n ≤ 448
word_inside i count n h fit =
    let up : (i + 1) * n ≡ i * n + 1 * n = add-mul i 1 n in
    let o : 1 * n ≡ n = one-mul n in
    let m : (i + 1) * n ≤ count * n = mul-le-mul {n₁ = i + 1} {m₁ = n} {n₂ = count} {m₂ = n} (omega arith) (omega arith) in
    omega arith

module _ (p : Plan) (m : Meaning) (heard list list' : List ℕ) where
  pub words_inside : (count n : ℕ) → Listed p m heard list list' count → n ≡ p.n → length list' ≡ 448 → count * n ≤ 448
  words_inside count n listed whole long =
      subst₂ (λ k l. count * k ≤ l) (sym whole) long (words_fit p m heard list list' count listed)

  pub words_out : (count n : ℕ) → Listed p m heard list list' count → (ws : Words) → ws.list ≡ list' → ws.n ≡ n → n ≡ p.n → ws.count ≡ count → Nearby p m heard (words_of ws.n ws.count ws.list)
  words_out count n listed ws same length whole many =
      subst (Nearby p m heard) (sym (read ∙ words_listed p m heard list list' count listed)) listed.nearby
    where
      read : words_of ws.n ws.count ws.list ≡ words_of p.n count list'
      read = ap (λ k. words_of k ws.count ws.list) (length ∙ whole) ∙ ap₂ (λ c xs. words_of p.n c xs) many same

  pub candidates_out : (workspace workspace' : List ℕ) (count tested : ℕ) → Decoded p m heard list list' workspace workspace' count tested → (ws : Words) → ws.tested ≡ tested → Candidates p m heard ws.tested
  candidates_out workspace workspace' count tested decoded ws same =
      let Q = polynomial_in p m decoded.law workspace' in
      record { law = decoded.law; Q = Q; polynomial = decoded.polynomial; roots = subst (Tested p m decoded.law Q) (sym same) decoded.candidates }
