-- A word is in the code exactly if its content extends to it.
use Rattle.std.proofs.Common.{◌≡◌, ℕ, ◌-◌, ◌<◌, Bool, List, length, take, None, Decides, sym, ap, subst, arith}
use Rattle.std.proofs.lemmas.List.{length-take-le, get_or-take}
use Rattle.fault.specs.First.{First}
use Rattle.field.specs.Meaning.{Meaning}
use Rattle.plan.specs.declared.Plan.{Plan}
use Rattle.code.specs.Codes.{Letters, InCode, content_of, WordOf}
use Rattle.code.specs.Extension.{Extends}
use Rattle.code.specs.Faults.{refusal_of, CheckFails}
use Rattle.code.proofs.Reading.{same_length, letters}

module _ (p : Plan) (m : Meaning) where
  -- what has the code's form and is made of letters is in the code
  pub member : (content e : List ℕ) → Extends p m content e → Letters m e → InCode p m e
  member content e x l = record { long = x.long; letters = l; evaluation = x.evaluation }

  -- a word of the code that begins with the content is what the content extends to
  pub one : (content e : List ℕ) → Extends p m content e → (w : List ℕ) → InCode p m w → content_of p w ≡ content → w ≡ e
  one content e x w i b = x.only w i.evaluation.0 i.long i.evaluation.1 b

  pub word_of : (content e : List ℕ) → Extends p m content e → Letters m e → WordOf p m content e
  word_of content e x l = record { member = member content e x l; begins = x.begins; only = one content e x }

  module _ (word : List ℕ) (good : First refusal_of (CheckFails p m word) None) where
    pub long_enough : (k : ℕ) → k ≡ p.n - p.t → k ≡ length (take k word)
    long_enough k e = sym (length-take-le k word (omega (arith, same_length p m p.n word good)))

    -- the content as a part of the word
    part : (k : ℕ) → k ≡ p.n - p.t → take k word ≡ content_of p word
    part k e = ap (λ x. take x word) e

    content_read : (length (content_of p word) ≡ p.n - p.t) × Letters m (content_of p word)
    content_read =
        let n = same_length p m p.n word good in
        let k = length-take-le (p.n - p.t) word (omega arith) in (
          k,
          λ i h.
              let l : i < p.n - p.t = omega arith in
              let j : i < length word = omega arith in
              let e = get_or-take (p.n - p.t) word i 0 l in
              let q = letters p m p.n word good i j in
              (omega (arith, e, q.0), omega (arith, e, q.1)),
        )

    pub part_read : (k : ℕ) → k ≡ p.n - p.t → (length (take k word) ≡ p.n - p.t) × Letters m (take k word)
    part_read k e = subst (λ xs. (length xs ≡ p.n - p.t) × Letters m xs) (sym (part k e)) content_read

    pub decides : (k : ℕ) → k ≡ p.n - p.t → (e : List ℕ) (b : Bool) → Extends p m (take k word) e → Decides b (e ≡ word) → Decides b (InCode p m word)
    decides k q e b x d = (λ t. subst (InCode p m) (d.0 t) (member _ e x (subst (Letters m) (sym (d.0 t)) (letters p m p.n word good))), λ i. d.1 (sym (one _ e x word i (sym (part k q)))))
