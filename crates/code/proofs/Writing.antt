-- What is refused when a word is written, in which order, and what is written where nothing is.
use Rattle.std.proofs.Common.{◌≡◌, ℕ, ◌-◌, ◌≤◌, Bool, true, false, cond, ltb, List, ◌++◌, length, take, drop, Some, None, Decides, Option, sym, refl, ap, ◌∙◌, subst, inl, inr, arith}
use Rattle.std.proofs.lemmas.List.{take_at, drop_at}
use Rattle.std.proofs.lemmas.Bool.{ltb-true, ltb-false}
use Rattle.std.proofs.lemmas.Bool.Decides.{not_from_Decides}
use Rattle.fault.specs.First.{First, Judged}
use Rattle.field.specs.Meaning.{Meaning}
use Rattle.plan.specs.declared.Plan.{Plan}
use Rattle.code.specs.declared.refusal.CodeFault.{CodeFault}
use Rattle.code.specs.declared.refusal.CodeFault.TheVariants.{Field, Shape, Length, Letter, Content, Room, Workspace}
use Rattle.code.specs.Codes.{Letters, InCode, content_of, WordOf, Written}
use Rattle.code.specs.Extension.{Extends, last_fault}
use Rattle.code.specs.Faults.{refusal_of, ReadFails, WriteFails}
use Rattle.code.proofs.Order.{first_field, first_length, first_letter, first_content, first_room, no_fault}
use Rattle.code.proofs.Reading.{same_length, letters}
use Rattle.code.proofs.Membership.{one, word_of}

module _ (p : Plan) (m : Meaning) (content : List ℕ) (room : ℕ) where
  -- what is refused in reading the content is refused in writing
  refused : (f : CodeFault) → First refusal_of (ReadFails p m (p.n - p.t) content) (Some f) → Judged refusal_of (WriteFails p m content room) (Some f)
  refused Field h = first_field (WriteFails p m content room) h.0
  refused Shape h = absurd h.0
  refused Length h = first_length (WriteFails p m content room) (h.1 Field (inl (omega arith))) (λ z. z) h.0
  refused (Letter i) h = first_letter (WriteFails p m content room) (h.1 Field (inl (omega arith))) (λ z. z) (h.1 Length (inl (omega arith))) i h.0 (λ j l. h.1 (Letter j) (inr (refl, l)))
  refused Content h = absurd h.0
  refused Room h = absurd h.0
  refused Workspace h = absurd h.0

  pub content_refused : (k : ℕ) → k ≡ p.n - p.t → (f : CodeFault) → Judged refusal_of (ReadFails p m k content) (Some f) → Judged refusal_of (WriteFails p m content room) (Some f)
  content_refused k e f j = refused f (subst (λ x. First refusal_of (ReadFails p m x content) (Some f)) e j.first)

  module _ (k : ℕ) (e : k ≡ p.n - p.t) (read : Judged refusal_of (ReadFails p m k content) None) where
    good : First refusal_of (ReadFails p m (p.n - p.t) content) None
    good = subst (λ x. First refusal_of (ReadFails p m x content) None) e read.first

    pub content_read : (length content ≡ p.n - p.t) × Letters m content
    content_read = (same_length p m (p.n - p.t) content good, letters p m (p.n - p.t) content good)

    module _ (xs : List ℕ) (ext : Extends p m content xs) (b : Bool) (whole : Decides b (Letters m xs)) where
      no_word : b ≡ false → (w : List ℕ) → InCode p m w → content_of p w ≡ content → ⊥
      no_word f w i q = not_from_Decides b whole f (subst (Letters m) (one p m content xs ext w i q) i.letters)

      a_word : b ≡ true → ((w : List ℕ) → InCode p m w → content_of p w ≡ content → ⊥) → ⊥
      a_word t h = let w = word_of p m content xs ext (whole.0 t) in h xs w.member w.begins

      -- the faults that are found last
      last : (b' t : Bool) → b' ≡ b → t ≡ ltb room p.n → Judged refusal_of (WriteFails p m content room) (cond b' (cond t (Some Room) None) (Some Content))
      last false t q u = first_content (WriteFails p m content room) (good Field) (λ z. z) (good Length) (λ i. good (Letter i)) (no_word (sym q))
      last true true q u = first_room (WriteFails p m content room) (good Field) (λ z. z) (good Length) (λ i. good (Letter i)) (a_word (sym q)) (ltb-true room p.n (sym u))
      last true false q u = no_fault (WriteFails p m content room) (good Field) (λ z. z) (good Length) (λ i. good (Letter i)) (a_word (sym q)) (λ h. omega (arith, ltb-false room p.n (sym u))) (λ z. z)

      pub last_judged : (n : ℕ) → n ≡ p.n → (o : Option CodeFault) → o ≡ last_fault b room n → Judged refusal_of (WriteFails p m content room) o
      last_judged n q o r = subst (Judged refusal_of (WriteFails p m content room)) (sym (r ∙ ap (λ x. last_fault b room x) q)) (last b (ltb room p.n) refl refl)

      none_left : (b' t : Bool) → ◌≡◌ {A = Option CodeFault} None (cond b' (cond t (Some Room) None) (Some Content)) → (b' ≡ true) × (t ≡ false)
      none_left false t q = let z : ◌≡◌ {A = ℕ} 0 1 = cc in absurd (omega arith)
      none_left true true q = let z : ◌≡◌ {A = ℕ} 0 1 = cc in absurd (omega arith)
      none_left true false q = (refl, refl)

      pub last_word : (n : ℕ) → n ≡ p.n → None ≡ last_fault b room n → (p.n ≤ room) × WordOf p m content xs
      last_word n q r =
          let s = none_left b (ltb room n) r in
          (omega (arith, ltb-false room n s.1), word_of p m content xs ext (whole.0 s.0))

-- the word in front of what stood in the place
pub put : (p : Plan) (m : Meaning) (content word place after : List ℕ)
    → WordOf p m content (take p.n word)
    → after ≡ take p.n word ++ drop p.n place
    → Written p m content place after
put p m content word place after w e =
    let l : length (take p.n word) ≡ p.n = w.member.long in
    record {
      word = subst (WordOf p m content) (sym (ap (take p.n) e ∙ take_at (take p.n word) (drop p.n place) p.n l)) w;
      rest = ap (drop p.n) e ∙ drop_at (take p.n word) (drop p.n place) p.n l;
    }
