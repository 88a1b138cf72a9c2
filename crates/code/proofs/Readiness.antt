-- What is refused before words are listed, in which order, and what is known where nothing is.
use Rattle.std.proofs.Common.{◌≡◌, ℕ, ◌-◌, ◌*◌, ◌≤◌, Bool, true, false, cond, ltb, List, length, Some, None, Option, sym, refl, ap, ◌∙◌, subst, inl, inr, arith}
use Rattle.std.proofs.lemmas.Bool.{cases_lt, ltb-true, ltb-false}
use Rattle.fault.specs.First.{First, Judged}
use Rattle.field.specs.Meaning.{Meaning}
use Rattle.plan.specs.declared.Plan.{Plan}
use Rattle.code.specs.declared.refusal.CodeFault.{CodeFault}
use Rattle.code.specs.declared.refusal.CodeFault.TheVariants.{Field, Shape, Length, Letter, Content, Room, Workspace}
use Rattle.code.specs.Faults.{refusal_of, ReadFails, ListFails, space_fault}
use Rattle.code.proofs.Order.{first_field, first_length, first_letter, first_room, first_workspace, no_fault}
use Rattle.code.proofs.Reading.{same_size, same_length}

module _ (p : Plan) (m : Meaning) (heard : List ℕ) (room space : ℕ) where
  abbrev Fails : CodeFault → Type 0
  Fails = ListFails p m heard room space

  -- what is refused in reading the word is refused in listing
  refused : (f : CodeFault) → First refusal_of (ReadFails p m p.n heard) (Some f) → Judged refusal_of Fails (Some f)
  refused Field h = first_field Fails h.0
  refused Shape h = absurd h.0
  refused Length h = first_length Fails (h.1 Field (inl (omega arith))) (λ z. z) h.0
  refused (Letter i) h = first_letter Fails (h.1 Field (inl (omega arith))) (λ z. z) (h.1 Length (inl (omega arith))) i h.0 (λ j l. h.1 (Letter j) (inr (refl, l)))
  refused Content h = absurd h.0
  refused Room h = absurd h.0
  refused Workspace h = absurd h.0

  pub word_refused : (n : ℕ) → n ≡ p.n → (f : CodeFault) → Judged refusal_of (ReadFails p m n heard) (Some f) → Judged refusal_of Fails (Some f)
  word_refused n e f j = refused f (subst (λ x. First refusal_of (ReadFails p m x heard) (Some f)) e j.first)

  module _ (n : ℕ) (e : n ≡ p.n) (read : Judged refusal_of (ReadFails p m n heard) None) where
    good : First refusal_of (ReadFails p m p.n heard) None
    good = subst (λ x. First refusal_of (ReadFails p m x heard) None) e read.first

    last : (r s : Bool) → r ≡ ltb room ((p.l - 1) * p.n) → s ≡ ltb space 32768 → Judged refusal_of Fails (cond r (Some Room) (cond s (Some Workspace) None))
    last true s q u = first_room Fails (good Field) (λ z. z) (good Length) (λ i. good (Letter i)) (λ z. z) (ltb-true room ((p.l - 1) * p.n) (sym q))
    last false true q u =
        first_workspace Fails (good Field) (λ z. z) (good Length) (λ i. good (Letter i)) (λ z. z) (λ h. omega (arith, ltb-false room ((p.l - 1) * p.n) (sym q))) (ltb-true space 32768 (sym u))
    last false false q u =
        no_fault
        Fails
        (good Field)
        (λ z. z)
        (good Length)
        (λ i. good (Letter i))
        (λ z. z)
        (λ h. omega (arith, ltb-false room ((p.l - 1) * p.n) (sym q)))
        (λ h. omega (arith, ltb-false space 32768 (sym u)))

    pub last_judged : (wanted : ℕ) → wanted ≡ (p.l - 1) * p.n → (o : Option CodeFault) → o ≡ space_fault room wanted space → Judged refusal_of Fails o
    last_judged wanted q o r =
        subst
        (Judged refusal_of Fails)
        (sym (r ∙ ap (λ w. space_fault room w space) q))
        (last (ltb room ((p.l - 1) * p.n)) (ltb space 32768) refl refl)

  module _ (good : First refusal_of Fails None) where
    reads : First refusal_of (ReadFails p m p.n heard) None
    reads Field = good Field
    reads Shape = good Shape
    reads Length = good Length
    reads (Letter i) = good (Letter i)
    reads Content = good Content
    reads Room = λ z. z
    reads Workspace = λ z. z

    pub ready_size : p.size ≡ m.size
    ready_size = same_size p m p.n heard reads

    pub ready_length : length heard ≡ p.n
    ready_length = same_length p m p.n heard reads

    pub ready_room : (p.l - 1) * p.n ≤ room
    ready_room = elim (cases_lt room ((p.l - 1) * p.n)) [ inl h ↦ absurd (good Room h) | inr h ↦ h ]

    pub ready_workspace : 32768 ≤ space
    ready_workspace = elim (cases_lt space 32768) [ inl h ↦ absurd (good Workspace h) | inr h ↦ h ]
