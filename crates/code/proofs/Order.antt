-- Which fault is the first: the conditions in the order in which they are tried.
use Rattle.std.proofs.Common.{◌≡◌, ℕ, ◌<◌, cond, eqb, Some, None, Option, sym, refl, ap, ◌∙◌, ⊎_elim, arith}
use Rattle.fault.specs.First.{rank, First, Judged}
use Rattle.fault.proofs.Unique as unique
use Rattle.code.specs.declared.refusal.CodeFault.{CodeFault}
use Rattle.code.specs.declared.refusal.CodeFault.TheVariants.{Field, Shape, Length, Letter, Content, Room, Workspace}
use Rattle.code.specs.Faults.{refusal_of}

-- the fault of a number and a place
abbrev fault_of : ℕ → ℕ → CodeFault
fault_of x i = cond (eqb x 20) Field (cond (eqb x 3) Shape (cond (eqb x 10) Length (cond (eqb x 11) (Letter i) (cond (eqb x 12) Content (cond (eqb x 13) Room Workspace)))))

again : (f : CodeFault) → fault_of (refusal_of f).number (refusal_of f).place ≡ f
again Field = refl
again Shape = refl
again Length = refl
again (Letter i) = refl
again Content = refl
again Room = refl
again Workspace = refl

-- a fault is known by its number and place
pub known : (f g : CodeFault) → (refusal_of f).number ≡ (refusal_of g).number → (refusal_of f).place ≡ (refusal_of g).place → f ≡ g
known f g e p = sym (again f) ∙ ap (λ x. fault_of x (refusal_of f).place) e ∙ ap (λ i. fault_of (refusal_of g).number i) p ∙ again g

module _ (Holds : CodeFault → Type 0) where
  -- the fault does not arise
  abbrev pub No : CodeFault → Type 0
  No f = Holds f → ⊥

  abbrev Is : Option CodeFault → Type 0
  Is = Judged refusal_of Holds

  is : (o : Option CodeFault) → First refusal_of Holds o → Is o
  is = unique.judged refusal_of Holds known

  -- no fault of a rank below r arises, where those that are named do not
  below : (r : ℕ) → (0 < r → No Field) → (4 < r → No Shape) → (11 < r → No Length) → (12 < r → (i : ℕ) → No (Letter i)) → (13 < r → No Content) → (14 < r → No Room) → (15 < r → No Workspace) → (g : CodeFault) → rank (refusal_of g).number < r → No g
  below r a s l t c m w Field h = a h
  below r a s l t c m w Shape h = s h
  below r a s l t c m w Length h = l h
  below r a s l t c m w (Letter i) h = t h i
  below r a s l t c m w Content h = c h
  below r a s l t c m w Room h = m h
  below r a s l t c m w Workspace h = w h

  at : (f : CodeFault) → Holds f → ((g : CodeFault) → rank (refusal_of g).number < rank (refusal_of f).number → No g) → ((g : CodeFault) → (refusal_of g).number ≡ (refusal_of f).number → (refusal_of g).place < (refusal_of f).place → No g) → Is (Some f)
  at f h lower same = is (Some f) (h, λ g b. ⊎_elim (λ r. lower g r) (λ e. same g e.0 e.1) b)

  nowhere : (g : CodeFault) → (refusal_of g).place < 0 → No g
  nowhere g h = absurd (omega arith)

  earlier : (i : ℕ) → ((j : ℕ) → j < i → No (Letter j)) → (g : CodeFault) → (refusal_of g).number ≡ 11 → (refusal_of g).place < i → No g
  earlier i none Field e h = absurd (omega arith)
  earlier i none Shape e h = absurd (omega arith)
  earlier i none Length e h = absurd (omega arith)
  earlier i none (Letter j) e h = none j h
  earlier i none Content e h = absurd (omega arith)
  earlier i none Room e h = absurd (omega arith)
  earlier i none Workspace e h = absurd (omega arith)

  pub first_field : Holds Field → Is (Some Field)
  first_field h = at Field h (below 0 (λ k. absurd (omega arith)) (λ k. absurd (omega arith)) (λ k. absurd (omega arith)) (λ k. absurd (omega arith)) (λ k. absurd (omega arith)) (λ k. absurd (omega arith)) (λ k. absurd (omega arith))) (λ g e. nowhere g)

  pub first_shape : No Field → Holds Shape → Is (Some Shape)
  first_shape a h = at Shape h (below 4 (λ k. a) (λ k. absurd (omega arith)) (λ k. absurd (omega arith)) (λ k. absurd (omega arith)) (λ k. absurd (omega arith)) (λ k. absurd (omega arith)) (λ k. absurd (omega arith))) (λ g e. nowhere g)

  pub first_length : No Field → No Shape → Holds Length → Is (Some Length)
  first_length a s h = at Length h (below 11 (λ k. a) (λ k. s) (λ k. absurd (omega arith)) (λ k. absurd (omega arith)) (λ k. absurd (omega arith)) (λ k. absurd (omega arith)) (λ k. absurd (omega arith))) (λ g e. nowhere g)

  pub first_letter : No Field → No Shape → No Length → (i : ℕ) → Holds (Letter i) → ((j : ℕ) → j < i → No (Letter j)) → Is (Some (Letter i))
  first_letter a s l i h none = at (Letter i) h (below 12 (λ k. a) (λ k. s) (λ k. l) (λ k. absurd (omega arith)) (λ k. absurd (omega arith)) (λ k. absurd (omega arith)) (λ k. absurd (omega arith))) (earlier i none)

  pub first_content : No Field → No Shape → No Length → ((i : ℕ) → No (Letter i)) → Holds Content → Is (Some Content)
  first_content a s l t h = at Content h (below 13 (λ k. a) (λ k. s) (λ k. l) (λ k. t) (λ k. absurd (omega arith)) (λ k. absurd (omega arith)) (λ k. absurd (omega arith))) (λ g e. nowhere g)

  pub first_room : No Field → No Shape → No Length → ((i : ℕ) → No (Letter i)) → No Content → Holds Room → Is (Some Room)
  first_room a s l t c h = at Room h (below 14 (λ k. a) (λ k. s) (λ k. l) (λ k. t) (λ k. c) (λ k. absurd (omega arith)) (λ k. absurd (omega arith))) (λ g e. nowhere g)

  pub first_workspace : No Field → No Shape → No Length → ((i : ℕ) → No (Letter i)) → No Content → No Room → Holds Workspace → Is (Some Workspace)
  first_workspace a s l t c m h = at Workspace h (below 15 (λ k. a) (λ k. s) (λ k. l) (λ k. t) (λ k. c) (λ k. m) (λ k. absurd (omega arith))) (λ g e. nowhere g)

  pub no_fault : No Field → No Shape → No Length → ((i : ℕ) → No (Letter i)) → No Content → No Room → No Workspace → Is None
  no_fault a s l t c m w = is None none
    where
      none : (g : CodeFault) → No g
      none Field = a
      none Shape = s
      none Length = l
      none (Letter i) = t i
      none Content = c
      none Room = m
      none Workspace = w
