-- Which fault is the first: the conditions in the order of the faults' numbers.
use Rattle.std.proofs.Common.{◌≡◌, ℕ, ◌<◌, ◌≤◌, cond, eqb, List, length, Some, None, Option, sym, refl, ap, ◌∙◌, inl, inr, ⊎_elim, arith}
use Rattle.std.proofs.lemmas.Bool.{cases_eq}
use Rattle.std.proofs.lemmas.Bool.Decides.{nat_tests}
use Rattle.fault.specs.First.{rank, First, Judged}
use Rattle.fault.proofs.Unique as unique
use Rattle.plan.specs.declared.asked.Parameters.{Parameters}
use Rattle.plan.specs.declared.asked.PlanFault.{PlanFault}
use Rattle.plan.specs.declared.asked.PlanFault.TheVariants.{Shape, Distance, Errors, Width, Inequality, Support, Multiplier}
use Rattle.plan.specs.Faults.{refusal_of, Fails, BadSupport, BadMultiplier}
use Rattle.plan.specs.Checks.{FirstBad}

-- no fault has the number that is tried before all others
small : (g : PlanFault) → (refusal_of g).number < 20
small Shape = omega arith
small Distance = omega arith
small Errors = omega arith
small Width = omega arith
small Inequality = omega arith
small (Support i) = omega arith
small (Multiplier i) = omega arith

by_rank : (x y : ℕ) → x < 20 → y < 20 → rank x < rank y → x < y
by_rank x y h k r = grind (arith, nat_tests)

-- the fault of a number and a place
abbrev fault_of : ℕ → ℕ → PlanFault
fault_of x i = cond (eqb x 3) Shape (cond (eqb x 4) Distance (cond (eqb x 5) Errors (cond (eqb x 6) Width (cond (eqb x 7) Inequality (cond (eqb x 8) (Support i) (Multiplier i))))))

again : (f : PlanFault) → fault_of (refusal_of f).number (refusal_of f).place ≡ f
again Shape = refl
again Distance = refl
again Errors = refl
again Width = refl
again Inequality = refl
again (Support i) = refl
again (Multiplier i) = refl

-- a fault is known by its number and place
pub known : (f g : PlanFault) → (refusal_of f).number ≡ (refusal_of g).number → (refusal_of f).place ≡ (refusal_of g).place → f ≡ g
known f g e p = sym (again f) ∙ ap (λ x. fault_of x (refusal_of f).place) e ∙ ap (λ i. fault_of (refusal_of g).number i) p ∙ again g

module _ (a : Parameters) (α β : List ℕ) where
  -- the fault does not arise
  abbrev pub No : PlanFault → Type 0
  No f = Fails a α β f → ⊥

  pub judged : (o : Option PlanFault) → First refusal_of (Fails a α β) o → Judged refusal_of (Fails a α β) o
  judged = unique.judged refusal_of (Fails a α β) known

  -- a fault is first where none of a lower number arises, and none of its number at an earlier place
  at : (f : PlanFault) → Fails a α β f → ((g : PlanFault) → (refusal_of g).number < (refusal_of f).number → No g) → ((g : PlanFault) → (refusal_of g).number ≡ (refusal_of f).number → (refusal_of g).place < (refusal_of f).place → No g) → First refusal_of (Fails a α β) (Some f)
  at f h lower same = (h, λ g b. ⊎_elim (λ r. lower g (by_rank (refusal_of g).number (refusal_of f).number (small g) (small f) r)) (λ e. same g e.0 e.1) b)

  -- no fault of a number below m arises
  lower : (m : ℕ) → m ≤ 9 → (3 < m → No Shape) → (4 < m → No Distance) → (5 < m → No Errors) → (6 < m → No Width) → (7 < m → No Inequality) → (8 < m → (i : ℕ) → No (Support i)) → (g : PlanFault) → (refusal_of g).number < m → No g
  lower m le s d e w q p Shape h = s h
  lower m le s d e w q p Distance h = d h
  lower m le s d e w q p Errors h = e h
  lower m le s d e w q p Width h = w h
  lower m le s d e w q p Inequality h = q h
  lower m le s d e w q p (Support i) h = p h i
  lower m le s d e w q p (Multiplier i) h = absurd (omega arith)

  earlier_support : (i : ℕ) → ((j : ℕ) → j < i → No (Support j)) → (g : PlanFault) → (refusal_of g).number ≡ 8 → (refusal_of g).place < i → No g
  earlier_support i no' Shape e h = absurd (omega arith)
  earlier_support i no' Distance e h = absurd (omega arith)
  earlier_support i no' Errors e h = absurd (omega arith)
  earlier_support i no' Width e h = absurd (omega arith)
  earlier_support i no' Inequality e h = absurd (omega arith)
  earlier_support i no' (Support j) e h = no' j h
  earlier_support i no' (Multiplier j) e h = absurd (omega arith)

  earlier_multiplier : (i : ℕ) → ((j : ℕ) → j < i → No (Multiplier j)) → (g : PlanFault) → (refusal_of g).number ≡ 9 → (refusal_of g).place < i → No g
  earlier_multiplier i no' Shape e h = absurd (omega arith)
  earlier_multiplier i no' Distance e h = absurd (omega arith)
  earlier_multiplier i no' Errors e h = absurd (omega arith)
  earlier_multiplier i no' Width e h = absurd (omega arith)
  earlier_multiplier i no' Inequality e h = absurd (omega arith)
  earlier_multiplier i no' (Support j) e h = absurd (omega arith)
  earlier_multiplier i no' (Multiplier j) e h = no' j h

  pub support_length : No Shape → length α ≡ a.n
  support_length s = ⊎_elim (λ e. e) (λ ne. absurd (s (inr (inr (inl ne))))) (cases_eq (length α) a.n)

  pub multipliers_length : No Shape → length β ≡ a.n
  multipliers_length s = ⊎_elim (λ e. e) (λ ne. absurd (s (inr (inr (inr ne))))) (cases_eq (length β) a.n)

  no_support : No Shape → FirstBad (BadSupport a.size α) (length α) None → (i : ℕ) → No (Support i)
  no_support s p i f = let e = support_length s in p i (rw e f.0) f.1

  no_multiplier : No Shape → FirstBad (BadMultiplier a.size β) (length β) None → (i : ℕ) → No (Multiplier i)
  no_multiplier s p i f = let e = multipliers_length s in p i (rw e f.0) f.1

  pub at_support : No Shape → No Distance → No Errors → No Width → No Inequality → (i : ℕ) → FirstBad (BadSupport a.size α) (length α) (Some i) → Judged refusal_of (Fails a α β) (Some (Support i))
  at_support s d e w q i h =
      let n = support_length s in
      judged (Some (Support i)) (at (Support i) (omega (arith, h.0, n), h.1) (lower 8 (omega arith) (λ k. s) (λ k. d) (λ k. e) (λ k. w) (λ k. q) (λ k. absurd (omega arith))) (earlier_support i (λ j l f. h.2 j l f.1)))

  pub at_multiplier : No Shape → No Distance → No Errors → No Width → No Inequality → FirstBad (BadSupport a.size α) (length α) None → (i : ℕ) → FirstBad (BadMultiplier a.size β) (length β) (Some i) → Judged refusal_of (Fails a α β) (Some (Multiplier i))
  at_multiplier s d e w q p i h =
      let n = multipliers_length s in
      judged (Some (Multiplier i)) (at (Multiplier i) (omega (arith, h.0, n), h.1) (lower 9 (omega arith) (λ k. s) (λ k. d) (λ k. e) (λ k. w) (λ k. q) (λ k. no_support s p)) (earlier_multiplier i (λ j l f. h.2 j l f.1)))

  none : No Shape → No Distance → No Errors → No Width → No Inequality → ((i : ℕ) → No (Support i)) → ((i : ℕ) → No (Multiplier i)) → (g : PlanFault) → No g
  none s d e w q p m Shape = s
  none s d e w q p m Distance = d
  none s d e w q p m Errors = e
  none s d e w q p m Width = w
  none s d e w q p m Inequality = q
  none s d e w q p m (Support i) = p i
  none s d e w q p m (Multiplier i) = m i

  pub at_none : No Shape → No Distance → No Errors → No Width → No Inequality → FirstBad (BadSupport a.size α) (length α) None → FirstBad (BadMultiplier a.size β) (length β) None → Judged refusal_of (Fails a α β) None
  at_none s d e w q p m = judged None (none s d e w q (no_support s p) (no_multiplier s m))
