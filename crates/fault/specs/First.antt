-- Which of several refusals is given: the first one whose condition holds.
use Rattle.std.specs.Prelude.{◌≡◌, ℕ, ◌+◌, ◌<◌, cond, ◌⊎◌, Some, None, Option, ◌==◌}
use Rattle.fault.specs.declared.Refusal.{Refusal}

-- the order in which refusals are tried: 20 first, then by number
abbrev pub rank : ℕ → ℕ
rank number = cond (number == 20) 0 (number + 1)

-- a is tried before b: a lower rank, or the same number at an earlier place
abbrev pub Before : Refusal → Refusal → Type 0
Before a b = (rank a.number < rank b.number) ⊎ ((a.number ≡ b.number) × (a.place < b.place))

-- o is the first fault whose condition holds; there is none exactly where no condition holds
abbrev pub First : {F : Type 0} → (F → Refusal) → (F → Type 0) → Option F → Type 0
First {F} refusal Holds None = (g : F) → Holds g → ⊥
First {F} refusal Holds (Some f) = Holds f × ((g : F) → Before (refusal g) (refusal f) → Holds g → ⊥)

-- o is the outcome that the conditions ask for, and no other outcome is: both directions
pub record Judged {F : Type 0} (refusal : F → Refusal) (Holds : F → Type 0) (o : Option F) : Type 0 where
  pub first : First refusal Holds o
  pub only : (p : Option F) → First refusal Holds p → p ≡ o
