-- What a search for a fault says.
use Rattle.std.specs.Prelude.{ℕ, ◌<◌, Some, None, Option}

-- o is the first place below n of which Bad holds, and there is none only where Bad holds of no such place
abbrev pub FirstBad : (ℕ → Type 0) → ℕ → Option ℕ → Type 0
FirstBad Bad n None = (i : ℕ) → i < n → Bad i → ⊥
FirstBad Bad n (Some i) = (i < n) × Bad i × ((j : ℕ) → j < i → Bad j → ⊥)
