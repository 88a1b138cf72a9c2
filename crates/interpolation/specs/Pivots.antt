-- The row by which the others are cleared.
use Rattle.std.specs.Prelude.{◌≡◌, ℕ, ◌<◌, List, Some, None, Option, ◌≢◌, slice_index}
use Rattle.algebra.specs.Koetter.{AtMost}

-- row j, one of l and one of eight, has a degree below the bound and a discrepancy other than 0
abbrev pub Fails : List ℕ → List ℕ → ℕ → ℕ → ℕ → Type 0
Fails degrees discrepancies l bound j =
    (j < l) × (j < 8) × (slice_index degrees j < bound) × (slice_index discrepancies j ≢ 0)

-- the answer is the failing row with the least degree, and the first of those; none exactly where no row fails
pub record Pivot (degrees discrepancies : List ℕ) (l bound : ℕ) (answer : Option ℕ) : Type 0 where
  pub none : answer ≡ None → (j : ℕ) → Fails degrees discrepancies l bound j → ⊥
  pub fails : (p : ℕ) → answer ≡ Some p → Fails degrees discrepancies l bound p
  pub least : (p : ℕ)
      → answer ≡ Some p
      → (j : ℕ)
      → Fails degrees discrepancies l bound j
      → AtMost (slice_index degrees p) p (slice_index degrees j) j
