-- The faults of what is asked for: their numbers and their conditions.
use Rattle.std.specs.Prelude.{◌≡◌, ℕ, ◌+◌, ◌<◌, ◌≤◌, ◌≢◌, ◌⊎◌, List, length, slice_index}
use Rattle.fault.specs.declared.Layer.TheVariants.{Plan}
use Rattle.fault.specs.declared.Refusal.{Refusal}
use Rattle.plan.specs.declared.asked.Parameters.{Parameters}
use Rattle.plan.specs.declared.asked.PlanFault.{PlanFault}
use Rattle.plan.specs.declared.asked.PlanFault.TheVariants.{Shape, Distance, Errors, Width, Inequality, Support, Multiplier}
use Rattle.plan.specs.Numbers.{Solvable}

-- the number, the layer and the place of each fault
abbrev pub refusal_of : PlanFault → Refusal
refusal_of Shape = record { number = 3; layer = Plan; place = 0 }
refusal_of Distance = record { number = 4; layer = Plan; place = 0 }
refusal_of Errors = record { number = 5; layer = Plan; place = 0 }
refusal_of Width = record { number = 6; layer = Plan; place = 0 }
refusal_of Inequality = record { number = 7; layer = Plan; place = 0 }
refusal_of (Support i) = record { number = 8; layer = Plan; place = i }
refusal_of (Multiplier i) = record { number = 9; layer = Plan; place = i }

-- t, the designed distance less one, is not 1 to n - 1
abbrev pub BadDistance : ℕ → ℕ → Type 0
BadDistance n t = (t < 1) ⊎ (n ≤ t)

-- the multiplicity k is not 1 to 4, or the width l is not k + 1 to 8
abbrev pub BadWidth : ℕ → ℕ → Type 0
BadWidth k l = ((k < 1) ⊎ (4 < k)) ⊎ ((l < k + 1) ⊎ (8 < l))

-- element i of the support stands at an earlier place too
abbrev pub SeenBefore : List ℕ → ℕ → Type 0
SeenBefore α i = (j : ℕ) × (j < i) × (slice_index α j ≡ slice_index α i)

-- element i of the support is not below the size, or is seen at an earlier place
abbrev pub BadSupport : ℕ → List ℕ → ℕ → Type 0
BadSupport size α i = (size ≤ slice_index α i) ⊎ SeenBefore α i

-- multiplier i is 0 or not below the size
abbrev pub BadMultiplier : ℕ → List ℕ → ℕ → Type 0
BadMultiplier size β i = (slice_index β i ≡ 0) ⊎ (size ≤ slice_index β i)

-- the condition of each fault, of the numbers asked for, the support α and the multipliers β
abbrev pub Fails : Parameters → List ℕ → List ℕ → PlanFault → Type 0
Fails a α β Shape = ((a.n < 2) ⊎ (64 < a.n)) ⊎ (((a.size < 2) ⊎ (256 < a.size)) ⊎ ((length α ≢ a.n) ⊎ (length β ≢ a.n)))
Fails a α β Distance = BadDistance a.n a.t
Fails a α β Errors = a.n ≤ a.w
Fails a α β Width = BadWidth a.k a.l
Fails a α β Inequality = Solvable a.n a.t a.w a.k a.l → ⊥
Fails a α β (Support i) = (i < a.n) × BadSupport a.size α i
Fails a α β (Multiplier i) = (i < a.n) × BadMultiplier a.size β i
