-- Why a trial has no plan or no field.
use Rattle.std.specs.Prelude.{◌≡◌, ◌⊎◌, ℕ, List, Option, Some, None, Result, Err}
use Rattle.fault.specs.First.{Judged}
use Rattle.fault.specs.declared.Refusal.{Refusal}
use Rattle.field.specs.declared.refusal.FieldFault.{FieldFault}
use Rattle.field.specs.Faults as field_faults
use Rattle.plan.specs.declared.asked.Parameters.{Parameters}
use Rattle.plan.specs.declared.asked.PlanFault.{PlanFault}
use Rattle.plan.specs.Faults as plan_faults

-- o is the first fault of the plan asked for, or that there is none
abbrev pub PlanFails : Parameters → List ℕ → List ℕ → Option PlanFault → Type 0
PlanFails asked α β o = Judged plan_faults.refusal_of (plan_faults.Fails asked α β) o

-- the refusal is that of the plan asked for; or the plan is without fault, and it is that of the field
abbrev pub Refused : {F : Type 0} → Result F FieldFault → Parameters → List ℕ → List ℕ → Refusal → Type 0
Refused field asked α β refusal =
    ((f : PlanFault) × PlanFails asked α β (Some f) × (refusal ≡ plan_faults.refusal_of f))
    ⊎ ((f : FieldFault) × PlanFails asked α β None × (field ≡ Err f) × (refusal ≡ field_faults.refusal_of f))
