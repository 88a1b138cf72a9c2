-- The refusals of the makers of fields.
use Rattle.std.specs.Prelude.{ℕ, ◌≤◌}
use Rattle.fault.specs.declared.Layer.TheVariants.{Field}
use Rattle.fault.specs.declared.Refusal.{Refusal}
use Rattle.field.specs.declared.refusal.FieldFault.{FieldFault}
use Rattle.field.specs.declared.refusal.FieldFault.TheVariants.{Degree, Characteristic}
use Rattle.field.specs.Modular.{Prime}

-- number, layer and place of each case
abbrev pub refusal_of : FieldFault → Refusal
refusal_of Degree = record { number = 1; layer = Field; place = 0 }
refusal_of Characteristic = record { number = 2; layer = Field; place = 0 }

-- what is wrong with p for a prime field: it is no prime of 3 to 251
abbrev pub PrimeFails : ℕ → FieldFault → Type 0
PrimeFails p Degree = ⊥
PrimeFails p Characteristic = (3 ≤ p) × (p ≤ 251) × Prime p → ⊥

-- what is wrong with m for a binary field: it is no degree of 2 to 8
abbrev pub BinaryFails : ℕ → FieldFault → Type 0
BinaryFails m Degree = (2 ≤ m) × (m ≤ 8) → ⊥
BinaryFails m Characteristic = ⊥
