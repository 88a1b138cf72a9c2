-- How a refusal is written.
use Rattle.std.specs.Prelude.{ℕ, List, ◌++◌, Some, codes, decimal, Option}
use Rattle.fault.specs.declared.Layer.{Layer}
use Rattle.fault.specs.declared.Layer.TheVariants.{Field, Plan, Code, Log, Hall}
use Rattle.fault.specs.declared.Refusal.{Refusal}

-- the name under which a layer is written
abbrev pub name_of : Layer → List ℕ
name_of Field = codes "field"
name_of Plan = codes "plan"
name_of Code = codes "code"
name_of Log = codes "log"
name_of Hall = codes "hall"

-- a refusal is written as the word refused, its number, its layer's name and its place
abbrev pub shown_as : Refusal → Option (List ℕ)
shown_as r = Some (codes "refused " ++ (decimal r.number ++ (codes " " ++ (name_of r.layer ++ (codes " " ++ decimal r.place)))))
