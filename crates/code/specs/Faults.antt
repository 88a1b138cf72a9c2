-- The refusals of the layer of codes: their numbers and their conditions.
use Rattle.std.specs.Prelude.{ℕ, ◌+◌, ◌-◌, ◌*◌, ◌<◌, cond, ◌≢◌, ◌⊎◌, List, length, Some, None, Option, nat_lt, slice_index}
use Rattle.fault.specs.declared.Layer.TheVariants.{Plan as PlanLayer, Code as CodeLayer}
use Rattle.fault.specs.declared.Refusal.{Refusal}
use Rattle.field.specs.Meaning.{Meaning, Letter as IsLetter}
use Rattle.plan.specs.declared.Plan.{Plan}
use Rattle.code.specs.declared.refusal.CodeFault.{CodeFault}
use Rattle.code.specs.declared.refusal.CodeFault.TheVariants.{Field, Shape, Length, Letter, Content, Room, Workspace}
use Rattle.code.specs.Codes.{InCode, content_of}

-- the number, the layer and the place of each fault
abbrev pub refusal_of : CodeFault → Refusal
refusal_of Field = record { number = 20; layer = CodeLayer; place = 0 }
refusal_of Shape = record { number = 3; layer = PlanLayer; place = 0 }
refusal_of Length = record { number = 10; layer = CodeLayer; place = 0 }
refusal_of (Letter i) = record { number = 11; layer = CodeLayer; place = i }
refusal_of Content = record { number = 12; layer = CodeLayer; place = 0 }
refusal_of Room = record { number = 13; layer = CodeLayer; place = 0 }
refusal_of Workspace = record { number = 14; layer = CodeLayer; place = 0 }

-- there is no letter at place i of the list
abbrev pub NoLetter : Meaning → List ℕ → ℕ → Type 0
NoLetter m xs i = IsLetter m (slice_index xs i) → ⊥

-- what is wrong with reading a list as letters, of which there should be long: the plan is for a field of another size, there are more or fewer, or at a place stands no letter
abbrev pub ReadFails : Plan → Meaning → ℕ → List ℕ → CodeFault → Type 0
ReadFails p m long xs Field = p.size ≢ m.size
ReadFails p m long xs Shape = ⊥
ReadFails p m long xs Length = length xs ≢ long
ReadFails p m long xs (Letter i) = (i < length xs) × NoLetter m xs i
ReadFails p m long xs Content = ⊥
ReadFails p m long xs Room = ⊥
ReadFails p m long xs Workspace = ⊥

-- what is wrong with asking whether a word is in the code: it is not n letters
abbrev pub CheckFails : Plan → Meaning → List ℕ → CodeFault → Type 0
CheckFails p m word = ReadFails p m p.n word

-- what is wrong with writing the word of a content into a place with some room: the content is not n − t letters, no word of the code begins with it, or the room is less than n
abbrev pub WriteFails : Plan → Meaning → List ℕ → ℕ → CodeFault → Type 0
WriteFails p m content room Field = p.size ≢ m.size
WriteFails p m content room Shape = ⊥
WriteFails p m content room Length = length content ≢ p.n - p.t
WriteFails p m content room (Letter i) = (i < length content) × NoLetter m content i
WriteFails p m content room Content = (w : List ℕ) → InCode p m w → content_of p w ≢ content
WriteFails p m content room Room = room < p.n
WriteFails p m content room Workspace = ⊥

-- what is wrong with listing the words near a word heard into a list with some room, with some workspace: the word is not n letters, the room is less than (l − 1) × n, or the workspace is shorter than 32,768
abbrev pub ListFails : Plan → Meaning → List ℕ → ℕ → ℕ → CodeFault → Type 0
ListFails p m heard room workspace Field = p.size ≢ m.size
ListFails p m heard room workspace Shape = ⊥
ListFails p m heard room workspace Length = length heard ≢ p.n
ListFails p m heard room workspace (Letter i) = (i < length heard) × NoLetter m heard i
ListFails p m heard room workspace Content = ⊥
ListFails p m heard room workspace Room = room < (p.l - 1) * p.n
ListFails p m heard room workspace Workspace = workspace < 32768

-- the fault of a room that is less than wanted, or of a workspace shorter than 32,768
abbrev pub space_fault : ℕ → ℕ → ℕ → Option CodeFault
space_fault room wanted workspace = cond (nat_lt room wanted) (Some Room) (cond (nat_lt workspace 32768) (Some Workspace) None)

-- what is wrong with asking for word i of a list of some length in words of n: n is not 2 to 64, or the word is not wholly inside the list
abbrev pub PickFails : ℕ → ℕ → ℕ → CodeFault → Type 0
PickFails long n i Field = ⊥
PickFails long n i Shape = (n < 2) ⊎ (64 < n)
PickFails long n i Length = ⊥
PickFails long n i (Letter j) = ⊥
PickFails long n i Content = ⊥
PickFails long n i Room = long < i * n + n
PickFails long n i Workspace = ⊥
