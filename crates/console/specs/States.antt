-- What the commands do to the console.
use Rattle.std.specs.Prelude.{◌≡◌, ℕ, Bool, List, take, Some, None, Ok, Err, Decides, Option, Result}
use Rattle.algebra.specs.Operations.{Lawful}
use Rattle.algebra.specs.Elements.{Elem}
use Rattle.algebra.specs.Bivariate.{Bivariate}
use Rattle.fault.specs.First.{Judged}
use Rattle.fault.specs.declared.Refusal.{Refusal}
use Rattle.field.specs.declared.refusal.FieldFault.{FieldFault}
use Rattle.field.specs.Faults.{refusal_of}
use Rattle.field.specs.Meaning.{Meaning, operations}
use Rattle.plan.specs.declared.asked.Parameters.{Parameters}
use Rattle.plan.specs.declared.asked.PlanFault.{PlanFault}
use Rattle.plan.specs.Faults as plan_faults
use Rattle.plan.specs.Plans.{Asked}
use Rattle.plan.specs.declared.Plan.{Plan}
use Rattle.code.specs.declared.refusal.CodeFault.{CodeFault}
use Rattle.code.specs.Codes.{InCode, WordOf}
use Rattle.code.specs.Faults as code_faults
use Rattle.code.specs.Listing.{Nearby, Interpolates, Tested}
use Rattle.console.specs.Spaced.{words_of}
use Rattle.console.specs.declared.word.Word.{Word}
use Rattle.console.specs.declared.words.Words.{Words}
use Rattle.console.specs.declared.answer.Answer.{Answer}
use Rattle.console.specs.declared.answer.Answer.TheVariants.{Field, Inverse, PlanMade, Check, Write, List as ListAnswer, Refused}
use Rattle.console.specs.declared.answer.Trouble.{Trouble}
use Rattle.console.specs.declared.answer.Trouble.TheVariants.{NoField}
use Rattle.console.specs.declared.state.Console.{Console}
use Rattle.console.specs.declared.any_field.AnyField.{AnyField}
use Rattle.console.specs.Kinds.{meaning_in}

-- the meaning of the field that is chosen
abbrev pub meaning_of : Option AnyField → Option Meaning
meaning_of None = None
meaning_of (Some f) = Some (meaning_in f)

-- a field is described by its size and its number of letters
abbrev pub plain : Meaning → Answer
plain m = Field m.size m.letters

-- an inverse as an answer
abbrev pub inverted : Option ℕ → Answer
inverted o = Inverse o

-- a refusal is an answer too
abbrev pub answer_of : Result Answer Refusal → Answer
answer_of (Ok a) = a
answer_of (Err refusal) = Refused refusal

-- the answer that f gives of the field chosen, or an error where none is
abbrev pub with_field : Option AnyField → (Meaning → Answer) → Result Answer Trouble
with_field None f = Err NoField
with_field (Some field) f = Ok (f (meaning_in field))

-- outcome of a choice of field: made and described, or refused with everything as it was; the plan stays
abbrev pub ChosenBy : Option FieldFault → Meaning → Console → Answer → Console → Type 0
ChosenBy None m before r after = (r ≡ plain m) × (meaning_of after.field ≡ Some m) × (after.plan ≡ before.plan)
ChosenBy (Some f) m before r after = (r ≡ Refused (refusal_of f)) × (after ≡ before)

-- a field of meaning m is chosen, unless one of the faults of Fails holds, the first of which is answered
abbrev pub Chosen : (FieldFault → Type 0) → Meaning → Console → Answer → Console → Type 0
Chosen Fails m before r after = (o : Option FieldFault) × Judged refusal_of Fails o × ChosenBy o m before r after

-- outcome of a plan: made as asked, or refused with everything as it was; the field stays
abbrev pub PlannedBy : Option PlanFault → Parameters → List ℕ → List ℕ → Console → Answer → Console → Type 0
PlannedBy None asked α β before r after = (r ≡ PlanMade) × Asked asked α β after.plan × (after.field ≡ before.field)
PlannedBy (Some f) asked α β before r after = (r ≡ Refused (plan_faults.refusal_of f)) × (after ≡ before)

-- the plan asked for is made, unless a fault holds, the first of which is answered
abbrev pub Planned : Parameters → List ℕ → List ℕ → Console → Answer → Console → Type 0
Planned asked α β before r after = (o : Option PlanFault) × Judged plan_faults.refusal_of (plan_faults.Fails asked α β) o × PlannedBy o asked α β before r after

-- outcome of a check: whether the word is in the code, or a refusal
abbrev pub CheckedBy : Option CodeFault → Plan → Meaning → List ℕ → Answer → Type 0
CheckedBy None p m word r = (b : Bool) × Decides b (InCode p m word) × (r ≡ Check b)
CheckedBy (Some f) p m word r = r ≡ Refused (code_faults.refusal_of f)

-- whether the word is in the code is answered, unless a fault holds, the first of which is answered
abbrev pub Checked : Plan → Meaning → List ℕ → Answer → Type 0
Checked p m word r = (o : Option CodeFault) × Judged code_faults.refusal_of (code_faults.CheckFails p m word) o × CheckedBy o p m word r

-- outcome of a writing: the one word that begins with the content, or a refusal
abbrev pub WrittenBy : Option CodeFault → Plan → Meaning → List ℕ → Answer → Type 0
WrittenBy None p m content r = (w : Word) × WordOf p m content (take w.n w.letters) × (r ≡ Write w)
WrittenBy (Some f) p m content r = r ≡ Refused (code_faults.refusal_of f)

-- the word that begins with the content is answered, unless a fault holds, the first of which is answered; there is room for any word
abbrev pub WrittenOut : Plan → Meaning → List ℕ → Answer → Type 0
WrittenOut p m content r = (o : Option CodeFault) × Judged code_faults.refusal_of (code_faults.WriteFails p m content 64) o × WrittenBy o p m content r

-- so many candidates were tested: the roots of an interpolation polynomial Q of the word heard, which is left open
pub record Candidates (p : Plan) (m : Meaning) (heard : List ℕ) (tested : ℕ) : Type 0 where
  pub law : Lawful (operations m)
  pub Q : Bivariate (Elem (operations m))
  pub polynomial : Interpolates p m law heard Q
  pub roots : Tested p m law Q tested

-- outcome of a listing: all words of the code within the plan's errors of the word heard, in rising order, and the number tested, or a refusal
abbrev pub ListedBy : Option CodeFault → Plan → Meaning → List ℕ → Answer → Type 0
ListedBy None p m heard r = (ws : Words) × Nearby p m heard (words_of ws.n ws.count ws.list) × Candidates p m heard ws.tested × (r ≡ ListAnswer ws)
ListedBy (Some f) p m heard r = r ≡ Refused (code_faults.refusal_of f)

-- the words near the word heard are answered, unless a fault holds, the first of which is answered; there is room for any list and to work in
abbrev pub ListedOut : Plan → Meaning → List ℕ → Answer → Type 0
ListedOut p m heard r = (o : Option CodeFault) × Judged code_faults.refusal_of (code_faults.ListFails p m heard 448 32768) o × ListedBy o p m heard r

-- an answer of which P holds over the field chosen, or an error where none is
abbrev pub OverField : Option AnyField → (Meaning → Answer → Type 0) → Result Answer Trouble → Type 0
OverField None P r = r ≡ Err NoField
OverField (Some f) P r = (a : Answer) × (r ≡ Ok a) × P (meaning_in f) a
