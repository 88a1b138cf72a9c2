-- How answers and errors are written.
use Rattle.std.specs.Prelude.{ℕ, true, false, List, ◌++◌, take, Some, None, codes, decimal, Option}
use Rattle.fault.specs.Refusals.{shown_as}
use Rattle.console.specs.Spaced.{spaced, words_of, lined}
use Rattle.console.specs.declared.answer.Answer.{Answer}
use Rattle.console.specs.declared.answer.Answer.TheVariants.{Field, Sum, Negative, Product, Inverse, PlanMade, Check, Write, List as ListAnswer, Refused}
use Rattle.console.specs.declared.answer.Trouble.{Trouble}
use Rattle.console.specs.declared.answer.Trouble.TheVariants.{Unknown, Number, NoField, Memory}

-- an answer is written as its word and its numbers, a refusal as every refusal is
abbrev pub answer_text : Answer → Option (List ℕ)
answer_text (Field size letters) = Some (codes "field " ++ (decimal size ++ (codes " " ++ decimal letters)))
answer_text (Sum r) = Some (codes "sum " ++ decimal r)
answer_text (Negative r) = Some (codes "negative " ++ decimal r)
answer_text (Product r) = Some (codes "product " ++ decimal r)
answer_text (Inverse None) = Some (codes "inverse none")
answer_text (Inverse (Some r)) = Some (codes "inverse " ++ decimal r)
answer_text PlanMade = Some (codes "plan made")
answer_text (Check true) = Some (codes "check yes")
answer_text (Check false) = Some (codes "check no")
answer_text (Write word) = Some (codes "write" ++ spaced (take word.n word.letters))
answer_text (ListAnswer ws) =
    Some (codes "list " ++ (decimal ws.count ++ (codes " " ++ (decimal ws.tested ++ lined (words_of ws.n ws.count ws.list)))))
answer_text (Refused refusal) = shown_as refusal

-- the message of an error
abbrev pub trouble_text : Trouble → Option (List ℕ)
trouble_text Unknown = Some (codes "no such command")
trouble_text Number = Some (codes "not a number of the range expected")
trouble_text NoField = Some (codes "no field is chosen")
trouble_text Memory = Some (codes "out of memory")
