-- A fault that ends a command, as an answer.
use Rattle.std.proofs.Common.{◌≡◌, Err, Result, IsErrAnd, ap, ◌∙◌}
use Rattle.std.proofs.lemmas.Result.{err_from_is_err_and}
use Rattle.fault.specs.declared.Refusal.{Refusal}
use Rattle.console.specs.declared.answer.Answer.{Answer}
use Rattle.console.specs.declared.answer.Answer.TheVariants.{Refused}
use Rattle.console.specs.States.{answer_of}

pub refused : (r : Result Answer Refusal) (x : Refusal) → IsErrAnd r (λ y. y ≡ x) → answer_of r ≡ Refused x
refused r x h = let p = err_from_is_err_and r h in ap {B = Answer} answer_of (p.1 ∙ ap Err p.2)
