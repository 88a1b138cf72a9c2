use Rattle.std.proofs.Common.{Some, ap}
use Rattle.console.specs.declared.answer.Answer.{Answer}
use Rattle.console.specs.declared.answer.Answer.TheVariants.{Refused}
use Rattle.console.specs.declared.state.Console.{Console}
use Rattle.console.proofs.state.Console.plan.Goals as goal

pub returns-in-Err : goal.returns-in-Err
returns-in-Err c =
    let told = c.in-Err.ensures in
    (Some c.in-Err.fault, told.judged, (ap {B = Answer} Refused c.into.ensures, ap {B = Console} (λ p. record { field = c.args.self.now.field; plan = p }) told.written))
