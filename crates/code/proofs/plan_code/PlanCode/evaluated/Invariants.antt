use Rattle.code.proofs.Evaluating.{Evaluating}
use Rattle.code.proofs.plan_code.PlanCode.evaluated.Given as goal

abbrev pub invariant-loop-i : goal.invariant-loop-i
invariant-loop-i g l = Evaluating l.self.plan.now (g.F.Field.meaning l.self.field.now) l.f l.i-end l.i l.letter-items
