use Rattle.code.proofs.Pointing.{Pointed}
use Rattle.code.proofs.plan_code.PlanCode.places.Given as goal

abbrev pub invariant-loop-i : goal.invariant-loop-i
invariant-loop-i g l = Pointed l.self.plan.now (g.F.Field.meaning l.self.field.now) l.heard l.i l.places.items
