use Rattle.code.specs.Codes.{multipliers_of}
use Rattle.code.proofs.Filling.{Scaling}
use Rattle.code.proofs.plan_code.PlanCode.scale.Given as goal

abbrev pub invariant-loop-i : goal.invariant-loop-i
invariant-loop-i g l = Scaling (g.F.Field.meaning l.self.field.now) (multipliers_of l.self.plan.now) l.content l.initial.values l.i l.values
