use Rattle.code.specs.Codes.{support_of, multipliers_of}
use Rattle.code.proofs.Filling.{Filling}
use Rattle.code.proofs.plan_code.PlanCode.fill_in.Given as goal

abbrev pub invariant-loop-i : goal.invariant-loop-i
invariant-loop-i g l = Filling (g.F.Field.meaning l.self.field.now) (support_of l.self.plan.now) (multipliers_of l.self.plan.now) l.content l.coefficients l.initial.word l.i l.word
