use Rattle.code.proofs.Keeping.{Keeping}
use Rattle.code.proofs.plan_code.PlanCode.near_words.Given as goal

abbrev pub invariant-loop-f : goal.invariant-loop-f
invariant-loop-f g l = Keeping l.self.plan.now (g.F.Field.meaning l.self.field.now) l.heard l.candidates.items l.f-index l.kept.items
