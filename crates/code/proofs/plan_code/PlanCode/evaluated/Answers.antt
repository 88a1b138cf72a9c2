use Rattle.code.proofs.Evaluating.{evaluating_all}
use Rattle.code.proofs.plan_code.PlanCode.evaluated.Goals as goal

pub returns : goal.returns
returns g c =
    evaluating_all c.args.self.now.plan.now (g.F.Field.meaning c.args.self.now.field.now) c.args.f.now c.n.result c.loop-i.i c.loop-i.letter-items c.n.ensures c.loop-i-test.false c.loop-i.invariant
