use Rattle.std.proofs.Common.{refl}
use Rattle.code.proofs.Distances.{near_decided}
use Rattle.code.proofs.plan_code.PlanCode.is_near.Goals as goal

pub returns : goal.returns
returns g c =
    near_decided c.args.self.now.plan.now (g.F.Field.meaning c.args.self.now.field.now) c.args.heard.now c.args.array.now _ c.n.result c.distance.result c.w.result c.are_letters.result c.is_close-close.result c.is_accepted.result c.n.ensures refl c.distance.ensures c.w.ensures c.are_letters.ensures c.is_close-close.ensures c.is_accepted.ensures
