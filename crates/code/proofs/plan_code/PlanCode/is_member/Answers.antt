use Rattle.code.proofs.Membership.{long_enough, part_read, decides}
use Rattle.code.proofs.plan_code.PlanCode.is_member.Goals as goal

pub slice_bounds-extend-end : goal.slice_bounds-extend-end
slice_bounds-extend-end g c = long_enough c.args.self.now.plan.now (g.F.Field.meaning c.args.self.now.field.now) c.args.word.now c.requires c.dimension.result c.dimension.ensures

pub extend-extended-requires : goal.extend-extended-requires
extend-extended-requires g c = part_read c.args.self.now.plan.now (g.F.Field.meaning c.args.self.now.field.now) c.args.word.now c.requires c.dimension.result c.dimension.ensures

pub returns : goal.returns
returns g c = decides c.args.self.now.plan.now (g.F.Field.meaning c.args.self.now.field.now) c.args.word.now c.requires c.dimension.result c.dimension.ensures _ c.agrees.result c.extend-extended.ensures c.agrees.ensures
