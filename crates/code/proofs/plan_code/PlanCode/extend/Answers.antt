-- What is worked out is the extension, and the theorem says what that is.
use Rattle.field.proofs.Gathered.{lawful}
use Rattle.code.proofs.Theorem.{extended}
use Rattle.code.proofs.plan_code.PlanCode.extend.Goals as goal

pub returns : goal.returns
returns g c =
    extended c.args.self.now.plan.now (g.F.Field.meaning c.args.self.now.field.now) (lawful g.world g.row.F g.F.Field g.F.Field-dict g.met.F.Field c.args.self.now.field.now)
    c.args.self.now.same_size c.args.content.now c.requires.0 c.requires.1
    c.support.result.now c.scale.new.values c.divided_differences.new.values c.fill_in.new.word _
    c.support.ensures c.scale.ensures c.divided_differences.ensures c.fill_in.ensures
