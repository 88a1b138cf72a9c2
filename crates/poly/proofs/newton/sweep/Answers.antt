use Rattle.std.proofs.Common.{arith}
use Rattle.poly.proofs.NewtonForm.{sweep_start, sweep_more, sweep_all}
use Rattle.poly.proofs.newton.sweep.Goals as goal

pub loop-i-init : goal.loop-i-init
loop-i-init g c = sweep_start (g.F.Field.meaning c.args.field.now) c.args.points.now c.args.values.now c.args.j

pub loop-i-preserved : goal.loop-i-preserved
loop-i-preserved g c = sweep_more (g.F.Field.meaning c.args.field.now) c.args.points.now c.args.values.now c.loop-i.values c.args.j c.loop-i.i c.member-origin.result c.member.result c.slope.result c.loop-i.invariant c.loop-i-test.true (omega arith) c.member-origin.ensures c.member.ensures c.slope.ensures

pub returns : goal.returns
returns g c = sweep_all (g.F.Field.meaning c.args.field.now) c.args.points.now c.args.values.now c.loop-i.values c.args.j c.loop-i.i c.loop-i.invariant c.loop-i-test.false
