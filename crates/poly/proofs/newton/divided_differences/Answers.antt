use Rattle.poly.proofs.NewtonForm.{reduced_start, reduced_more, reduced_all}
use Rattle.poly.proofs.newton.divided_differences.Goals as goal

pub loop-j-init : goal.loop-j-init
loop-j-init g c = reduced_start (g.F.Field.meaning c.args.field.now) c.args.points.now c.args.values.now

pub loop-j-preserved : goal.loop-j-preserved
loop-j-preserved g c = reduced_more (g.F.Field.meaning c.args.field.now) c.args.points.now c.args.values.now c.loop-j.values c.sweep.new.values c.loop-j.j c.loop-j-test.true c.loop-j.invariant c.sweep.ensures

pub returns : goal.returns
returns g c = reduced_all (g.F.Field.meaning c.args.field.now) c.args.points.now c.args.values.now c.loop-j.values c.loop-j.j c.loop-j.invariant c.loop-j-test.false c.loop-j.auto.j-end
