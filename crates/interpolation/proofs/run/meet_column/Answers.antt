use Rattle.interpolation.proofs.LiftedRun.{column_all}
use Rattle.interpolation.proofs.run.meet_column.Goals as goal

pub returns : goal.returns
returns g c = column_all _ _ _ _ _ c.args.count _ _ _ _ _ _ _ c.loop-r.invariant c.loop-r-test.false c.loop-r.auto.r-end
