use Rattle.interpolation.proofs.LiftedRun.{columns_all}
use Rattle.interpolation.proofs.run.meet_place.Goals as goal

pub returns : goal.returns
returns g c = columns_all _ c.args.place _ _ _ _ _ _ _ _ c.loop-u.invariant c.loop-u-test.false c.loop-u.auto.u-end
