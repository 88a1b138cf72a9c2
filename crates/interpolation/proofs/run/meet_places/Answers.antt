use Rattle.interpolation.specs.Bases.{rows_of, degrees_of}
use Rattle.interpolation.proofs.LiftedRun.{reached_more, reached_all}
use Rattle.interpolation.proofs.run.meet_places.Goals as goal

pub loop-place-preserved : goal.loop-place-preserved
loop-place-preserved g c =
    reached_more (g.F.Field.meaning c.args.field.now) c.args.places.now c.loop-place.place-index c.args.bounds.l c.args.bounds.bound c.args.bounds.weight _ (rows_of c.loop-place.basis) (rows_of c.meet_place.new.basis) (degrees_of c.loop-place.basis) (degrees_of c.meet_place.new.basis) c.loop-place-test.true c.loop-place.invariant c.meet_place.ensures

pub returns : goal.returns
returns g c =
    reached_all (g.F.Field.meaning c.args.field.now) c.args.places.now c.loop-place.place-index c.args.bounds.l c.args.bounds.bound c.args.bounds.weight (rows_of c.loop-place.basis) (degrees_of c.loop-place.basis) c.loop-place-test.false c.loop-place.invariant
