use Rattle.interpolation.proofs.BasisLists.{reduced_live}
use Rattle.interpolation.proofs.conditions.reduce.Goals as goal

pub raise-requires : goal.raise-requires
raise-requires g c =
    reduced_live _ _ c.args.basis.now c.eliminate.new.basis c.told-basis c.requires.inside c.eliminate.ensures.degrees c.requires.live
