-- Each power of x comes after the next lower one.
use Rattle.algebra.proofs.PlaceConditions.{conditions_well_ordered, stage_well_ordered}
use Rattle.algebra.proofs.bivariate_interpolation.interpolation_ordered.Goals as goal

pub returns : goal.returns
returns c = λ o ps. (conditions_well_ordered ps, stage_well_ordered ps)
