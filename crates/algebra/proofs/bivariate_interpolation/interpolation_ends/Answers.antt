-- The degrees sum to less than l·D, so one of them is below D.
use Rattle.algebra.specs.Elements.{element_ring, elements}
use Rattle.algebra.proofs.KoetterLive.{places_live_row, live_interpolates}
use Rattle.algebra.proofs.bivariate_interpolation.interpolation_ends.Goals as goal

pub returns : goal.returns
returns c = λ o law s D l ps st inv. (places_live_row (elements o law) s D l ps st inv, live_interpolates (element_ring o law) s D l ps st inv)
