-- The head of a polynomial of lower degree would stand below a row's.
use Rattle.algebra.specs.Elements.{elements}
use Rattle.algebra.proofs.KoetterDegree.{live_degree, least_degree}
use Rattle.algebra.proofs.bivariate_interpolation.interpolation_least.Goals as goal

pub returns : goal.returns
returns c = λ o law s D l ps st inv lst j h m. (
  live_degree (elements o law) s D l ps st inv j h,
  λ W P k. least_degree (elements o law) s D l W ps st P lst j h m k,
)
