-- Counted power of y by power of y, and met one by one.
use Rattle.algebra.specs.Elements.{element_ring}
use Rattle.algebra.proofs.ConditionCount.{conditions_length, uniform_count}
use Rattle.algebra.proofs.ConditionsMet.{meet_multiplicities, multiplicities_meet}
use Rattle.algebra.proofs.bivariate_interpolation.interpolation_conditions.Goals as goal

pub returns : goal.returns
returns c = λ o law ps. (
  conditions_length ps,
  λ k h. uniform_count k ps h,
  λ d l Q. (meet_multiplicities (element_ring o law) d l Q ps, multiplicities_meet (element_ring o law) d l Q ps),
)
