-- The theorem over any field, at the elements.
use mathlib.Core.Path.{◌∙◌}
use Rattle.algebra.specs.Elements.{elements}
use Rattle.algebra.specs.Interpolation.{newton}
use Rattle.algebra.proofs.Interpolation.{below_newton, eval_newton, newton_through, newton_unique}
use Rattle.algebra.proofs.one_variable.one_through_points.Goals as goal

pub returns : goal.returns
returns c = λ o law m α β s.
    let F = elements o law in (
      newton F m α β,
      below_newton F m α β,
      λ i h. eval_newton F m α β (α i) ∙ newton_through F m α β s i h,
      eval_newton F m α β,
      λ g b v. newton_unique F m α β g s b v,
    )
