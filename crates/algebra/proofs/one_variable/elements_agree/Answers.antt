-- The theorem over any field, at the elements.
use mathlib.Core.Path.{sym, ap, ap₂, ◌∙◌}
use Rattle.algebra.specs.Elements.{into}
use Rattle.algebra.proofs.Elements.{number_add, number_neg, number_mul, number_inv, number_into}
use Rattle.algebra.proofs.one_variable.elements_agree.Goals as goal

pub returns : goal.returns
returns c = λ o law m n h k.
    let a = into o law m in
    let b = into o law n in
    let p = number_into o law m h in
    let q = number_into o law n k in (
      p,
      number_add o law a b ∙ ap₂ o.sum p q,
      number_neg o law a ∙ ap o.negative p,
      number_mul o law a b ∙ ap₂ o.product p q,
      λ z. number_inv o law a (λ e. z (sym p ∙ e)) ∙ ap o.inverse p,
    )
