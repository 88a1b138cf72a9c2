-- Horner's rule, from the last coefficient in.
use Rattle.std.proofs.Common.{◌≡◌, ℕ, List, [], ◌∷◌, fold, reverse, refl, ap, ◌∙◌}
use mathlib.Core.List.{reverse-cons}
use Rattle.std.proofs.lemmas.List.Sums.{fold-append}
use Rattle.field.specs.Meaning.{Meaning, sum_of, product_of}
use Rattle.poly.specs.Polynomials.{value_of}

module _ (m : Meaning) (a : ℕ) where
  abbrev step : ℕ → ℕ → ℕ
  step v c = sum_of m c (product_of m a v)

  pub value_folded : (cs : List ℕ) → fold step 0 (reverse cs) ≡ value_of m cs a
  unfolding value_of
  value_folded [] = refl
  value_folded (c ∷ cs) = ap (fold step 0) (reverse-cons c cs) ∙ fold-append step 0 (reverse cs) (c ∷ []) ∙ ap (λ v. step v c) (value_folded cs)
