-- The sizes of polynomials of numbers, and the degrees of the polynomials over the field that they stand for.
use Rattle.std.proofs.Common.{◌≡◌, ℕ, suc, ◌+◌, ◌-◌, ◌*◌, ◌≤◌, List, [], get_or, sym, ap, ◌∙◌, mul_comm, arith}
use mathlib.Core.Path.{fun_ext}
use Rattle.algebra.specs.Operations.{Operations, Lawful}
use Rattle.algebra.specs.Ring.{CommRing}
use Rattle.algebra.specs.Series.{series}
use Rattle.algebra.proofs.Coefficients.{zero_at}
use Rattle.algebra.specs.Degree.{Below}
use Rattle.algebra.specs.Elements.{Elem, element_ring, into}
use Rattle.algebra.specs.Bivariate.{Weighted}
use Rattle.algebra.proofs.Elements.{into_zero, into_injective}
use Rattle.field.specs.Meaning.{Meaning, operations}
use Rattle.bivariate.specs.Combinations.{row_length}
use Rattle.bivariate.specs.Lifted.{polynomial_of, PolynomialOf, Within, Narrow, Spare}
use Rattle.bivariate.proofs.FieldNumbers.{zero_element}

-- a place from the weighted degree on is past the row
pub row_length_weighted : (bound weight c i : ℕ) → bound ≤ i + weight * c → row_length bound weight c ≤ i
unfolding row_length
row_length_weighted bound weight c i h =
    let e : weight * c ≡ c * weight = mul_comm weight c in let n : ℕ = c * weight in omega arith

-- a place past the row has the weighted degree, where rows are not cut
pub weighted_row_length : (bound weight c i : ℕ) → bound ≤ 256 → row_length bound weight c ≤ i → bound ≤ i + weight * c
unfolding row_length
weighted_row_length bound weight c i k h =
    let e : weight * c ≡ c * weight = mul_comm weight c in let n : ℕ = c * weight in omega arith

module _ (m : Meaning) (law : Lawful (operations m)) (q : List (List ℕ)) where
  abbrev o : Operations
  o = operations m

  abbrev R : CommRing (Elem o)
  R = element_ring o law

  number_zero : PolynomialOf o q → (c i : ℕ) → polynomial_of o law q c i ≡ R.zero → get_or (get_or q c []) i 0 ≡ 0
  number_zero es c i e =
      into_injective o law (get_or (get_or q c []) i 0) 0 (es c i) (zero_element m law) (e ∙ sym (into_zero o law))

  -- rows within their lengths: the weighted degree is below the bound
  pub within_weighted : (bound weight : ℕ) → Within bound weight q → Weighted R weight bound (polynomial_of o law q)
  within_weighted bound weight w c i h =
      ap (into o law) (w c i (row_length_weighted bound weight c i h)) ∙ into_zero o law

  pub weighted_within : (bound weight : ℕ)
      → bound ≤ 256
      → PolynomialOf o q
      → Weighted R weight bound (polynomial_of o law q)
      → Within bound weight q
  weighted_within bound weight k es w c i h = number_zero es c i (w c i (weighted_row_length bound weight c i k h))

  -- a weighted degree one below the bound leaves room for the factor x − a
  pub weighted_spare : (bound weight : ℕ)
      → bound ≤ 256
      → PolynomialOf o q
      → Weighted R weight (bound - 1) (polynomial_of o law q)
      → Spare bound weight q
  weighted_spare bound weight k es w c i h =
      number_zero
      es
      c
      i
      (w c i (let p : bound ≤ suc i + weight * c = weighted_row_length bound weight c (suc i) k h in omega arith))

  pub narrow_below : (l : ℕ) → Narrow l q → Below (series R) l (polynomial_of o law q)
  narrow_below l n c h = fun_ext (λ i. ap (into o law) (n c i h) ∙ into_zero o law ∙ sym (zero_at R i))

  pub below_narrow : (l : ℕ) → PolynomialOf o q → Below (series R) l (polynomial_of o law q) → Narrow l q
  below_narrow l es b c i h = number_zero es c i (ap (λ f. f i) (b c h) ∙ zero_at R i)
