-- The value of the first coefficients of a row, by the rule for lists and by the rule for rows, is one number.
use Rattle.std.proofs.Common.{◌≡◌, ℕ, zero, suc, ◌≤◌, List, [], ◌∷◌, length, take, refl, ap, ◌∙◌, sym, arith}
use Rattle.field.specs.Meaning.{Meaning, sum_of, product_of}
use Rattle.poly.specs.Polynomials as lists
use Rattle.bivariate.specs.Horner as rows
use Rattle.bivariate.specs.Horner.{entries}

module _ (m : Meaning) (a : ℕ) where
  -- the rule for rows goes by the coefficients from the place on
  from_next : (cs : ℕ → ℕ) (i n : ℕ) → rows.value_of m a cs (suc i) n ≡ rows.value_of m a (λ k. cs (suc k)) i n
  unfolding rows.value_of
  from_next cs i zero = refl
  from_next cs i (suc n) = ap (λ v. sum_of m (cs (suc i)) (product_of m a v)) (from_next cs (suc i) n)

  pub row_value : (row : List ℕ) (n : ℕ) → n ≤ length row → lists.value_of m (take n row) a ≡ rows.value_of m a (entries row) 0 n
  unfolding lists.value_of rows.value_of
  row_value row zero h = refl
  row_value [] (suc n) h = absurd (omega arith)
  row_value (c ∷ row) (suc n) h = ap (λ v. sum_of m c (product_of m a v)) (row_value row n (omega arith) ∙ sym (from_next (entries (c ∷ row)) 0 n))
