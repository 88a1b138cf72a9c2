use Rattle.std.proofs.Common.{ℕ, List, replicate, ap, ◌∙◌}
use Rattle.bivariate.proofs.Monomials.{zero_is}
use Rattle.bivariate.proofs.combinations.zero_polynomial.Goals as goal

pub returns : goal.returns
returns c = ap (λ row. replicate {A = List ℕ} 8 row) c.zero_row.ensures ∙ zero_is
