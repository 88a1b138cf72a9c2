use Rattle.bivariate.specs.Roots.{lower_row}
use Rattle.bivariate.proofs.Writing.{Changing}
use Rattle.bivariate.proofs.roots.lower.Given as goal

abbrev pub invariant-loop-row : goal.invariant-loop-row
invariant-loop-row l = Changing (λ _ row. lower_row row) l.initial.q l.row-index l.q
