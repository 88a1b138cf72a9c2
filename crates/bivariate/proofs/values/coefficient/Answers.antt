use Rattle.bivariate.specs.Horner.{entries}
use Rattle.bivariate.proofs.Steps.{coefficient_read, coefficient_none}
use Rattle.bivariate.proofs.values.coefficient.Goals as goal

pub returns-then-r-lt-ORDER : goal.returns-then-r-lt-ORDER
returns-then-r-lt-ORDER g c =
    coefficient_read (g.F.Field.meaning c.args.field.now) _ (entries c.args.row.now) _ _ _ c.if-r-lt-ORDER.true c.expansion.ensures

pub returns-else-r-lt-ORDER : goal.returns-else-r-lt-ORDER
returns-else-r-lt-ORDER g c =
    coefficient_none (g.F.Field.meaning c.args.field.now) _ (entries c.args.row.now) _ _ c.if-r-lt-ORDER.false
