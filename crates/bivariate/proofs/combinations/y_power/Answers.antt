use Rattle.std.proofs.Common.{set, ap, ◌∙◌}
use Rattle.bivariate.proofs.Monomials.{y_power_written, y_power_none}
use Rattle.bivariate.proofs.combinations.y_power.Goals as goal

pub returns-then-j-lt-ROWS : goal.returns-then-j-lt-ROWS
returns-then-j-lt-ROWS c =
    ap (set c.zero_polynomial-q.result c.args.j) c.start_with_one.ensures
    ∙ y_power_written c.args.j _ c.if-j-lt-ROWS.true c.zero_polynomial-q.ensures

pub returns-else-j-lt-ROWS : goal.returns-else-j-lt-ROWS
returns-else-j-lt-ROWS c = y_power_none c.args.j _ c.if-j-lt-ROWS.false c.zero_polynomial-q.ensures
