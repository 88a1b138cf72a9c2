use Rattle.std.proofs.Common.{Some}
use Rattle.console.proofs.Refusals.{refused}
use Rattle.console.proofs.state.checked.Goals as goal

pub returns-in_err-check : goal.returns-in_err-check
returns-in_err-check c = (Some c.in_err-check.field-0.0, c.in_err-check.ensures.judged, refused _ _ c.from_residual.ensures.1)
