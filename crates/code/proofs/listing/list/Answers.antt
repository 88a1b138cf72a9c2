use Rattle.std.proofs.Common.{length}
use Rattle.std.proofs.lemmas.Result.{err_from_is_err_and}
use Rattle.code.specs.Faults.{ListFails}
use Rattle.code.proofs.Order.{first_field}
use Rattle.code.proofs.listing.list.Goals as goal

pub returns-in_err-new-clause-judged : goal.returns-in_err-new-clause-judged
returns-in_err-new-clause-judged g c =
    let p = err_from_is_err_and c.from_residual.result c.from_residual.ensures.1 in
    rw (p.1, p.2, c.in_err-new.ensures.refused.0) (first_field (ListFails c.args.plan.now (g.F.Field.meaning c.args.field.now) c.args.heard.now (length c.args.list.now) (length c.args.workspace.now)) c.in_err-new.ensures.refused.1)
