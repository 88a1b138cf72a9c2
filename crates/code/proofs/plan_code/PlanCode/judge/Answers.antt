use Rattle.std.proofs.lemmas.Result.{err_from_is_err_and}
use Rattle.code.proofs.Readiness.{word_refused, last_judged}
use Rattle.code.proofs.plan_code.PlanCode.judge.Goals as goal

pub returns-in_err-read : goal.returns-in_err-read
returns-in_err-read g c =
    let p = err_from_is_err_and c.from_residual.result c.from_residual.ensures.1 in
    rw (p.1, p.2) (word_refused c.args.self.now.plan.now (g.F.Field.meaning c.args.self.now.field.now) c.args.heard.now c.args.room c.args.workspace c.n.result c.n.ensures c.in_err-read.field-0.0 c.in_err-read.ensures)

pub returns : goal.returns
returns g c =
    last_judged c.args.self.now.plan.now (g.F.Field.meaning c.args.self.now.field.now) c.args.heard.now c.args.room c.args.workspace c.n.result c.n.ensures c.in_ok-read.ensures c.list_length.result c.list_length.ensures _ c.judge_space.ensures
