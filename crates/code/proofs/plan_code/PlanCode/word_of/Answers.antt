use Rattle.std.proofs.Common.{Some}
use Rattle.std.proofs.lemmas.Result.{err_from_is_err_and}
use Rattle.code.proofs.Writing.{content_refused, content_read, last_judged}
use Rattle.code.proofs.plan_code.PlanCode.word_of.Goals as goal

pub returns-in_err-read-clause-judged : goal.returns-in_err-read-clause-judged
returns-in_err-read-clause-judged g c =
    let p = err_from_is_err_and c.from_residual.result c.from_residual.ensures.1 in
    rw (p.1, p.2) (content_refused c.args.self.now.plan.now (g.F.Field.meaning c.args.self.now.field.now) c.args.content.now c.args.room c.dimension.result c.dimension.ensures c.in_err-read.field-0.0 c.in_err-read.ensures)

pub extend-extended-requires : goal.extend-extended-requires
extend-extended-requires g c = content_read c.args.self.now.plan.now (g.F.Field.meaning c.args.self.now.field.now) c.args.content.now c.args.room c.dimension.result c.dimension.ensures c.in_ok-read.ensures

pub returns-in_err-judge_last-clause-judged : goal.returns-in_err-judge_last-clause-judged
returns-in_err-judge_last-clause-judged g c =
    let p = err_from_is_err_and c.from_residual-in_err-judge_last.result c.from_residual-in_err-judge_last.ensures.1 in
    rw (p.1, p.2) (last_judged c.args.self.now.plan.now (g.F.Field.meaning c.args.self.now.field.now) c.args.content.now c.args.room c.dimension.result c.dimension.ensures c.in_ok-read.ensures _ c.extend-extended.ensures c.is_word.result c.is_word.ensures c.n.result c.n.ensures (Some c.in_err-judge_last.field-0.0) c.in_err-judge_last.ensures)
