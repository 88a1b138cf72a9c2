-- The needs of each step, and the promise, from what the steps before promise.
use Rattle.std.proofs.Common.{sym, refl, subst}
use Rattle.roots.specs.Found.{Finds}
use Rattle.arrayvec.specs.ArrayVec.{array_vec_len}
use Rattle.std.proofs.lemmas.Bool.{false≢true}
use Rattle.field.proofs.Gathered.{lawful}
use Rattle.code.proofs.Readiness.{ready_length, ready_workspace}
use Rattle.code.proofs.Assembly.{words_fit, decoded}
use Rattle.code.proofs.plan_code.PlanCode.decode.Goals as goal

pub interpolation-q-requires : goal.interpolation-q-requires
interpolation-q-requires g c = ready_length c.args.self.now.plan.now (g.F.Field.meaning c.args.self.now.field.now) c.args.heard.now _ _ c.requires

-- there is room for Q
pub returns-in_err-flatten : goal.returns-in_err-flatten
returns-in_err-flatten g c = absurd (false≢true (c.in_err-flatten.ensures.answer.1 (ready_workspace c.args.self.now.plan.now (g.F.Field.meaning c.args.self.now.field.now) c.args.heard.now _ _ c.requires)))

pub put_words-requires-clause-fits : goal.put_words-requires-clause-fits
put_words-requires-clause-fits g c =
    words_fit c.args.self.now.plan.now (g.F.Field.meaning c.args.self.now.field.now) (lawful g.world g.row.F g.F.Field g.F.Field-dict g.met.F.Field c.args.self.now.field.now) c.args.heard.now c.args.list.now c.args.workspace.now c.requires c.interpolation-q.result c.interpolation-q.ensures.0 c.interpolation-q.ensures.1 c.bounds-bounds.result.l c.bounds-bounds.result.bound c.bounds-bounds.result.weight (array_vec_len c.roots-candidates.result) c.roots-candidates.result.items c.bounds-bounds.ensures.0 c.bounds-bounds.ensures.1 c.bounds-bounds.ensures.2 refl c.roots-candidates.ensures.found
    c.near_words-kept.result.items c.sort.new.words.items c.n.result c.near_words-kept.ensures c.sort.ensures.shuffled c.n.ensures

pub returns : goal.returns
returns g c =
    decoded c.args.self.now.plan.now (g.F.Field.meaning c.args.self.now.field.now) (lawful g.world g.row.F g.F.Field g.F.Field-dict g.met.F.Field c.args.self.now.field.now) c.args.heard.now c.args.list.now c.args.workspace.now c.requires c.interpolation-q.result c.interpolation-q.ensures.0 c.interpolation-q.ensures.1 c.bounds-bounds.result.l c.bounds-bounds.result.bound c.bounds-bounds.result.weight c.len-2.result c.roots-candidates.result.items c.bounds-bounds.ensures.0 c.bounds-bounds.ensures.1 c.bounds-bounds.ensures.2 c.len-2.ensures.value (subst (λ k. Finds (g.F.Field.meaning c.args.self.now.field.now) c.interpolation-q.result c.bounds-bounds.result.l c.bounds-bounds.result.bound c.bounds-bounds.result.weight c.roots-candidates.result.items k) (sym c.len-2.ensures.value) c.roots-candidates.ensures.found)
    c.flatten.new.workspace c.bounds-bounds.result.l c.bounds-bounds.result.bound c.bounds-bounds.ensures.0 c.bounds-bounds.ensures.1 c.flatten.ensures.written
    c.len.result c.n.result c.near_words-kept.result.items c.sort.new.words.items c.put_words.new.list c.n.ensures c.len.ensures.value
    c.near_words-kept.ensures c.sort.ensures.shuffled c.sort.ensures.rising c.put_words.ensures
