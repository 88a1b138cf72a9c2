use Rattle.trial.proofs.Powers.{power_more}
use Rattle.trial.proofs.count.Goals as goal

pub loop-preserved : goal.loop-preserved
loop-preserved c = power_more _ c.args.base c.loop.counter c.loop.all _ c.from.result c.saturating_mul-all.ensures c.loop.invariant c.from.ensures
