use Rattle.std.proofs.Common.{rules}
use Rattle.std.proofs.iter.runs.Sources.{ranges}
use Rattle.plan.proofs.checks.first_bad_support.Goals as goal

pub returns : goal.returns
returns c = search (rules, ranges)
