use Rattle.std.proofs.Common.{arith}
use Rattle.std.proofs.lemmas.Grind.{common_steps}
use Rattle.field.proofs.Judging.{binary_refused}
use Rattle.field.proofs.binary.methods.degree_of.Goals as goal

pub returns-else-contains-clause-judged : goal.returns-else-contains-clause-judged
returns-else-contains-clause-judged c = binary_refused c.args.m (λ h. grind (arith, common_steps, c.if-contains.ensures.cases, c.new.ensures.start, c.new.ensures.end, h.0, h.1))
