use Rattle.std.proofs.lemmas.Bool.Decides.{not_from_Decides}
use Rattle.code.proofs.Reading.{read_length, read_letter}
use Rattle.code.proofs.plan_code.PlanCode.read.Goals as goal

pub returns-then-other_length : goal.returns-then-other_length
returns-then-other_length g c =
    read_length c.args.self.now.plan.now (g.F.Field.meaning c.args.self.now.field.now) c.args.long c.args.letters.now c.args.self.now.same_size (c.other_length.ensures.0 c.if-other_length.true)

pub returns-in-Some : goal.returns-in-Some
returns-in-Some g c =
    read_letter c.args.self.now.plan.now (g.F.Field.meaning c.args.self.now.field.now) c.args.long c.args.letters.now c.in-Some.i c.args.self.now.same_size (not_from_Decides _ c.other_length.ensures c.if-other_length.false) c.in-Some.ensures
