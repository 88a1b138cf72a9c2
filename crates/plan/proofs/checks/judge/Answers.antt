-- Each refusal is the first one, and what is first is judged.
use Rattle.std.proofs.Common.{Some, rules}
use Rattle.plan.specs.declared.asked.PlanFault.TheVariants.{Shape, Distance, Errors, Width, Inequality}
use Rattle.plan.proofs.Order.{judged, at_support, at_multiplier, at_none}
use Rattle.plan.proofs.checks.judge.Goals as goal

pub returns-then-bad_shape : goal.returns-then-bad_shape
returns-then-bad_shape c = judged c.args.asked c.args.support.now c.args.multipliers.now (Some Shape) (search rules)

pub returns-then-bad_distance : goal.returns-then-bad_distance
returns-then-bad_distance c = judged c.args.asked c.args.support.now c.args.multipliers.now (Some Distance) (search rules)

pub returns-then-bad_errors : goal.returns-then-bad_errors
returns-then-bad_errors c = judged c.args.asked c.args.support.now c.args.multipliers.now (Some Errors) (search rules)

pub returns-then-bad_width : goal.returns-then-bad_width
returns-then-bad_width c = judged c.args.asked c.args.support.now c.args.multipliers.now (Some Width) (search rules)

pub returns-then-not-solvable : goal.returns-then-not-solvable
returns-then-not-solvable c = judged c.args.asked c.args.support.now c.args.multipliers.now (Some Inequality) (search rules)

pub returns-in-Some : goal.returns-in-Some
returns-in-Some c = at_support c.args.asked c.args.support.now c.args.multipliers.now (search rules) (search rules) (search rules) (search rules) (search rules) c.in-Some.i c.in-Some.ensures

pub returns-in-Some-first_bad_multiplier : goal.returns-in-Some-first_bad_multiplier
returns-in-Some-first_bad_multiplier c = at_multiplier c.args.asked c.args.support.now c.args.multipliers.now (search rules) (search rules) (search rules) (search rules) (search rules) c.in_default.ensures c.in-Some-first_bad_multiplier.i c.in-Some-first_bad_multiplier.ensures

pub returns : goal.returns
returns c = at_none c.args.asked c.args.support.now c.args.multipliers.now (search rules) (search rules) (search rules) (search rules) (search rules) c.in_default.ensures c.in_default-first_bad_multiplier.ensures
