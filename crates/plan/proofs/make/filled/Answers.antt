-- Where nothing is at fault, the casts and copies fit, and the plan's invariant holds, in the order of its fields.
use Rattle.std.proofs.Common.{arith, rules}
use Rattle.plan.proofs.Sound as sound
use Rattle.plan.proofs.make.filled.Goals as goal

pub overflow_cast-result : goal.overflow_cast-result
overflow_cast-result c = let h = sound.size_high c.args.asked c.args.support.now c.args.multipliers.now c.requires in search rules

pub pad-requires : goal.pad-requires
pad-requires c = omega (arith, sound.n_high c.args.asked c.args.support.now c.args.multipliers.now c.requires, sound.α_length c.args.asked c.args.support.now c.args.multipliers.now c.requires)

pub pad-requires-2 : goal.pad-requires-2
pad-requires-2 c = omega (arith, sound.n_high c.args.asked c.args.support.now c.args.multipliers.now c.requires, sound.β_length c.args.asked c.args.support.now c.args.multipliers.now c.requires)

pub invariant_of-result : goal.invariant_of-result
invariant_of-result c =
    let a = c.args.asked in
    let α = c.args.support.now in
    let β = c.args.multipliers.now in
    let h = c.requires in
    let s = c.pad.result in
    let m = c.pad-2.result in
    let p = c.pad.ensures in
    let q = c.pad-2.ensures in
    record {
      n_low = sound.n_low a α β h;
      n_high = sound.n_high a α β h;
      size_low = sound.size_low a α β h;
      size_high = sound.size_high a α β h;
      t_low = sound.t_low a α β h;
      t_high = sound.t_high a α β h;
      w_high = sound.w_high a α β h;
      k_low = sound.k_low a α β h;
      k_high = sound.k_high a α β h;
      l_low = sound.l_low a α β h;
      l_high = sound.l_high a α β h;
      solvable = sound.inequality a α β h;
      support_long = sound.support_long a α β h s m p q;
      multipliers_long = sound.multipliers_long a α β h s m p q;
      elements = sound.elements a α β h s m p q;
      distinct = sound.distinct a α β h s m p q;
      nonzero = sound.nonzero a α β h s m p q;
      scalars = sound.scalars a α β h s m p q;
    }
