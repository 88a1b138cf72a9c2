-- The copied part and the zeros after it are the padded list.
use Rattle.std.proofs.Common.{◌-◌, ◌++◌, length, replicate, ap}
use Rattle.std.proofs.lemmas.List.{drop-replicate}
use Rattle.plan.proofs.make.pad.Goals as goal

pub returns : goal.returns
returns c = simp drop-replicate (ap (λ xs. xs ++ replicate (64 - length c.args.letters.now) 0) c.copy_from_slice.ensures.after)
