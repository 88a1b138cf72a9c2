-- The first fault, and where there is none, the word's place inside the list.
use Rattle.std.proofs.Common.{inl, inr, ⊎_elim, arith}
use Rattle.code.specs.Faults.{PickFails}
use Rattle.code.proofs.Order.{first_shape, first_room}
use Rattle.code.proofs.Words.{outside}
use Rattle.code.proofs.picking.start_of.Goals as goal

pub returns-then-n-lt2 : goal.returns-then-n-lt2
returns-then-n-lt2 c = record {
  judged = first_shape (PickFails c.args.long c.args.n c.args.i) (λ z. z) (⊎_elim inl (λ h. inr h.1) c.then-n-lt2.either);
  start = tt;
}

pub returns-then-i-long : goal.returns-then-i-long
returns-then-i-long c = record {
  judged = first_room (PickFails c.args.long c.args.n c.args.i) (λ z. z) (⊎_elim (λ h. omega arith) (λ h. omega arith)) (λ z. z) (λ i z. z) (λ z. z) (outside _ _ _ c.if-n-lt2.false c.if-i-long.true);
  start = tt;
}
