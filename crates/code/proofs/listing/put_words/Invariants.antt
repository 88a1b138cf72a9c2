use Rattle.code.proofs.Joining.{Putting}
use Rattle.code.proofs.listing.put_words.Given as goal

abbrev pub invariant-loop-i : goal.invariant-loop-i
invariant-loop-i l = Putting l.initial.list l.words.items l.n l.i l.list
