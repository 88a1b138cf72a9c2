use Rattle.roots.proofs.Numbers.{Stripping}
use Rattle.roots.proofs.search.strip.Given as goal

abbrev pub invariant-loop-i : goal.invariant-loop-i
invariant-loop-i l = Stripping l.bounds.l l.bounds.bound l.initial.q l._i l.q
