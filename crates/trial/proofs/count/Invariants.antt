use Rattle.std.proofs.Common.{◌≡◌}
use Rattle.trial.specs.Words.{count_of}
use Rattle.trial.proofs.count.Given as goal

-- the lists of the digits so far
abbrev pub invariant-loop : goal.invariant-loop
invariant-loop l = l.all ≡ count_of l.fn.base l.counter
