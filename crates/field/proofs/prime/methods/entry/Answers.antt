use Rattle.std.proofs.Common.{ap, ◌∙◌}
use Rattle.std.specs.Option.{ok_or}
use Rattle.field.specs.declared.refusal.FieldFault.TheVariants.{Characteristic}
use Rattle.field.specs.PrimeTable.{primes}
use Rattle.field.proofs.Judging.{prime_entry}
use Rattle.field.proofs.prime.methods.entry.Goals as goal

pub returns : goal.returns
unfolding primes
returns c =
    let right = prime_entry c.args.p _ (c.ok_or.ensures.value ∙ ap (λ o. ok_or o Characteristic) c.listed.ensures) in
    record { judged = right.0; found = right.1 }
