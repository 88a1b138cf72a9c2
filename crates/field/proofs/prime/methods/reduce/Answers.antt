use Rattle.std.proofs.Common.{sym, ◌∙◌, mod-eq_of_lt, arith}
use native.Mathlib.Nat.{mod-eq-sub-mod}
use Rattle.field.proofs.prime.methods.reduce.Goals as goal

pub returns-then-a-p : goal.returns-then-a-p
returns-then-a-p c = sym (mod-eq_of_lt c.if-a-p.true)

pub returns-else-a-p : goal.returns-else-a-p
returns-else-a-p c = sym (mod-eq-sub-mod c.if-a-p.false ∙ mod-eq_of_lt (omega (arith, c.requires)))
