-- The laws of any field in one record, as the algebra takes them.
use Rattle.std.proofs.Common.{arith}
use borrow.Fn.World.{World}
use denote.RattleType.{RattleType}
use mir.Syntax.{Dict}
use Rattle.algebra.specs.Operations.{Lawful}
use Rattle.field.specs.Meaning.{operations}
use Rattle.field.specs.contracts.Field.TheBound as bound
use Rattle.field.specs.declared.Field.{Ghosts}

-- where a function has a bound F: Field, its proof has w, F, the meaning and the laws as g.world, g.F, g.F.Field, g.F.Field-dict and g.met.F.Field
pub lawful : (w : World) (F : RattleType) (ghosts : Ghosts F.Denot) (dict : Dict) → bound.Met {M = w.M} w.𝓛 w.𝓜 w.𝓡 w.𝓡.env F ghosts dict → (f : F.Denot) → Lawful (operations (ghosts.meaning f))
lawful w F ghosts dict laws f =
    record {
      two_elements = let bounds = laws.bounds f in omega (arith, bounds.0, bounds.1);
      sum_closed = laws.sum_closed f;
      negative_closed = laws.negative_closed f;
      product_closed = laws.product_closed f;
      inverse_closed = laws.inverse_closed f;
      sum_commutes = laws.sum_commutes f;
      sum_associates = laws.sum_associates f;
      sum_zero = laws.sum_zero f;
      sum_negative = laws.sum_negative f;
      product_commutes = laws.product_commutes f;
      product_associates = laws.product_associates f;
      product_one = laws.product_one f;
      product_distributes = laws.product_distributes f;
      product_inverse = laws.product_inverse f;
    }
