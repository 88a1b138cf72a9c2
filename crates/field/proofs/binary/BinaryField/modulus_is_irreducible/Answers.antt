use Rattle.field.specs.BinaryLaws.{irreducible}
use Rattle.field.proofs.binary.BinaryField.modulus_is_irreducible.Goals as goal

pub returns : goal.returns
returns c = let f = c.args.self.now in irreducible f.m f.above f.below
