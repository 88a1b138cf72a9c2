use Rattle.field.specs.contracts.binary.methods.fn.BinaryFieldField.inverse.inverse as closure
use Rattle.field.specs.Meaning.{product_of}
use Rattle.field.specs.Binary.{binary}
use Rattle.field.proofs.binary.methods.BinaryFieldField.inverse.Given as goal

abbrev pub ghost-inverse : goal.ghost-inverse
ghost-inverse a = let f = (closure.captures a.product).self.now in product_of (binary f.m f.all)
