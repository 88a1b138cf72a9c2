use Rattle.field.specs.Meaning.{product_of}
use Rattle.field.specs.Modular.{modular}
use Rattle.field.proofs.prime.methods.PrimeFieldField.inverse.Given as goal

abbrev pub ghost-inverse : goal.ghost-inverse
ghost-inverse a = product_of (modular a.size)
