-- What a field of either kind means.
use Rattle.field.specs.Binary.{binary}
use Rattle.field.specs.Meaning.{Meaning}
use Rattle.field.specs.Modular.{modular}
use Rattle.console.specs.declared.any_field.AnyField.{AnyField}
use Rattle.console.specs.declared.any_field.AnyField.TheVariants.{Prime, Binary}

-- the meaning of a field, by its kind
abbrev pub meaning_in : AnyField → Meaning
meaning_in (Prime f) = modular f.p
meaning_in (Binary f) = binary f.m f.all
