use Rattle.field.proofs.power.inverse.Given as goal

abbrev pub ghost-raise : goal.ghost-raise
ghost-raise g a = g.times
