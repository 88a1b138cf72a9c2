use Rattle.field.proofs.Gathered.{lawful}
use Rattle.field.proofs.letter.laws_hold.Goals as goal

pub returns : goal.returns
returns g c = lawful g.world g.row.F g.F.Field g.F.Field-dict g.met.F.Field c.args.field.now
