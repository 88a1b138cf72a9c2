use Rattle.field.proofs.Gathered.{lawful}
use Rattle.poly.proofs.Uniqueness.{one_through}
use Rattle.poly.proofs.newton.one_polynomial.Goals as goal

pub returns : goal.returns
returns g c = one_through (g.F.Field.meaning c.args.field.now) (lawful g.world g.row.F g.F.Field g.F.Field-dict g.met.F.Field c.args.field.now)
