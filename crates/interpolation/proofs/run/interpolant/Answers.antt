use Rattle.std.proofs.Common.{Option, sym, refl, subst}
use Rattle.std.specs.Prelude.{is_some, [], List, ℕ}
use Rattle.std.specs.Option.{unwrap_or}
use Rattle.interpolation.specs.Bases.{rows_of, degrees_of}
use Rattle.interpolation.specs.Runs.{Interpolant}
use Rattle.interpolation.proofs.LeastRow.{row_none, none_below}
use Rattle.interpolation.proofs.run.interpolant.Goals as goal

pub returns-in_err-p-clause-found : goal.returns-in_err-p-clause-found
returns-in_err-p-clause-found g c =
    subst
    (λ (r : Option (List (List ℕ))). Interpolant (g.F.Field.meaning c.args.field.now) c.args.places.now c.args.bounds.l c.args.bounds.bound c.args.bounds.weight (unwrap_or r []) (is_some r))
    (sym c.from_residual.ensures)
    (row_none (g.F.Field.meaning c.args.field.now) c.args.places.now c.args.bounds.l c.args.bounds.bound c.args.bounds.weight (rows_of c.meet_places.new.basis) (degrees_of c.meet_places.new.basis) c.pivot.result c.meet_places.ensures c.pivot.ensures [] c.in_err-p.was)

pub returns-in_err-p-clause-none : goal.returns-in_err-p-clause-none
returns-in_err-p-clause-none g c e =
    none_below (g.F.Field.meaning c.args.field.now) c.args.places.now c.args.bounds.l c.args.bounds.bound c.args.bounds.weight (rows_of c.meet_places.new.basis) (degrees_of c.meet_places.new.basis) c.pivot.result c.meet_places.ensures c.pivot.ensures c.in_err-p.was refl
