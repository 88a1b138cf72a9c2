use Rattle.std.proofs.Common.{◌≡◌, ◌+◌, ◌≤◌, min, length, get_or, take, sym, ap, ◌∙◌, subst₂, not, ◌&&◌, ltb, eqb, arith}
use Rattle.std.proofs.lemmas.List.{length-take}
use Rattle.interpolation.specs.Bases.{degrees_of}
use Rattle.interpolation.proofs.BasisLists.{first_below, first_degree}
use Rattle.interpolation.proofs.Scanning.{Scanned, better_yes, better_no, scan_none, scan_lower, scan_still, scan_all}
use Rattle.interpolation.proofs.pivots.pivot.Goals.{then-better, else-better}
use Rattle.interpolation.proofs.pivots.pivot.Goals as goal

pub loop-j-init : goal.loop-j-init
loop-j-init c = scan_none _ _ _ _

pub loop-j-preserved : goal.loop-j-preserved
loop-j-preserved c =
    let ds = degrees_of c.args.basis.now in
    let in_range = first_below c.args.basis.now c.args.bounds.l c.rows.result c.loop-j.j c.told-basis c.rows.ensures c.loop-j-test.true in
    let degree = first_degree c.args.basis.now c.args.bounds.l c.rows.result c.loop-j.j c.told-basis c.rows.ensures c.loop-j-test.true in
    let is = c.better.ensures ∙ ap (λ d. ltb d c.loop-j.least && not (eqb (get_or c.args.discrepancies.now c.loop-j.j 0) 0)) degree in
    elim c.if-better.branch [
      | then-better w ↦
          let yes = better_yes (get_or ds c.loop-j.j 0) c.loop-j.least (get_or c.args.discrepancies.now c.loop-j.j 0) c.better.result is w.if-better.true in
          subst₂
          (Scanned ds c.args.discrepancies.now c.args.bounds.l c.args.bounds.bound (c.loop-j.j + 1))
          (sym w.best-is)
          (sym (w.least-is ∙ degree))
          (scan_lower ds c.args.discrepancies.now c.args.bounds.l c.args.bounds.bound c.loop-j.j c.loop-j.best c.loop-j.least in_range.0 in_range.1 yes.0 yes.1 c.loop-j.invariant)
      | else-better w ↦
          subst₂
          (Scanned ds c.args.discrepancies.now c.args.bounds.l c.args.bounds.bound (c.loop-j.j + 1))
          (sym w.best-is)
          (sym w.least-is)
          (scan_still ds c.args.discrepancies.now c.args.bounds.l c.args.bounds.bound c.loop-j.j c.loop-j.best c.loop-j.least
          (λ f. better_no (get_or ds c.loop-j.j 0) c.loop-j.least (get_or c.args.discrepancies.now c.loop-j.j 0) c.better.result is w.if-better.false f.3)
          c.loop-j.invariant)
    ]

pub returns : goal.returns
returns c =
    let long : length (take c.rows.result c.args.basis.now) ≡ min c.rows.result (length c.args.basis.now) = length-take c.rows.result c.args.basis.now in
    let end : min c.args.bounds.l 8 ≤ c.loop-j.j = omega (arith, c.loop-j-test.false, c.rows.ensures, c.told-basis, long) in
    scan_all (degrees_of c.args.basis.now) c.args.discrepancies.now c.args.bounds.l c.args.bounds.bound c.loop-j.j c.loop-j.best c.loop-j.least end c.loop-j.invariant
