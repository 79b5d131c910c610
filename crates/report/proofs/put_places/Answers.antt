-- `report::put_places` meets its contract: the positions so far are written. Assumes nothing.
use Rattle.std.proofs.Common.{◌≡◌, get_or, length, pos, arith, rules}
use mir.Syntax.{w16}
use mir.Val.{SFits}
use mir.ValLaws.{to_z-of_z}
use Rattle.report.proofs.Writing.{spaced_more}
use Rattle.report.proofs.put_places.Goals as goal

pub loop-v-preserved : goal.loop-v-preserved
loop-v-preserved c =
    let v = get_or c.args.places c.loop-v.v-index (pos 0) in
    let l : length c.args.places ≡ 8 = search rules in
    let fit : SFits w16 v = search rules in
    let e = rw (to_z-of_z w16 v fit) at c.put_position-end.ensures in
    (spaced_more c.args.places c.loop-v.v-index (pos 0) (omega arith) c.loop-v.invariant.0 e.0, omega arith)
