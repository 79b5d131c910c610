-- `image::write_image` meets its contract: the invariant is `Written`. Assumes nothing.
use Prim.Native.Nat.{◌+◌, ◌-◌, ◌*◌, ◌<◌}
use native.Mathlib.Omega.{arith}
use mathlib.Core.Path.{◌≡◌}
use lib.ListN.{get_or}
use lib.Seq.{get_or-take}
use Rattle.loader.proofs.Situated.{count_most, room_here}
use Rattle.image.proofs.Written.{written_next}
use Rattle.image.proofs.write_image.Goals as goal

pub shared_ref_as_front-p-items : goal.shared_ref_as_front-p-items
shared_ref_as_front-p-items c = omega (arith, count_most c.requires.ready)

pub overflow_add-p : goal.overflow_add-p
overflow_add-p c =
    rw (get_or-take c.sit_count-count.result c.args.places.now c.loop-q.q 0 (omega arith))
    (omega (arith, room_here c.requires.ready {q = c.loop-q.q} (omega arith)))

pub overflow_cast-image : goal.overflow_cast-image
overflow_cast-image c =
    rw (get_or-take c.sit_count-count.result c.args.places.now c.loop-q.q 0 (omega arith))
    (omega (arith, room_here c.requires.ready {q = c.loop-q.q} (omega arith), c.requires.short))

pub loop-q-preserved : goal.loop-q-preserved
loop-q-preserved c =
    let l : c.loop-q.q < get_or c.args.s.now 4 0 = omega arith in
    let k : 256 * c.loop-q.q + 256 - 256 * c.loop-q.q ≡ 256 = omega arith in
    let p = get_or-take c.sit_count-count.result c.args.places.now c.loop-q.q 0 (omega arith) in
    rw (k, p, c.sit_count-count.ensures.0) (written_next c.requires c.loop-q.invariant l c.fill_row.new.row (omega arith) (rw p at c.fill_row.ensures))
