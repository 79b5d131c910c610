-- `image::mount` meets its contract. Assumes nothing.
use Rattle.std.proofs.lemmas.Result.{err_from_is_err_and}
use Rattle.loader.specs.Judges.{Judges}
use Rattle.answers.specs.Refusals.{code_of}
use Rattle.image.proofs.Mounting.{mounts_unfit, mounts_small, mountable, mounts_written}
use Rattle.image.proofs.mount.Goals as goal

pub returns-in_err-judged : goal.returns-in_err-judged
returns-in_err-judged c =
    let p = err_from_is_err_and c.from_residual.result c.from_residual.ensures.1 in
    let j : Judges c.args.table.now (code_of c.in_err-judged.field-0.0) c.judge-judged.result.places = rw c.in_err-judged.was at c.judge-judged.ensures in
    rw (p.1, p.2) (mounts_unfit c.in_err-judged.field-0.0 j.judged)

pub returns-then-image-sit_count : goal.returns-then-image-sit_count
returns-then-image-sit_count c =
    let j : Judges c.args.table.now 0 c.judge-judged.result.places = rw c.in_ok-judged.was at c.judge-judged.ensures in
    mounts_small j c.sit_count.ensures.0 _ c.if-image-sit_count.true

pub write_image-requires : goal.write_image-requires
write_image-requires c =
    let j : Judges c.args.table.now 0 c.judge-judged.result.places = rw c.in_ok-judged.was at c.judge-judged.ensures in
    mountable j c.sit_count.ensures.0 _ c.if-image-sit_count.false

pub returns : goal.returns
returns c =
    let j : Judges c.args.table.now 0 c.judge-judged.result.places = rw c.in_ok-judged.was at c.judge-judged.ensures in
    mounts_written j c.sit_count.ensures.0 _ c.if-image-sit_count.false c.write_image.ensures
