-- `put` meets its contract. Assumes nothing.
use Rattle.std.proofs.Common.{◌≡◌, ℕ, ◌+◌, ◌≤◌, List, length, arith, refl, append_assoc}
use Rattle.std.proofs.lemmas.List.{drop-drop}
use Rattle.std.proofs.lemmas.List.Edits.{sets, sets-eq}
use borrow.Rule.Slice.PartMut.{put_mid}
use Rattle.pattern.proofs.writing.put.Goals as goal

part_sets : (l vs ys : List ℕ) (o k : ℕ) → o + length vs ≤ length l → k ≡ length vs → ys ≡ vs → put_mid o k l ys ≡ sets l o vs
part_sets l vs ys o k h e g = rw (e, g, drop-drop (length vs) o l, sets-eq vs l o h, append_assoc)

pub returns : goal.returns
returns c = record { held = part_sets c.args.out.now c.args.bytes.now _ c.args.o _ (omega arith) (omega arith) c.copy_from_slice.ensures.after; on = refl }
