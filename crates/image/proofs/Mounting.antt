-- Mounting, from the judgement and the image's room; its promise settles the code and the image. Assumes nothing.
use Prim.Native.Nat.{ℕ, ◌*◌, ◌<◌, ◌≤◌}
use native.Mathlib.Omega.{arith}
use mathlib.Core.Path.{◌≡◌, refl, ap, subst}
use mathlib.Core.List.{List}
use lib.ListN.{length, get_or}
use Rattle.card.specs.Judged.{Judged}
use Rattle.answers.specs.Refusals.{code_of}
use Rattle.answers.specs.declared.Refusal.{Refusal}
use Rattle.answers.proofs.Refusals.{code_above_ok}
use Rattle.loader.specs.Judges.{Judges}
use Rattle.loader.proofs.Judging.{is_formed, is_ready, judged_one}
use Rattle.card.specs.Decode.{table_at}
use Rattle.image.specs.Image.{Imaged, Mounts, unfit, small, written}
use Rattle.image.specs.Need.{Mountable}
use Rattle.image.proofs.Bounds.{table_short}
use Rattle.image.proofs.Written.{imaged_one}

-- a table that is taken is short
pub taken_short : {s : List ℕ} → Judged s 0 → length s < 8388608
taken_short {s} j = let f = is_formed j in omega (arith, ap length f.1, table_short (table_at s) f.0)

-- a table that is not taken
pub mounts_unfit : {s old : List ℕ} (e : Refusal) → Judged s (code_of e) → Mounts s old old (code_of e)
mounts_unfit e j = let h = code_above_ok e in unfit (code_of e) j (λ z. omega arith)

module _ {s p : List ℕ} (j : Judges s 0 p) {count : ℕ} (k : count ≡ get_or s 4 0) (old : List ℕ) where
  pub mounts_small : length old < 257 * count → Mounts s old old 12
  mounts_small l = small j.judged (omega arith)

  module _ (l : 257 * count ≤ length old) where
    pub mountable : Mountable s p old
    mountable = record { ready = is_ready j; short = taken_short j.judged; room = omega arith }

    pub mounts_written : {new : List ℕ} → Imaged s old new → Mounts s old new 0
    mounts_written {new} i = written new j.judged (omega arith) i

pub mounts_one : {s old a b : List ℕ} {c d : ℕ} → Mounts s old a c → Mounts s old b d → (a ≡ b) × (c ≡ d)
mounts_one (unfit c j n) (unfit d k m) = (refl, judged_one j k)
mounts_one (unfit c j n) (small k l) = absurd (n (judged_one j k))
mounts_one (unfit c j n) (written b k l i) = absurd (n (judged_one j k))
mounts_one (small j h) (unfit d k m) = absurd (m (judged_one k j))
mounts_one (small j h) (small k l) = (refl, refl)
mounts_one (small j h) (written b k l i) = absurd (omega arith)
mounts_one (written a j h i) (unfit d k m) = absurd (m (judged_one k j))
mounts_one (written a j h i) (small k l) = absurd (omega arith)
mounts_one (written a j h f) (written b k l g) = (imaged_one f g, refl)
