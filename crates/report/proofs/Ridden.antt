-- A taken table is mounted in an image with room for 96 situations, and a ride over that image tells of each record what is printed. Assumes nothing.
use mathlib.Core.Path.{◌≡◌, refl, sym, ap, ◌∙◌, subst}
use mathlib.Core.Logic.{◌⊎◌, inl, inr}
use mathlib.Core.List.{List}
use Prim.Native.Nat.{ℕ, ◌<◌, ◌≤◌}
use native.Mathlib.Omega.{arith}
use lib.ListN.{length, get_or}
use Rattle.card.specs.Run.{line_max, Told, refused}
use Rattle.card.specs.Judged.{Judged}
use Rattle.card.specs.Decode.{table_at}
use Rattle.ground.proofs.Tests.{lt_or_le}
use Rattle.loader.proofs.Situated.{table_long}
use Rattle.loader.proofs.Judging.{is_formed, judged_one}
use Rattle.run.specs.Runs.{long, fit}
use Rattle.ground.proofs.Every.{all_bytes}
use Rattle.image.specs.Image.{Mounts, unfit, small, written}
use Rattle.ride.specs.Ride.{ridden}
use Rattle.ride.proofs.Same.{ride_is_run}
use Rattle.report.specs.Text.{Wrote}
use Rattle.report.specs.Printed.{told_line, record_line}
use Rattle.report.specs.Steps.{Mounted}
use Rattle.report.proofs.Choosing.{wrote_as, told_refused, record_long, record_told}

-- mounting refuses no taken table
mounts_taken : {s old new : List ℕ} {c : ℕ} → Mounts s old new c → Judged s 0 → length old ≡ 24672 → c ≡ 0
mounts_taken (unfit c j n) t r = absurd (n (judged_one j t))
mounts_taken {s} (small j l) t r = absurd (omega (arith, table_long s, (is_formed t).0.most))
mounts_taken (written new j l i) t r = refl

pub mounted : {s old new : List ℕ} {c : ℕ} → Mounts s old new c → Judged s 0 → length old ≡ 24672 → Mounted s new
mounted {s} {old} {new} m t r = record { taken = t; old = old; mounts = subst (Mounts s old new) (mounts_taken m t r) m }

module _ {s image : List ℕ} (m : Mounted s image) (w : List ℕ) (b : (i : ℕ) → get_or w i 0 < 256) where
  by_length : (line_max < length w) ⊎ (length w ≤ line_max) → told_line (ridden s image w) ≡ record_line (table_at s) w
  by_length (inl l) =
      ap told_line (ride_is_run m.mounts refl w (all_bytes w b) (long m.taken l))
      ∙ sym (told_refused (refused 15) (λ z. omega arith)) ∙ record_long (table_at s) w l
  by_length (inr l) =
      let f = is_formed m.taken in
      ap told_line (ride_is_run m.mounts refl w (all_bytes w b) (fit m.taken l (table_at s) f.0 f.1))
      ∙ record_told (table_at s) w l

  -- what a ride tells of a record is the record's line
  pub ridden_line : told_line (ridden s image w) ≡ record_line (table_at s) w
  ridden_line = by_length (lt_or_le line_max (length w))

  -- what is written of a ride's result is the record's line
  pub rode_line : {a b : List ℕ} {at r : ℕ} {t : Told} → t ≡ ridden s image w → Wrote a b at r (told_line t) → Wrote a b at r (record_line (table_at s) w)
  rode_line e wrote = wrote_as (ap told_line e ∙ ridden_line) wrote
