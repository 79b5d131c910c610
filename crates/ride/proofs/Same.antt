-- A ride over the image that mounting writes of a taken table is the run of that table. Assumes nothing.
use Prim.Native.Nat.{ℕ, suc, ◌+◌, ◌*◌, ◌<◌, ◌≤◌}
use native.Mathlib.Omega.{arith}
use mathlib.Core.Path.{◌≡◌, refl, sym, ap, ap₂, ◌∙◌, subst}
use mathlib.Core.Bool.{Bool, false}
use mathlib.Core.Logic.{◌⊎◌, inl, inr, ⊎_elim}
use mathlib.Core.List.{List, [], ◌∷◌}
use lib.ListN.{length, get_or}
use lib.IntN.{ℤ}
use lib.Dec.{eqb}
use Rattle.ground.specs.Pick.{pick}
use Rattle.card.specs.Table.{Cmd, Row, Sit, Table, Formed}
use Rattle.card.specs.Run.{Bank, line_max, empties, Out, ok, stuck, apply, State, at, lost, arrive, sit, row_for, row_in, step, run, begun, over, Line, Told, refused, told, ends, tells}
use Rattle.card.specs.Decode.{cmds_at, rows_at, sit_at, table_at, places_of}
use Rattle.card.specs.Judged.{Judged}
use Rattle.ground.specs.Lists.{Bytes}
use Rattle.ground.proofs.Tests.{lt_or_le}
use Rattle.loader.specs.Flow.{Ready}
use Rattle.loader.proofs.Shape.{leads_in, next_in}
use Rattle.loader.proofs.Situated.{table_long, sit_here, rows_here, room_here, count_most}
use Rattle.loader.proofs.Judging.{not_stuck, is_formed}
use Rattle.run.specs.Carry.{carry}
use Rattle.run.specs.Runs.{Runs, long, fit}
use Rattle.run.proofs.Carrying.{carried}
use Rattle.run.proofs.Filling.{told_fields}
use Rattle.run.proofs.Riding.{run_lost}
use Rattle.run.proofs.Telling.{eight}
use Rattle.run.proofs.One.{runs_one}
use Rattle.image.specs.Image.{next_of, spot_at, entry_at, Imaged, Mounts, unfit, small, written}
use Rattle.ride.specs.Ride.{orders, end_at, taking, rides_from, started, ridden}
use Rattle.ride.proofs.Riding.{counted}
use Rattle.ride.proofs.Telling.{end_of}
use Rattle.ride.proofs.Answering.{fit_room, ridden_long, ridden_on}
use Rattle.image.proofs.Mounting.{taken_short}
use Rattle.ride.proofs.Mounted.{SaysRow, sets_whole, spot_says}

-- ---- the way

module _ {s old image : List ℕ} (j : Judged s 0) (m : Imaged s old image) where
  abbrev T : Table
  T = table_at s

  formed : Formed (table_at s)
  formed = (is_formed j).0

  ready : Ready s (places_of s)
  ready = record { formed = formed; placed = λ q l. refl }

  in_sits : {q : ℕ} → q < get_or s 4 0 → q < length (table_at s).sits
  in_sits l = omega (arith, table_long s)

  module _ {q : ℕ} (l : q < get_or s 4 0) where
    -- the end
    same_end : (bank : Bank) → end_at s bank (get_or image (256 * get_or s 4 0 + q) 0) ≡ told (sit (table_at s) q) bank
    unfolding sit_at
    same_end bank =
        let r = room_here ready l in
        ap (end_at s bank) (m.places q l)
        ∙ sym (end_of s bank (get_or (places_of s) q 0) (omega arith))
        ∙ ap (λ (x : List ℤ). pick (eqb (get_or s (get_or (places_of s) q 0 + 1) 0) 255) (refused 16)
        (record { code = 0; answer = get_or s (get_or (places_of s) q 0 + 1) 0; places = x }))
        (told_fields bank (eight ready l) refl)
        ∙ sym (ap (λ (x : Sit). told x bank) (sit_here ready l))

    module _ {b : ℕ} (h : b < 256) where
      abbrev x : Row
      x = row_in (table_at s) q b

      next_inside : (row_in (table_at s) q b).next < get_or s 4 0
      next_inside =
          let k = next_in (table_at s) formed q (row_in (table_at s) q b) (in_sits l) (leads_in (table_at s) formed q b (in_sits l) h) in
          omega (arith, table_long s)

      says : SaysRow s (get_or image (256 * q + b) 0) (row_in (table_at s) q b)
      says =
          let r : row_for (rows_at s (get_or (places_of s) q 0 + 10)) b ≡ row_in (table_at s) q b = ap (λ (y : List Row). row_for y b) (rows_here ready l) in
          let n : (row_for (rows_at s (get_or (places_of s) q 0 + 10)) b).next < 128 = (let k = next_inside in let c = count_most ready in omega (arith, ap (λ (y : Row). y.next) r)) in
          subst (λ (e : ℕ). SaysRow s e (row_in (table_at s) q b)) (sym (m.entries q b l h))
          (subst (λ (y : Row). SaysRow s (entry_at s (spot_at s (get_or (places_of s) q 0 + 10) b)) y) r
          (spot_says s (taken_short j) b (get_or (places_of s) q 0 + 10) n))

      -- one byte
      same_byte : (bank : Bank) (place : ℕ) (onward : ℕ → Bank → Told)
          → taking s (get_or image (256 * q + b) 0) bank place onward ≡ onward (row_in (table_at s) q b).next (carry (row_in (table_at s) q b).cmds place bank bank)
      unfolding pick
      same_byte bank place onward =
          let y = says in
          ap (λ (t : Bool). pick t (refused 13) (onward (next_of (get_or image (256 * q + b) 0)) (carry (orders s (get_or image (256 * q + b) 0)) place bank bank)))
          (counted s (get_or image (256 * q + b) 0) false (let k = next_inside in omega (arith, y.next)) y.listed)
          ∙ ap₂ (λ (n : ℕ) (l : List Cmd). onward n (carry l place bank bank)) y.next y.orders

  -- a list that does not lose the way is carried out
  carried_out : (n p : ℕ) (w : List ℕ) (l : List Cmd) (place : ℕ) (bank : Bank) → (run (table_at s) (arrive n (apply l place bank bank)) p w ≡ lost → ⊥)
      → arrive n (apply l place bank bank) ≡ at n (carry l place bank bank)
  carried_out n p w l place bank found = by (carried l place bank bank)
    where
      by : (apply l place bank bank ≡ ok (carry l place bank bank)) ⊎ (apply l place bank bank ≡ stuck)
          → arrive n (apply l place bank bank) ≡ at n (carry l place bank bank)
      by (inl e) = ap (arrive n) e
      by (inr e) = absurd (found (ap (λ (o : Out). run (table_at s) (arrive n o) p w) e ∙ run_lost (table_at s) p w))

  same_way : (w : List ℕ) (q : ℕ) (bank : Bank) (p : ℕ) → q < get_or s 4 0 → Bytes w → (run (table_at s) (at q bank) p w ≡ lost → ⊥)
      → rides_from s image q bank p w ≡ ends (table_at s) (run (table_at s) (at q bank) p w)
  unfolding rides_from run step
  same_way [] q bank p l b found = same_end l bank
  same_way (c ∷ w) q bank p l b found =
      let e = carried_out (row_in (table_at s) q c).next (suc p) w (row_in (table_at s) q c).cmds (suc p) bank found in
      same_byte l b.0 bank (suc p) (λ (n : ℕ) (new : Bank). rides_from s image n new (suc p) w)
      ∙ same_way w (row_in (table_at s) q c).next (carry (row_in (table_at s) q c).cmds (suc p) bank bank) (suc p) (next_inside l b.0) b.1
      (λ z. found (ap (λ (y : State). run (table_at s) y (suc p) w) e ∙ z))
      ∙ sym (ap (λ (y : State). ends (table_at s) (run (table_at s) y (suc p) w)) e)

  -- the whole line
  same_line : (w : List ℕ) → Line w → rides_from s image 0 (started s) 0 w ≡ tells (table_at s) w
  unfolding started begun table_at
  same_line w l =
      let e = carried_out 0 0 w (cmds_at s 5) 0 empties found in
      ap (λ (k : List Cmd). rides_from s image 0 (carry k 0 empties empties) 0 w) (sets_whole (cmds_at s 5) formed.sets)
      ∙ same_way w 0 (carry (cmds_at s 5) 0 empties empties) 0 (omega (arith, table_long s, formed.some)) l.0
      (λ z. found (ap (λ (y : State). run (table_at s) y 0 w) e ∙ z))
      ∙ sym (ap (λ (y : State). ends (table_at s) (run (table_at s) y 0 w)) e)
    where
      found : over (table_at s) w ≡ lost → ⊥
      found z = not_stuck j (table_at s) formed (is_formed j).1 w l (inl z)

-- ---- the law

fitted : {s old image : List ℕ} → Judged s 0 → 257 * get_or s 4 0 ≤ length old → Imaged s old image → (w : List ℕ) → Bytes w
    → (length w ≤ line_max) ⊎ (line_max < length w) → Runs s w (ridden s image w)
fitted {s} {old} {image} j r m w b (inl l) =
    subst (Runs s w) (sym (same_line j m w (b, l)) ∙ ridden_on s image w (fit_room s image refl (λ z. omega (arith, table_long s, (is_formed j).0.some)) (omega (arith, m.long))) l)
    (fit j l (table_at s) (is_formed j).0 (is_formed j).1)
fitted {s} {old} {image} j r m w b (inr l) =
    subst (Runs s w) (ridden_long s image w (fit_room s image refl (λ z. omega (arith, table_long s, (is_formed j).0.some)) (omega (arith, m.long))) l) (long j l)

short_or_long : (n : ℕ) → (n ≤ line_max) ⊎ (line_max < n)
short_or_long n = ⊎_elim (λ (h : line_max < n). inr h) (λ (h : n ≤ line_max). inl h) (lt_or_le line_max n)

-- with the image that mounting wrote, a ride answers what a run may answer
pub ride_runs : {s old image : List ℕ} {c : ℕ} → Mounts s old image c → c ≡ 0 → (w : List ℕ) → Bytes w → Runs s w (ridden s image w)
ride_runs (unfit c j n) z w b = absurd (n z)
ride_runs (small j l) z w b = absurd (omega arith)
ride_runs (written image j r m) z w b = fitted j r m w b (short_or_long (length w))

-- and a run answers one thing alone
pub ride_is_run : {s old image : List ℕ} {c : ℕ} → Mounts s old image c → c ≡ 0 → (w : List ℕ) → Bytes w → {t : Told} → Runs s w t → ridden s image w ≡ t
ride_is_run m z w b r = runs_one (ride_runs m z w b) r

-- a second result that meets a ride's promise is equal
pub ride_one : (s image w : List ℕ) {t u : Told} → t ≡ ridden s image w → u ≡ ridden s image w → t ≡ u
ride_one s image w e f = e ∙ sym f
