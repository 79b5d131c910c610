-- A line from its beginning to its end. Assumes nothing.
use Prim.Native.Nat.{ℕ, ◌*◌, ◌≤◌}
use native.Mathlib.Omega.{arith}
use mathlib.Core.Path.{◌≡◌, refl, ap, ◌∙◌}
use mathlib.Core.List.{List}
use lib.ListN.{length, get_or, replicate}
use Rattle.card.specs.Run.{Bank, absent, line_max}
use Rattle.card.specs.Decode.{cmds_at}
use Rattle.run.specs.Carry.{carry}
use Rattle.run.proofs.Cells.{regs_carry}
use Rattle.ride.specs.Ride.{only_sets, rides_from, started}
use Rattle.ride.specs.Need.{regs, left, ended, Standing, Glidable, Reached, Fits}
use Rattle.std.specs.Prelude.{Some}
use Rattle.ride.proofs.Obeying.{sources_sets}
use Rattle.ride.proofs.Riding.{line_ends}

-- the bank before the first byte
abbrev pub Begun : List ℕ → Bank → Type 0
Begun s bank = bank ≡ carry (only_sets (cmds_at s 5)) 0 (replicate 128 absent) (replicate 128 absent)

registers : (s : List ℕ) {bank : Bank} → Begun s bank → regs bank ≡ started s
unfolding started
registers s h = ap regs h ∙ regs_carry (only_sets (cmds_at s 5)) (sources_sets (cmds_at s 5)) 0 (replicate 128 absent) (replicate 128 absent)

pub fits : {s image : List ℕ} {count : ℕ} → (count ≡ get_or s 4 0) × (count ≤ 255) → (count ≡ 0 → ⊥) → 257 * count ≤ length image → Fits s image count
fits c n r = record { counted = c.0; some = omega arith; few = c.1; room = r }

module _ {s image : List ℕ} {count : ℕ} (f : Fits s image count) where
  pub limit_is : 256 * count ≡ 256 * get_or s 4 0
  limit_is = ap (λ (n : ℕ). 256 * n) f.counted

  starting : Standing image (256 * count) 0
  starting = record {
    room = omega (arith, f.room);
    rows = omega arith;
    begins = refl;
    inside = omega (arith, f.some);
    small = omega arith;
  }

  module _ {w : List ℕ} (short : length w ≤ line_max) where
    pub glides : Glidable image (256 * count) w 0 0
    glides = record { standing = starting; within = omega arith; short = short }

    pub glides_on : {p row q there : ℕ} {old new : Bank} → Reached image w (256 * count) p row old q there new → Glidable image (256 * count) w q there
    glides_on r = record { standing = r.standing; within = r.within; short = short }

  module _ (w : List ℕ) {bank : Bank} (h : Begun s bank) where
    pub begins_so : left s image 0 bank 0 w ≡ rides_from s image 0 (started s) 0 w
    begins_so = ap (λ (b : Bank). rides_from s image 0 b 0 w) (registers s h)

    module _ {p row : ℕ} {mid : Bank} (r : Reached image w (256 * count) 0 0 bank p row mid) where
      pub rest_so : left s image row mid p w ≡ rides_from s image 0 (started s) 0 w
      rest_so = r.same s limit_is ∙ begins_so

      pub end_so : length w ≤ p → ended s image (Some row) mid ≡ rides_from s image 0 (started s) 0 w
      end_so l = line_ends s image row mid w p l ∙ rest_so
