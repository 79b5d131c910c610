-- What is written of an atom and of what repeats it. Assumes nothing.
use Prim.Native.Nat.{ℕ, ◌+◌, ◌≤◌, ◌<◌}
use mathlib.Core.Path.{◌≡◌, refl, sym}
use mathlib.Core.List.{List, ◌++◌}
use mathlib.Core.Bool.{false}
use native.Mathlib.Omega.{arith}
use Rattle.std.specs.Prelude.{Ok}
use lib.ListN.{length}
use Rattle.ground.specs.Lists.{Wrote}
use Rattle.ground.specs.Pick.{look}
use Rattle.ground.proofs.Stores.{wrote_then, wrote_length}
use Rattle.net.specs.Rec.{fork}
use Rattle.net.specs.File.{rec_bytes}
use Rattle.pattern.specs.Pat.{start_at, size, Plus}
use Rattle.pattern.specs.Reader.{piece, atom, repeating, read}
use Rattle.pattern.specs.Writing.{coded, sized, Room}
use Rattle.pattern.specs.Measured.{measured}
use Rattle.pattern.specs.declared.reading.Sum.{Sum}
use Rattle.pattern.proofs.Emit.{start_below}
use Rattle.pattern.proofs.Steps.{inv}
use Rattle.pattern.proofs.EmitSteps.{Is, is_inv, sized_of, fork_first, fork_then, star_sized, star_coded, opt_sized, opt_coded, plus_coded, plus_first, plus_fork, piece_is_star, piece_is_plus, piece_is_opt, piece_is_one, room_same, room_moved, wrote_same, wrote_whole, forked, below}

-- an atom was measured, and its piece is to be written from o on
pub record Measured (s : List ℕ) (d i n f o : ℕ) (b : List ℕ) (e : ℕ) (m : Sum) : Type 0 where
  pub within : i ≤ length s
  pub is : Ok (e, m) ≡ measured (read s atom d i)
  pub room : Room (read s piece d i) n f o (length b)

pub measured_at : (s : List ℕ) (d i : ℕ) {n f o e : ℕ} {m : Sum} (b : List ℕ) → i ≤ length s → Ok (e, m) ≡ measured (read s atom d i) → Room (read s piece d i) n f o (length b) → Measured s d i n f o b e m
measured_at s d i b h q r = record { within = h; is = q; room = r }

module _ {s : List ℕ} {d i n f o : ℕ} {b : List ℕ} {e : ℕ} {m : Sum} (v : Measured s d i n f o b e m) where
  its_is : Is (read s atom d i) (inv (read s atom d i) v.is).pat
  its_is = is_inv (read s atom d i) v.is

  its_size : size (inv (read s atom d i) v.is).pat ≡ m.size
  its_size = sized_of (read s atom d i) v.is

  -- a FORK first, then the atom, which g follows
  pub record Ahead (g : ℕ) : Type 0 where
    pub more : sized (read s piece d i) ≡ sized (read s atom d i) + 1
    pub whole : coded (read s piece d i) n f ≡ rec_bytes (fork (start_at m.size (n + 1) g) f) ++ coded (read s atom d i) (n + 1) g
    pub follow : g < 256

  pub star_ahead : look s e ≡ 42 → Ahead n
  star_ahead c =
      let x = piece_is_star s d i v.within v.is c in let r = v.room.numbers in
      let y = star_sized (read s piece d i) (read s atom d i) _ its_is n f m.size its_size x in
      record { more = y; whole = star_coded (read s piece d i) (read s atom d i) _ its_is n f m.size its_size x; follow = omega arith }

  pub opt_ahead : look s e ≡ 63 → Ahead f
  opt_ahead c =
      let x = piece_is_opt s d i v.within v.is c in
      record {
        more = opt_sized (read s piece d i) (read s atom d i) _ its_is n f m.size its_size x;
        whole = opt_coded (read s piece d i) (read s atom d i) _ its_is n f m.size its_size x;
        follow = v.room.follow;
      }

  module _ {g : ℕ} (k : Ahead g) {x : ℕ} (ex : x ≡ start_at m.size (n + 1) g) where
    pub ahead_fork : (o + 3 ≤ length b) × (x < 256) × (f < 256)
    ahead_fork =
        let y = v.room.numbers in let z = k.more in
        (fork_first (read s piece d i) (read s atom d i) _ its_is n f g _ f k.more k.whole o (length b) v.room k.follow, below _ _ 256 ex (start_below m.size (n + 1) g 256 (omega arith) k.follow), v.room.follow)

    module _ {a : ℕ} {b₁ : List ℕ} (w : Wrote b b₁ o a (rec_bytes (fork x f))) where
      pub ahead_room : Room (read s atom d i) (n + 1) g a (length b₁)
      ahead_room =
          room_moved (read s atom d i) (n + 1) g (o + 3) a (length b) (length b₁) (sym w.on) (sym (wrote_length _ w))
          (fork_then (read s piece d i) (read s atom d i) _ its_is n f g _ f k.more k.whole o (length b) v.room k.follow)

      pub ahead_wrote : {p : ℕ} {b₂ : List ℕ} → Wrote b₁ b₂ a p (coded (read s atom d i) (n + 1) g) → Wrote b b₂ o p (coded (read s piece d i) n f)
      ahead_wrote y = wrote_whole _ _ _ _ _ _ k.whole (wrote_then _ _ (forked _ _ _ _ _ _ _ _ ex refl w) y)

  -- the atom first, then the FORK
  module _ (c : look s e ≡ 43) where
    its_plus : Is (read s piece d i) (Plus (inv (read s atom d i) v.is).pat)
    its_plus = piece_is_plus s d i v.within v.is c

    pub plus_room : Room (read s atom d i) n (n + m.size) o (length b)
    plus_room = plus_first (read s piece d i) (read s atom d i) _ its_is n f m.size its_size its_plus o (length b) v.room

    module _ {a : ℕ} {b₁ : List ℕ} (w : Wrote b b₁ o a (coded (read s atom d i) n (n + m.size))) {x : ℕ} (ex : x ≡ start_at m.size n (n + m.size)) where
      pub plus_last : (a + 3 ≤ length b₁) × (x < 256) × (f < 256)
      plus_last =
          let y = plus_fork (read s piece d i) (read s atom d i) _ its_is n f m.size its_size its_plus o (length b) v.room in
          let z = w.on in let l = wrote_length _ w in
          (omega arith, below _ _ 256 ex y.1, y.2)

      pub plus_wrote : {p : ℕ} {b₂ : List ℕ} → Wrote b₁ b₂ a p (rec_bytes (fork x f)) → Wrote b b₂ o p (coded (read s piece d i) n f)
      plus_wrote y =
          wrote_whole _ _ _ _ _ _ (plus_coded (read s piece d i) (read s atom d i) _ its_is n f m.size its_size its_plus)
          (wrote_then _ _ w (forked _ _ _ _ _ _ _ _ ex refl y))

  -- the atom alone
  module _ (c : repeating (look s e) ≡ false) where
    pub one_room : Room (read s atom d i) n f o (length b)
    one_room = room_same (read s piece d i) (read s atom d i) _ n f o (length b) (piece_is_one s d i v.within v.is c) its_is v.room

    pub one_wrote : {p : ℕ} {b₂ : List ℕ} → Wrote b b₂ o p (coded (read s atom d i) n f) → Wrote b b₂ o p (coded (read s piece d i) n f)
    one_wrote w = wrote_same _ _ _ _ (read s piece d i) (read s atom d i) _ n f (piece_is_one s d i v.within v.is c) its_is w
