-- A list of commands and a byte, where no register that is read is empty. Assumes nothing: these are definitions.
use Rattle.std.specs.Prelude.{◌≡◌, Bool, true, false, List, [], ◌∷◌, ◌⊎◌, ℕ, ◌+◌, ◌≤◌, ◌<◌, length, get_or, set, ℤ, pos, ltb}
use Rattle.card.specs.Table.{Cmd, move, put, Row}
use Rattle.ground.specs.Pick.{pick}
use Rattle.card.specs.Run.{Bank, reg, absent, line_max, lost, over}
use Rattle.card.specs.Decode.{cmds_at, table_at}
use Rattle.loader.specs.Flow.{Ready}

-- "One list reads all its sources before it writes": from the old bank
unfoldable pub carry : List Cmd → (place : ℕ) → (old cur : Bank) → Bank
carry [] p old cur = cur
carry (move t f ∷ l) p old cur = carry l p old (set cur t (reg old f))
carry (put t ∷ l) p old cur = carry l p old (set cur t (pos p))

-- whether no command stands at a place
pub record Alone (s : List ℕ) (at : ℕ) (r : Bool) : Type 0 where
  pub none : r ≡ true → cmds_at s at ≡ []
  pub some : r ≡ false → cmds_at s at ≡ [] → ⊥

-- the list at a place is carried out, or nothing is done
pub record Tried (s : List ℕ) (at place : ℕ) (old cur new : Bank) (r : Bool) : Type 0 where
  pub done : r ≡ true → new ≡ carry (cmds_at s at) place old cur
  pub left : r ≡ false → new ≡ old

-- a row, by the situation that it leads to and the place of its commands
pub record LeadsTo (s : List ℕ) (x : Row) (n at : ℕ) : Type 0 where
  pub next : x.next ≡ n
  pub cmds : x.cmds ≡ cmds_at s at

-- a field that names no register says absent
abbrev pub field_at : Bank → ℕ → ℤ
field_at bank f = pick (ltb f 64) (reg bank f) absent

-- each of the eight fields at a place is absent or a register
pub record Eight (s : List ℕ) (at : ℕ) : Type 0 where
  pub room : at + 8 ≤ length s
  pub fields : (t : ℕ) → t < 8 → (get_or s (at + t) 0 ≡ 255) ⊎ (get_or s (at + t) 0 < 64)

-- a line that a table takes without being lost on the way
pub record Rides (s places w : List ℕ) : Type 0 where
  pub ready : Ready s places
  pub short : length w ≤ line_max
  pub found : over (table_at s) w ≡ lost → ⊥
