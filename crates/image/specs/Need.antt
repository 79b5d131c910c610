-- What the inner functions of mounting are told and say. Assumes nothing: these are definitions.
use Rattle.std.specs.Prelude.{◌≡◌, List, [], ◌∷◌, ◌++◌, ℕ, ◌+◌, ◌*◌, ◌<◌, ◌≤◌, length, get_or}
use Rattle.card.specs.Table.{Cmd, move, put}
use Rattle.card.specs.Decode.{cmd_at, cmds_at}
use Rattle.card.specs.declared.Order.{Order}
use Rattle.card.specs.declared.Order.TheVariants.{Move, Put, Stop}
use Rattle.image.specs.declared.sorts.Kind.{Kind}
use Rattle.image.specs.declared.sorts.Kind.TheVariants.{Alone, Block, Sets, Moves}
use Rattle.loader.specs.Flow.{Ready}
use Rattle.image.specs.Image.{puts, moves, list_kind, points, spot_at, entry_at}

-- the 256 entries of the situation whose rows stand at a place
pub record RowImaged (s : List ℕ) (at : ℕ) (row : List ℕ) : Type 0 where
  pub entries : (b : ℕ) → b < 256 → get_or row b 0 ≡ entry_at s (spot_at s at b)

-- a table that is ready, with places that fit an entry, and an image with room
pub record Mountable (s places image : List ℕ) : Type 0 where
  pub ready : Ready s places
  pub short : length s < 8388608
  pub room : 257 * get_or s 4 0 ≤ length image

-- n commands like a first one, each of the registers after the last one's
abbrev pub stretch_of : Order → ℕ → List Cmd
stretch_of (Put a) n = puts a n
stretch_of (Move a f) n = moves a f n
stretch_of Stop n = []

-- a list that goes on with one more
abbrev pub on_with : Order → ℕ → List Cmd → List Cmd
on_with (Put a) n l = put (a + n) ∷ l
on_with (Move a f) n l = move (a + n) (f + n) ∷ l
on_with Stop n l = l

-- n registers from the first one's on are in the bank
abbrev pub Inside : Order → ℕ → Type 0
Inside (Put a) n = a + n ≤ 64
Inside (Move a f) n = (a + n ≤ 64) × (f + n ≤ 64)
Inside Stop n = ⊥

-- n commands like a first one stand at a place, no other follows at the place after them, and their registers are in the bank
pub record Stretched (s : List ℕ) (at : ℕ) (first : Order) (n after : ℕ) : Type 0 where
  pub here : cmds_at s at ≡ stretch_of first n ++ cmds_at s after
  pub stops : (l : List Cmd) → cmds_at s after ≡ on_with first n l → ⊥
  pub inside : Inside first n

-- the list at a place begins with a SET of a register
pub record Begins (s : List ℕ) (at a : ℕ) : Type 0 where
  pub first : cmd_at s at ≡ Put a

-- the kind of the list at a place, and what its entry points to
pub record Sorted (s : List ℕ) (at k p : ℕ) : Type 0 where
  pub kind : k ≡ list_kind (cmds_at s at)
  pub spot : p ≡ points (cmds_at s at) at

-- a kind's number in an entry
abbrev pub kind_number : Kind → ℕ
kind_number Alone = 0
kind_number Block = 1
kind_number Sets = 2
kind_number Moves = 3
