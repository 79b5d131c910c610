-- A table read back from its bytes, item by item at a place. Anything that is no whole legal item ends the list that it stands in,
-- so the reading is total; a law says that of what `bytes_of` writes of a formed table it gives that table back. Assumes nothing: these are definitions.
use Rattle.std.specs.Prelude.{List, [], ◌∷◌, ℕ, zero, suc, ◌+◌, ◌-◌, length, get_or, take, drop, ltb, leb, eqb}
use Rattle.ground.specs.Pick.{pick}
use Rattle.card.specs.Table.{Cmd, move, put, Row, Sit, Table}
use Rattle.card.specs.declared.Order.{Order}
use Rattle.card.specs.declared.Order.TheVariants.{Move, Put, Stop}
use Rattle.std.specs.Prelude.{Option, Some, None}

-- ---- commands

unfoldable pub cmd_at : List ℕ → ℕ → Order
cmd_at s at =
    pick (leb (length s) at) Stop
    (pick (eqb (get_or s at 0) 0x24)
    (pick (ltb (length s - at) 3) Stop
    (pick (leb 64 (get_or s (at + 1) 0)) Stop
    (pick (leb 64 (get_or s (at + 2) 0)) Stop
    (Move (get_or s (at + 1) 0) (get_or s (at + 2) 0)))))
    (pick (eqb (get_or s at 0) 0x25)
    (pick (ltb (length s - at) 2) Stop
    (pick (leb 64 (get_or s (at + 1) 0)) Stop
    (Put (get_or s (at + 1) 0))))
    Stop))

-- a command before those that follow; the first number bounds how many there can be
abbrev pub before : Order → (ℕ → List Cmd) → List Cmd
before (Move to from) k = move to from ∷ k 3
before (Put to) k = put to ∷ k 2
before Stop k = []

unfoldable pub cmds_n : ℕ → List ℕ → ℕ → List Cmd
cmds_n zero s at = []
cmds_n (suc n) s at = before (cmd_at s at) (λ (d : ℕ). cmds_n n s (at + d))

unfoldable pub cmds_at : List ℕ → ℕ → List Cmd
cmds_at s at = cmds_n (length s) s at

-- the place after the commands at a place
abbrev pub past : Order → ℕ → (ℕ → ℕ) → ℕ
past (Move to from) at k = k 3
past (Put to) at k = k 2
past Stop at k = at

unfoldable pub after_n : ℕ → List ℕ → ℕ → ℕ
after_n zero s at = at
after_n (suc n) s at = past (cmd_at s at) at (λ (d : ℕ). after_n n s (at + d))

unfoldable pub after_at : List ℕ → ℕ → ℕ
after_at s at = after_n (length s) s at

-- ---- rows

-- its bytes from and to, and where it leads
abbrev pub RowItem : Type 0
RowItem = Option (ℕ × ℕ × ℕ)

unfoldable pub row_at : List ℕ → ℕ → RowItem
row_at s at =
    pick (leb (length s) at) None
    (pick (eqb (get_or s at 0) 0x23)
    (pick (ltb (length s - at) 4) None
    (Some (get_or s (at + 1) 0, get_or s (at + 2) 0, get_or s (at + 3) 0)))
    None)

abbrev pub row_then : RowItem → List Cmd → List Row → List Row
row_then (Some (lo, hi, next)) cmds more = record { lo = lo; hi = hi; next = next; cmds = cmds } ∷ more
row_then None cmds more = []

unfoldable pub rows_n : ℕ → List ℕ → ℕ → List Row
rows_n zero s at = []
rows_n (suc n) s at = row_then (row_at s at) (cmds_at s (at + 4)) (rows_n n s (after_at s (at + 4)))

unfoldable pub rows_at : List ℕ → ℕ → List Row
rows_at s at = rows_n (length s) s at

-- the place after the rows at a place
abbrev pub past_row : RowItem → ℕ → ℕ → ℕ
past_row (Some (lo, hi, next)) at more = more
past_row None at more = at

unfoldable pub after_rows_n : ℕ → List ℕ → ℕ → ℕ
after_rows_n zero s at = at
after_rows_n (suc n) s at = past_row (row_at s at) at (after_rows_n n s (after_at s (at + 4)))

unfoldable pub after_rows : List ℕ → ℕ → ℕ
after_rows s at = after_rows_n (length s) s at

-- ---- situations: a SITUATION item has ten bytes, and its rows follow

unfoldable pub sit_at : List ℕ → ℕ → Sit
sit_at s at = record { answer = get_or s (at + 1) 0; fields = take 8 (drop (at + 2) s); rows = rows_at s (at + 10) }

-- n situations from a place on, and their places
unfoldable pub sits_from : ℕ → List ℕ → ℕ → List Sit
sits_from zero s at = []
sits_from (suc n) s at = sit_at s at ∷ sits_from n s (after_rows s (at + 10))

unfoldable pub places_from : ℕ → List ℕ → ℕ → List ℕ
places_from zero s at = []
places_from (suc n) s at = at ∷ places_from n s (after_rows s (at + 10))

-- ---- the whole: a HEAD of five bytes, the start's commands, the situations that the HEAD counts

unfoldable pub table_at : List ℕ → Table
table_at s =
    record {
      tags = get_or s 2 0;
      registers = get_or s 3 0;
      start = cmds_at s 5;
      sits = sits_from (get_or s 4 0) s (after_at s 5);
    }

unfoldable pub places_of : List ℕ → List ℕ
places_of s = places_from (get_or s 4 0) s (after_at s 5)
