-- A position and what it says: "Tag positions are signed sixteen-bit, -1 or 0 to 32767."
-- Assumes nothing: these are definitions.
use Rattle.std.specs.Prelude.{ℕ, ◌≤◌, ℤ, pos, negsuc, Option, Some, None}

-- the largest place that a position says
abbrev pub place_max : ℕ
place_max = 32767

-- -1, which says that there is no place
abbrev pub absent : ℤ
absent = negsuc 0

-- what a position says: a place, or nothing below zero
abbrev pub Place : Type 0
Place = Option ℕ

unfoldable pub place_of : ℤ → Place
place_of (pos n) = Some n
place_of (negsuc n) = None

-- the position that says it
abbrev pub held_of : Place → ℤ
held_of (Some n) = pos n
held_of None = absent

-- the positions of document 01: -1, or 0 to 32767
pub data Position : ℤ → Type 0 where
  none : Position absent
  at : {n : ℕ} → n ≤ place_max → Position (pos n)
