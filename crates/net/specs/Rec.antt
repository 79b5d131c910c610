-- Document 01, "Automaton file": "Every item is one byte of kind, then a body whose length the kind fixes. Record 0 of the automaton is the start."
-- An automaton is its records, by number. Assumes nothing: these are definitions.
use Rattle.std.specs.Prelude.{List, [], ℕ, ◌^◌, ◌/◌, ◌%◌, get_or}

pub data Rec : Type 0 where
  range : (lo hi next : ℕ) → Rec
  mask : (bits : List ℕ) (next : ℕ) → Rec
  fork : (first second : ℕ) → Rec
  tag : (t next : ℕ) → Rec
  end : (answer : ℕ) → Rec

abbrev pub Net : Type 0
Net = List Rec

-- the record of that number; past the last one stands a MASK that allows no byte, so no path leaves it
abbrev pub rec : Net → ℕ → Rec
rec A r = get_or A r (mask [] 0)

-- "byte b is allowed when bit b mod 8 (0 lowest) of body byte b div 8 is set"
abbrev pub bit : List ℕ → ℕ → ℕ
bit bits b = get_or bits (b / 8) 0 / 2 ^ (b % 8) % 2
