-- What is known of the records of an automaton file, read straight from its bytes at an offset. Assumes nothing.
use Rattle.std.specs.Prelude.{Option, Some, None, List, [], ◌∷◌, ℕ, ◌+◌, ◌≤◌, ◌<◌, length, get_or}
use Rattle.net.specs.Items.{size, rec_at}
use Rattle.net.specs.Rec.{Rec, range, mask, fork, tag, end}
use Rattle.paths.specs.Ways.{Move}

-- every number in it is in range
abbrev pub Inside : ℕ → Rec → Type 0
Inside N (range lo hi n) = n < N
Inside N (mask bits n) = n < N
Inside N (fork x y) = (x < N) × (y < N)
Inside N (tag t n) = (t < 8) × (n < N)
Inside N (end a) = Unit {0}

-- what the reader has made sure of
pub record Formed (f offs : List ℕ) : Type 0 where
  pub few : length offs ≤ 64
  pub whole : (r : ℕ) → r < length offs → get_or offs r 0 + size (get_or f (get_or offs r 0) 0) ≤ length f
  pub inside : (r : ℕ) → r < length offs → Inside (length offs) (rec_at f (get_or offs r 0))

-- the record that a byte leads to, if it takes one
abbrev pub lands : List (Move × ℕ) → Option ℕ
lands [] = None
lands (e ∷ es) = Some e.1
