-- What `visit` has under way: the marks m, and n threads in the list w, which has the shape of a slot. Assumes nothing.
use Rattle.std.specs.Prelude.{◌≡◌, Bool, List, ℕ, ◌≤◌, ◌<◌, length}
use Rattle.paths.specs.Search.{has}
use Rattle.paths.specs.Registers.{Tags}
use Rattle.paths.specs.Marks.{Marked}
use Rattle.explore.specs.States.{Below, marked, count_of}
use Rattle.explore.specs.Slots.{threads_at}

-- no more threads than marks, of records below N
pub record Ready (N : ℕ) (m : List Bool) (w : List ℕ) (n : ℕ) : Type 0 where
  pub wide : length m ≡ 64
  pub size : length w ≡ 578
  pub room : n ≤ count_of m
  pub few : count_of m ≤ 64
  pub below : Below N (threads_at w 2 n)

pub record Means (m : List Bool) (w : List ℕ) (n : ℕ) (s : Marked Tags) : Type 0 where
  pub marks : (r : ℕ) → r < 64 → has r s.marks ≡ marked m r
  pub list : threads_at w 2 n ≡ s.list
