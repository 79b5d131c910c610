-- The work memory: situations in slots of 578 bytes. Assumes nothing.
use Rattle.std.specs.Prelude.{Option, MatchOption, ◌≡◌, ◌⊎◌, true, false, List, [], ◌∷◌, ℕ, zero, suc, ◌+◌, ◌*◌, ◌≤◌, ◌<◌, length, get_or}
use Rattle.paths.specs.Search.{Thread}
use Rattle.paths.specs.Registers.{Tags}
use Rattle.paths.specs.Equal.{same_situation}
use Rattle.paths.specs.Numbering.{among}
use Rattle.explore.specs.Lists.{position}
use Rattle.explore.specs.States.{tags_of, thread_of, Below}
use Rattle.explore.specs.declared.Entry.{Entry}

-- n bytes from k on
unfoldable pub row : List ℕ → ℕ → ℕ → List ℕ
row w k zero = []
row w k (suc n) = get_or w k 0 ∷ row w (k + 1) n

unfoldable pub thread_at : List ℕ → ℕ → Thread Tags
thread_at w at = record { on = get_or w at 0; had = tags_of (row w (at + 1) 8) }

unfoldable pub threads_at : List ℕ → ℕ → ℕ → List (Thread Tags)
threads_at w at zero = []
threads_at w at (suc n) = thread_at w at ∷ threads_at w (at + 9) n

unfoldable pub slot : List ℕ → ℕ → List (Thread Tags)
slot w j = threads_at w (578 * j + 2) (get_or w (578 * j) 0)

-- n slots from j on
unfoldable pub slots : List ℕ → ℕ → ℕ → List (List (Thread Tags))
slots w j zero = []
slots w j (suc n) = slot w j ∷ slots w (j + 1) n

pub record PutAt (w w' : List ℕ) (at : ℕ) (e : Entry) : Type 0 where
  pub size : length w' ≡ length w
  pub here : thread_at w' at ≡ thread_of e
  pub else : (k : ℕ) → (k < at) ⊎ (at + 9 ≤ k) → get_or w' k 0 ≡ get_or w k 0

pub record Stored (w w' : List ℕ) (j : ℕ) (l : List (Thread Tags)) (c : ℕ) : Type 0 where
  pub size : length w' ≡ length w
  pub few : get_or w' (578 * j) 0 ≤ 64
  pub here : slot w' j ≡ l
  pub count : get_or w' (578 * j + 1) 0 ≡ c
  pub else : (k : ℕ) → (k < 578 * j) ⊎ (578 * j + 578 ≤ k) → get_or w' k 0 ≡ get_or w k 0

-- the situation of slot j, in a list of its own
pub record Loaded (w : List ℕ) (j : ℕ) (l : List ℕ) : Type 0 where
  pub size : length l ≡ 578
  pub same : (k : ℕ) → k < 578 → get_or l k 0 ≡ get_or w (578 * j + k) 0

-- a list that fits: at most 64, of records below N
pub record Fit (N : ℕ) (w : List ℕ) : Type 0 where
  pub size : length w ≡ 578
  pub few : get_or w 0 0 ≤ 64
  pub below : Below N (slot w 0)

-- l stands in slot j, and in none before it
pub record Lies (w : List ℕ) (count : ℕ) (l : List (Thread Tags)) (j : ℕ) : Type 0 where
  pub within : j < count
  pub found : (among same_situation l (slots w 0 count) ≡ true) × (same_situation l (slot w j) ≡ true)
  pub first : j ≡ position same_situation l (slots w 0 count)

-- the first slot that holds l, if one of the first `count` does
abbrev pub Placed : List ℕ → ℕ → List (Thread Tags) → Option ℕ → Type 0
Placed w count l a = MatchOption a (among same_situation l (slots w 0 count) ≡ false) (Lies w count l)
