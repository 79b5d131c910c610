-- Document 01, "Situations", without any search: what the list after some input is. Assumes nothing.
use Rattle.std.specs.Prelude.{◌≡◌, true, ◌⊎◌, ℕ}
use mathlib.Core.List.{List, [], ◌∷◌, ◌++◌, Memᴰ}
use Rattle.net.specs.Rec.{Net, rec}
use Rattle.paths.specs.Ways.{Move, Way, eaten, Admissible, Earlier, empty_handed, held}
use Rattle.paths.specs.Search.{Thread, ons, firsts}
use Rattle.paths.specs.Situation.{every}
use Rattle.paths.specs.Registers.{Tags, stands, standing, number}

-- An admissible path that consumes w and then stands on r, a RANGE, a MASK or an END.
pub record Stands (A : Net) (w : List ℕ) (ms : List Move) (r : ℕ) : Type 0 where
  pub path : Way A 0 ms r
  pub admissible : Admissible [] path
  pub whole : eaten ms ≡ w
  pub waits : stands (rec A r) ≡ true

abbrev pub Sorted : List (Thread (List Move)) → Type 0
Sorted [] = Unit {0}
Sorted (s ∷ l) = ((t : Thread (List Move)) → Memᴰ t l → Earlier s.had t.had) × Sorted l

abbrev pub Once : List ℕ → Type 0
Once [] = Unit {0}
Once (r ∷ l) = (¬ Memᴰ r l) × Once l

-- the earliest of these paths to r
pub record Best (A : Net) (w : List ℕ) (ms : List Move) (r : ℕ) : Type 0 where
  pub stands_on : Stands A w ms r
  pub earliest : (ns : List Move) → Stands A w ns r → (ns ≡ ms) ⊎ Earlier ms ns

-- "After some input, the situation is the ordered list of RANGE, MASK and END records that admissible paths stand on, each once, by its earliest path,
-- earliest path first." There is one such list (`Best.situation_one`), here with the path to each record.
pub record Situation (A : Net) (w : List ℕ) (l : List (Thread (List Move))) : Type 0 where
  pub sound : (t : Thread (List Move)) → Memᴰ t l → Stands A w t.had t.on
  pub complete : (ms : List Move) (r : ℕ) → Stands A w ms r → Memᴰ r (ons l)
  pub once : Once (ons l)
  pub earliest : (t : Thread (List Move)) → Memᴰ t l → (ms : List Move) → Stands A w ms t.on → (ms ≡ t.had) ⊎ Earlier t.had ms
  pub sorted : Sorted l

-- The same list by computation: all admissible paths that consume w, the earlier first; of these the first to each record that waits.
unfoldable pub trails : Net → List ℕ → List (Thread (List Move))
trails A w = standing A (firsts [] (every (λ m p. p ++ (m ∷ [])) A w (record { on = 0; had = [] })))

-- with the places that each path has stored
abbrev pub with_tags : List (Thread (List Move)) → List (Thread Tags)
with_tags [] = []
with_tags (s ∷ l) = record { on = s.on; had = (held s.had empty_handed).tags } ∷ with_tags l

unfoldable pub waiting : Net → List ℕ → List (Thread Tags)
waiting A w = with_tags (trails A w)

-- "Registers are numbered from 0 by first appearance, records in list order and tags ascending within a record."
-- This is the situation; `Registers.situation` is the same, computed byte by byte (`Laws.situation_right`).
unfoldable pub meant : Net → List ℕ → List (Thread Tags)
meant A w = number (waiting A w)
