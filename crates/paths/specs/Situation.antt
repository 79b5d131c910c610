-- Document 01, "Situations": "RANGE, MASK and END records that admissible paths stand on". `every` lists all admissible paths, the earlier first; `threads`
-- is one search with shared marks after each byte. Both for anything, X, that a thread gathers by its moves. Assumes nothing.
use Rattle.std.specs.Prelude.{◌&&◌, cond, ℕ, suc, leb, eqb, length}
use mathlib.Core.List.{List, [], ◌∷◌, foldl}
use Rattle.std.proofs.Math.Option.{Option, none, some}
use Rattle.net.specs.Rec.{Rec, range, mask, fork, tag, end, Net, rec, bit}
use Rattle.paths.specs.Ways.{first, second, mark, Move, eat, turn, Held, empty_handed, act}
use Rattle.ground.specs.Lists.{each}
use Rattle.paths.specs.Search.{Thread, paths, visit}

-- the moves of a record that consume nothing, `first` before `second`, and where they lead
abbrev pub quiet : Rec → List (Move × ℕ)
quiet (range lo hi n) = []
quiet (mask bits n) = []
quiet (fork x y) = (turn first, x) ∷ (turn second, y) ∷ []
quiet (tag t n) = (turn (mark t), n) ∷ []
quiet (end a) = []

-- the move that consumes b, where b is allowed
abbrev pub bite : ℕ → Rec → List (Move × ℕ)
bite b (range lo hi n) = cond (leb lo b && leb b hi) ((eat b, n) ∷ []) []
bite b (mask bits n) = cond (eqb (bit bits b) 1) ((eat b, n) ∷ []) []
bite b (fork x y) = []
bite b (tag t n) = []
bite b (end a) = []

module _ {X : Type 0} (f : Move → X → X) where
  abbrev pub follow : X → List (Move × ℕ) → List (Thread X)
  follow x [] = []
  follow x (e ∷ es) = record { on = e.1; had = f e.0 x } ∷ follow x es

  module _ (A : Net) where
    unfoldable pub on_quiet : Thread X → List (Thread X)
    on_quiet s = follow s.had (quiet (rec A s.on))

    unfoldable pub on_byte : ℕ → Thread X → List (Thread X)
    on_byte b s = follow s.had (bite b (rec A s.on))

    -- all admissible paths from s that consume w, the earlier first
    unfoldable pub every : List ℕ → Thread X → List (Thread X)
    every [] s = paths on_quiet (suc (length A)) [] s
    every (b ∷ w) s = each (every w) (each (on_byte b) (paths on_quiet (suc (length A)) [] s))

    unfoldable pub close : List (Thread X) → List (Thread X)
    close ss = foldl (visit on_quiet (suc (length A))) [] ss

    unfoldable pub threads : List ℕ → List (Thread X) → List (Thread X)
    threads [] ss = close ss
    threads (b ∷ w) ss = threads w (each (on_byte b) (close ss))

-- "the answer is the first END in the list": of the first thread that stands on an END its answer, and what it holds
abbrev pub ending : {X : Type 0} → Rec → X → Option (ℕ × X) → Option (ℕ × X)
ending (range lo hi n) x o = o
ending (mask bits n) x o = o
ending (fork p q) x o = o
ending (tag t n) x o = o
ending (end a) x o = some (a, x)

abbrev pub first_end : {X : Type 0} → Net → List (Thread X) → Option (ℕ × X)
first_end A [] = none
first_end A (s ∷ l) = ending (rec A s.on) s.had (first_end A l)

unfoldable pub answer : Net → List ℕ → Option (ℕ × Held)
answer A w = first_end A (threads act A w (record { on = 0; had = empty_handed } ∷ []))
