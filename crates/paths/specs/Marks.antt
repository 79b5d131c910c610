-- The search as code keeps it: the marks apart from the list, and only RANGE, MASK and END records in the list. Assumes nothing.
use Rattle.std.specs.Prelude.{cond, ℕ, zero, suc, length}
use mathlib.Core.List.{List, [], ◌∷◌, ◌++◌, foldl}
use Rattle.net.specs.Rec.{Net, rec}
use Rattle.paths.specs.Ways.{Move}
use Rattle.paths.specs.Search.{choose, has, Thread}
use Rattle.paths.specs.Situation.{on_quiet}
use Rattle.paths.specs.Registers.{stands}

pub record Marked (X : Type 0) : Type 0 where
  pub marks : List ℕ
  pub list : List (Thread X)

module _ {X : Type 0} (f : Move → X → X) (A : Net) where
  abbrev pub marked_with : Marked X → Thread X → Marked X
  marked_with m s = record { marks = m.marks ++ (s.on ∷ []); list = cond (stands (rec A s.on)) (m.list ++ (s ∷ [])) m.list }

  unfoldable pub marking : ℕ → Marked X → Thread X → Marked X
  marking zero m s = m
  marking (suc n) m s = choose (has s.on m.marks) m (λ _. foldl (marking n) (marked_with m s) (on_quiet f A s))

  -- over a list of starting threads, from no marks
  unfoldable pub marked_close : List (Thread X) → Marked X
  marked_close ss = foldl (marking (suc (length A))) (record { marks = []; list = [] }) ss
