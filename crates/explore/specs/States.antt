-- What the builder's states mean. Assumes nothing.
use Rattle.std.specs.Prelude.{◌≡◌, Bool, true, false, cond, List, [], ◌∷◌, map, ℕ, suc, ◌+◌, ◌≤◌, ◌<◌, eqb, length, get_or}
use Rattle.std.proofs.Math.Option.{Option, none, some}
use Rattle.paths.specs.Search.{Thread}
use Rattle.paths.specs.Registers.{Tags}
use Rattle.explore.specs.declared.Entry.{Entry}

-- 255 is absent
abbrev pub opt : ℕ → Option ℕ
opt v = cond (eqb v 255) none (some v)

abbrev pub tags_of : List ℕ → Tags
tags_of l = map opt l

unfoldable pub thread_of : Entry → Thread Tags
thread_of e = record { on = e.on; had = tags_of e.had }

-- M-101 changes these two
abbrev pub marked : List Bool → ℕ → Bool
marked m r = get_or m r false

abbrev pub ones : List Bool → ℕ
ones [] = 0
ones (x ∷ l) = cond x (suc (ones l)) (ones l)

unfoldable pub count_of : List Bool → ℕ
count_of m = ones m

-- r is marked, and nothing else changes
pub record MarkedBy (m : List Bool) (r : ℕ) (m' : List Bool) : Type 0 where
  pub size : length m' ≡ length m
  pub here : marked m' r ≡ true
  pub else : (q : ℕ) → (q ≡ r → ⊥) → marked m' q ≡ marked m q
  pub more : marked m r ≡ false → count_of m' ≡ count_of m + 1
  pub room : count_of m' ≤ 64

-- records below N only
abbrev pub Below : ℕ → List (Thread Tags) → Type 0
Below N [] = Unit {0}
Below N (s ∷ l) = (s.on < N) × Below N l
