-- Text: numbers in decimal, and what a writer leaves in a buffer. Assumes nothing: these are definitions.
use Rattle.std.specs.Prelude.{Some, None, ◌≡◌, List, [], ◌∷◌, ◌++◌, ℕ, zero, suc, ◌+◌, ◌/◌, ◌%◌, length, take, drop, ltb}
use Rattle.ground.specs.Pick.{pick}
use Rattle.ground.specs.Place.{Place}

-- a number of at most k digits in decimal
unfoldable pub digits : ℕ → ℕ → List ℕ
digits zero n = []
digits (suc k) n = pick (ltb n 10) ((n + 48) ∷ []) (digits k (n / 10) ++ ((n % 10 + 48) ∷ []))

-- every number that is printed has at most seven
abbrev pub decimal : ℕ → List ℕ
decimal n = digits 7 n

-- a position: its place, or -1
abbrev pub shown : Place → List ℕ
shown (Some n) = decimal n
shown None = 45 ∷ 49 ∷ []

-- `text` was written over `a` at a place, which gives b, and r is the place after it; what stands from r on is as it was
pub record Wrote (a b : List ℕ) (at r : ℕ) (text : List ℕ) : Type 0 where
  pub size : length b ≡ length a
  pub next : r ≡ at + length text
  pub before : take r b ≡ take at a ++ text
  pub beyond : drop r b ≡ drop r a
