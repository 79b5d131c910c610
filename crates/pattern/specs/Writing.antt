-- What the writing functions leave. Assumes nothing: these are definitions.
use Rattle.std.specs.Prelude.{ℕ, ◌+◌, ◌≤◌, ◌<◌, Bool, List, [], ◌∷◌, ◌++◌, length, get_or, eqb}
use Rattle.ground.specs.Lists.{each}
use Rattle.net.specs.Rec.{Rec, end}
use Rattle.net.specs.File.{rec_bytes}
use Rattle.pattern.specs.Pat.{compile, size}
use Rattle.pattern.specs.Sets.{flipped}
use Rattle.pattern.specs.Reader.{Res, ok, form, deep}

unfoldable pub bytes : List Rec → List ℕ
bytes rs = each rec_bytes rs

-- the bytes of what was read, none where it was refused: its first record has number n, and f follows
unfoldable pub coded : Res → ℕ → ℕ → List ℕ
coded (ok e p) n f = bytes (compile p n f)
coded (form q) n f = []
coded (deep q) n f = []

unfoldable pub sized : Res → ℕ
sized (ok e p) = size p
sized (form q) = 0
sized (deep q) = 0

-- what a set with these marks allows
abbrev pub shown : Bool → List ℕ → ℕ → Bool
shown caret m b = flipped caret (eqb (get_or m b 0) 1)

-- the HEAD of an automaton file
abbrev pub head_of : ℕ → ℕ → List ℕ
head_of tags count = 0x10 ∷ 1 ∷ tags ∷ count ∷ []

-- a file: HEAD, the records of what was read, and END with that answer
abbrev pub filed : Res → (size tags answer : ℕ) → List ℕ
filed r size tags answer = head_of tags (size + 1) ++ (coded r 0 size ++ rec_bytes (end answer))

-- there is room for those bytes from o on, and the records' numbers are bytes
pub record Room (r : Res) (n f o len : ℕ) : Type 0 where
  pub room : o + length (coded r n f) ≤ len
  pub numbers : n + sized r < 256
  pub follow : f < 256
