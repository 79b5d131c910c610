-- A part handed to a caller that has no slices: copied to the front of a buffer. Assumes nothing: these are definitions.
use Rattle.std.specs.Prelude.{◌≡◌, List, ◌++◌, ℕ, length, drop, leb}
use Rattle.ground.specs.Pick.{pick}

-- the buffer with the part in front, where there is room for it
unfoldable pub copied : List ℕ → List ℕ → List ℕ
copied part out = pick (leb (length part) (length out)) (part ++ drop (length part) out) out

-- the part's length is told, also where there is no room
pub record Copies (part before after : List ℕ) (r : ℕ) : Type 0 where
  pub told : r ≡ length part
  pub held : after ≡ copied part before
