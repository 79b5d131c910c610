-- What the functions between the input and the printed lines are told and leave. Assumes nothing: these are definitions.
use Rattle.std.specs.Prelude.{◌≡◌, List, [], ◌∷◌, ◌++◌, ℕ, suc, ◌+◌, ◌*◌, ◌≤◌, length, take, eqb}
use Rattle.ground.specs.Pick.{pick}
use Rattle.card.specs.Judged.{Judged}
use Rattle.image.specs.Image.{Mounts}
use Rattle.build.specs.Build.{Answer}
use Rattle.report.specs.Text.{Wrote}

-- how many bytes stand before the first byte 10, or all
unfoldable pub line_length : List ℕ → ℕ
line_length [] = 0
line_length (b ∷ s) = pick (eqb b 10) 0 (suc (line_length s))

-- room for a first line of 51 bytes, and for one of 72 for each byte of the input
abbrev pub room : ℕ
room = 4718643

-- a taken table, and an image that mounting wrote of it
pub record Mounted (table image : List ℕ) : Type 0 where
  pub taken : Judged table 0
  pub old : List ℕ
  pub mounts : Mounts table old image 0

-- the input, a taken table and its image, and the room that is left: the line of the next record fits
pub record Records (s table image : List ℕ) (from at size : ℕ) : Type 0 where
  pub mounted : Mounted table image
  pub few : length s ≤ 65536
  pub low : at ≤ 51 + 72 * from
  pub wide : room ≤ size

-- some of a text was written, and what is left is to follow
pub record Going (a b : List ℕ) (at r : ℕ) (whole left : List ℕ) : Type 0 where
  pub text : List ℕ
  pub wrote : Wrote a b at r text
  pub rest : text ++ left ≡ whole

-- what a build that is not refused gives lies in the output and is a table that the loader takes
pub record Sound (b : Answer) (out : List ℕ) : Type 0 where
  pub inside : b.code ≡ 0 → b.length ≤ length out
  pub taken : b.code ≡ 0 → Judged (take b.length out) 0
