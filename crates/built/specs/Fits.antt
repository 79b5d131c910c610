-- What a net is that a table is built of: document 01's limits, as facts about the numbered situations. Assumes nothing: these are definitions.
use mathlib.Core.List.{List, Memᴰ}
use Rattle.std.specs.Prelude.{ℕ, ◌≤◌, length}
use Rattle.net.specs.Rec.{Net}
use Rattle.net.specs.File.{Legal}
use Rattle.paths.specs.Registers.{situation}
use Rattle.ground.specs.Lists.{Bytes}
use Rattle.build.specs.Card.{State, states, need}

-- "table 1 to 96 situations, 64 registers": no answer REGISTERS, none SITUATIONS, and the numbered situations are all there are
pub record Fits (tags : ℕ) (A : Net) : Type 0 where
  pub legal : Legal tags A
  pub few : length (states A) ≤ 96
  pub slim : (s : State) → Memᴰ s (states A) → need s ≤ 64
  pub complete : (w : List ℕ) → Bytes w → Memᴰ (situation A w) (states A)
