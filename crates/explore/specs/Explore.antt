-- The exploration over the work memory. Assumes nothing.
use Rattle.std.specs.Prelude.{Result, MatchResult, ◌≡◌, List, map, ℕ, ◌+◌, ◌*◌, ◌≤◌, ◌<◌, length, get_or, ◌-◌}
use Rattle.answers.specs.declared.Refusal.{Refusal}
use Rattle.answers.specs.declared.Refusal.TheVariants.{Registers, Situations}
use Rattle.net.specs.Rec.{Net, rec}
use Rattle.paths.specs.Situation.{bite}
use Rattle.paths.specs.Limits.{Sit, bytes, first, TooManyRegisters, TooManySituations, Stops}
use Rattle.explore.specs.Items.{lands}
use Rattle.paths.specs.Registers.{registers, next}
use Rattle.paths.specs.Equal.{same_situation}
use Rattle.paths.specs.Numbering.{put, once}
use Rattle.explore.specs.States.{Below}
use Rattle.explore.specs.Slots.{slot, slots}

-- a slot holds a situation with at most 64 registers, and their count
pub record Holds (N : ℕ) (w : List ℕ) (j : ℕ) : Type 0 where
  pub few : get_or w (578 * j) 0 ≤ 64
  pub count : get_or w (578 * j + 1) 0 ≡ length (registers (slot w j))
  pub small : length (registers (slot w j)) ≤ 64
  pub below : Below N (slot w j)

pub record Kept (N : ℕ) (w : List ℕ) (count : ℕ) : Type 0 where
  pub room : 578 * 96 ≤ length w
  pub most : count ≤ 96
  pub holds : (j : ℕ) → j < count → Holds N w j

-- the state s is refused after `found`
abbrev pub Refused : List Sit → Sit → Refusal → Type 0
Refused found s Registers = TooManyRegisters found s
Refused found s Situations = TooManySituations found s
Refused found s _ = ⊥

-- what byte b leads to from l, after `found`: n situations are stored then
pub record Tries (A : Net) (N : ℕ) (w w' : List ℕ) (count : ℕ) (l : Sit) (b : ℕ) (a : Result ℕ Refusal) : Type 0 where
  pub size : length w' ≡ length w
  pub what : MatchResult a (λ n. Kept N w' n × (slots w' 0 n ≡ put same_situation (slots w 0 count) (next A b l))) (Refused (slots w 0 count) (next A b l))

-- what all bytes lead to from l, after `found`
pub record Expands (A : Net) (N : ℕ) (w w' : List ℕ) (count : ℕ) (l : Sit) (a : Result ℕ Refusal) : Type 0 where
  pub size : length w' ≡ length w
  pub what : MatchResult a (λ n. Kept N w' n × (slots w' 0 n ≡ once same_situation (slots w 0 count) (map (λ b. next A b l) (bytes 0 256))))
      (λ e. (b : ℕ) × ((b < 256) × Refused (once same_situation (slots w 0 count) (map (λ b. next A b l) (bytes 0 b))) (next A b l) e))

-- the numbering stops at a refused state
abbrev pub Stopped : Net → Refusal → Type 0
Stopped A Registers = Stops A TooManyRegisters
Stopped A Situations = Stops A TooManySituations
Stopped A _ = ⊥

-- the whole exploration
pub record Explores (A : Net) (N : ℕ) (w w' : List ℕ) (a : Result ℕ Refusal) : Type 0 where
  pub size : length w' ≡ length w
  pub what : MatchResult a (λ n. Kept N w' n × ((slots w' 0 n ≡ first A n) × (length (first A n) ≡ n))) (Stopped A)

-- every record treats b as it treats the byte before it
pub record Alike (A : Net) (N b : ℕ) : Type 0 where
  pub positive : 0 < b
  pub same : (r : ℕ) → r < N → lands (bite b (rec A r)) ≡ lands (bite (b - 1) (rec A r))

-- a mark for every byte: 0 only where every record treats the byte as the byte before it
pub record Told (A : Net) (N : ℕ) (t : List ℕ) : Type 0 where
  pub size : length t ≡ 256
  pub old : (b : ℕ) → b < 256 → get_or t b 0 ≡ 0 → Alike A N b
