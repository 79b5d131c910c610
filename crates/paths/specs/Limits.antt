-- Document 01, "Situations": the numbering of an automaton's situations, and the two refusals that count them, as statements about inputs;
-- then the points where an exploration stops. Assumes nothing.
use Rattle.std.specs.Prelude.{◌≡◌, false, ℕ, zero, suc, ◌+◌, ◌≤◌, ◌<◌, length, get_or}
use mathlib.Core.List.{List, [], ◌∷◌, map, Memᴰ}
use Rattle.net.specs.Rec.{Net}
use Rattle.paths.specs.Search.{Thread}
use Rattle.paths.specs.Registers.{Tags, registers, situation, next}
use Rattle.paths.specs.Equal.{same_situation}
use Rattle.paths.specs.Numbering.{among, once, numbered, explored}

abbrev pub Sit : Type 0
Sit = List (Thread Tags)

-- n bytes, from k upward
unfoldable pub bytes : ℕ → ℕ → List ℕ
bytes k zero = []
bytes k (suc n) = k ∷ bytes (k + 1) n

-- an input is a list of bytes
abbrev pub Input : List ℕ → Type 0
Input w = (b : ℕ) → Memᴰ b w → b < 256

-- "shorter first, then by byte values": the order of inputs. `Numbering.upto` lists them so (`Laws.inputs_ordered`).
pub data ByValues : List ℕ → List ℕ → Type 0 where
  lower : {b c : ℕ} {v w : List ℕ} → b < c → ByValues (b ∷ v) (c ∷ w)
  same : {b : ℕ} {v w : List ℕ} → ByValues v w → ByValues (b ∷ v) (b ∷ w)

pub data Before (v w : List ℕ) : Type 0 where
  shorter : length v < length w → Before v w
  by_values : length v ≡ length w → ByValues v w → Before v w

-- ---- the numbering, over inputs

-- the situations that inputs of at most n bytes reach, each where it first appears: shorter inputs first, then by byte values
abbrev pub all : Net → ℕ → List Sit
all A n = numbered same_situation (bytes 0 256) (situation A) n

-- "Situation 0 is that of the empty input; the others are numbered by the first input that reaches them, shorter first, then by byte values."
-- s is situation k
pub record Numbered (A : Net) (k : ℕ) (s : Sit) : Type 0 where
  pub n : ℕ
  pub there : k < length (all A n)
  pub it : get_or (all A n) k [] ≡ s

-- "REGISTERS is answered exactly if one of the first 97 situations (all, if fewer) needs more than 64 registers."
pub record OverRegisters (A : Net) : Type 0 where
  pub k : ℕ
  pub s : Sit
  pub early : k < 97
  pub reached : Numbered A k s
  pub needs : 64 < length (registers s)

-- "Otherwise SITUATIONS exactly if there is a 97th."
pub record OverSituations (A : Net) : Type 0 where
  pub s : Sit
  pub reached : Numbered A 96 s

-- ---- the exploration

-- what has been found once each situation before the i-th has been gone through; the i-th; and what has been found when its bytes below b are done
abbrev pub first : Net → ℕ → List Sit
first A i = explored same_situation (bytes 0 256) (next A) (situation A []) i

abbrev pub here : Net → ℕ → Sit
here A i = get_or (first A i) i []

abbrev pub partly : Net → ℕ → ℕ → List Sit
partly A i b = once same_situation (first A i) (map (λ b. next A b (here A i)) (bytes 0 b))

-- each of the first n needs at most 64 registers
abbrev pub Small : ℕ → List Sit → Type 0
Small n l = (j : ℕ) → j < n → length (registers (get_or l j [])) ≤ 64

-- it goes through all that it finds: at most 96, and each needs at most 64 registers
pub record Closes (A : Net) (n : ℕ) : Type 0 where
  pub whole : length (first A n) ≡ n
  pub few : n ≤ 96
  pub small : Small n (first A n)

-- it stops at s: after `found`, 96 at most, s needs more than 64 registers; or s is the 97th
pub record TooManyRegisters (found : List Sit) (s : Sit) : Type 0 where
  pub most : length found ≤ 96
  pub needs : 64 < length (registers s)

pub record TooManySituations (found : List Sit) (s : Sit) : Type 0 where
  pub most : length found ≡ 96
  pub small : Small 96 found
  pub new : among same_situation s found ≡ false
  pub needs : length (registers s) ≤ 64

-- where it stops: at the situation of the empty input, or at one that a byte leads to
pub data Stops (A : Net) (P : List Sit → Sit → Type 0) : Type 0 where
  at_start : P [] (situation A []) → Stops A P
  at_byte : (i b : ℕ) → i < length (first A i) → b < 256 → P (partly A i b) (next A b (here A i)) → Stops A P
