-- What there is to tell of a line, in the words of document 01, "Paths and their order": nothing of tables. Assumes nothing: these are definitions.
use Rattle.std.specs.Prelude.{List, map, ℕ, ℤ, pos}
use Rattle.std.proofs.Math.Option.{Option, none, some}
use Rattle.net.specs.Rec.{Net}
use Rattle.paths.specs.Ways.{Accepted, Answer}
use Rattle.card.specs.Run.{absent, Told, refused}

-- "Tag positions are .. -1 or 0 to 32767."
abbrev pub place : Option ℕ → ℤ
place none = absent
place (some p) = pos p

-- OK with END and tags of the earliest path that accepts
abbrev pub found : (answer : ℕ) (tags : List (Option ℕ)) → Told
found e τ = record { code = 0; answer = e; places = map place τ }

-- "That path's END and tags are the answer"; NO_MATCH where no path, admissible or not, accepts
pub data Tells (A : Net) (w : List ℕ) : Told → Type 0 where
  matched : (e : ℕ) (τ : List (Option ℕ)) → Answer A w e τ → Tells A w (found e τ)
  unmatched : ((e : ℕ) → ¬ Accepted A w e) → Tells A w (refused 16)
