-- What `build` answers, in document 01's words: "build 9, net, 10 or 11, 12". No search and no test stands in it.
-- Assumes nothing: these are definitions.
use Rattle.std.specs.Prelude.{◌≡◌, List, ℕ, ◌≤◌, ◌<◌, length}
use Rattle.net.specs.Rec.{Net}
use Rattle.net.specs.File.{Legal, file_of}
use Rattle.net.specs.Items.{NetFault, number, refused, net_of}
use Rattle.paths.specs.Limits.{OverRegisters, OverSituations}
use Rattle.card.specs.Table.{bytes_of}
use Rattle.build.specs.Card.{table_of}
use Rattle.build.specs.Build.{Done, refuses, gives}
use Rattle.built.specs.Fits.{Fits}

-- the file is that of a legal net
pub record Holds (file : List ℕ) (tags : ℕ) (A : Net) : Type 0 where
  pub written : file ≡ file_of tags A
  pub legal : Legal tags A

pub data Outcome (file : List ℕ) (room : ℕ) (out : List ℕ) : Done → Type 0 where
  work_small : room < 65536 → Outcome file room out (refuses 9 out)
  no_net : 65536 ≤ room → (f : NetFault) → net_of file ≡ refused f → Outcome file room out (refuses (number f) out)
  registers : 65536 ≤ room → (tags : ℕ) (A : Net) → Holds file tags A → OverRegisters A → Outcome file room out (refuses 10 out)
  situations : 65536 ≤ room → (tags : ℕ) (A : Net) → Holds file tags A → (¬ OverRegisters A) → OverSituations A → Outcome file room out (refuses 11 out)
  out_small : 65536 ≤ room → (tags : ℕ) (A : Net) → Holds file tags A → Fits tags A → length out < length (bytes_of (table_of tags A)) → Outcome file room out (refuses 12 out)
  built : 65536 ≤ room → (tags : ℕ) (A : Net) → Holds file tags A → Fits tags A → length (bytes_of (table_of tags A)) ≤ length out → Outcome file room out (gives tags A out)
