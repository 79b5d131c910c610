-- What is answered of a table file's form: document 01, "Everything else is TABLE_FORM." Assumes nothing: these are definitions.
use Rattle.std.specs.Prelude.{◌≡◌, Bool, true, false, List, ℕ}
use Rattle.card.specs.Table.{Table, bytes_of, Formed}
use Rattle.card.specs.Decode.{table_at}

-- right: the file is what a formed table is written as, and that table is the one that it reads as; not right: no formed table is written so
pub record FormOk (s : List ℕ) (r : Bool) : Type 0 where
  pub right : r ≡ true → Formed (table_at s) × (s ≡ bytes_of (table_at s))
  pub wrong : r ≡ false → (T : Table) → Formed T → ¬ (s ≡ bytes_of T)
