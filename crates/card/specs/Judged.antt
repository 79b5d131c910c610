-- What the loader answers: document 01's demand 3. Assumes nothing: these are definitions.
use Rattle.std.specs.Prelude.{◌≡◌, List, ℕ}
use Rattle.card.specs.Table.{Table, bytes_of, Formed}
use Rattle.card.specs.Run.{Line, Stuck}

-- "Everything else is TABLE_FORM." "EMPTY_READ is answered exactly if the form is right and some record of at most 32767 bytes gets stuck."
pub data Judged (s : List ℕ) : ℕ → Type 0 where
  taken : (T : Table) → Formed T → s ≡ bytes_of T → ((w : List ℕ) → Line w → ¬ Stuck T w) → Judged s 0
  malformed : ((T : Table) → Formed T → ¬ (s ≡ bytes_of T)) → Judged s 13
  empty_read : (T : Table) → Formed T → s ≡ bytes_of T → (w : List ℕ) → Line w → Stuck T w → Judged s 14
