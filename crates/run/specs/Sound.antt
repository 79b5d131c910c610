-- Document 01, demand 3: what is never seen of a table that is taken. Assumes nothing: these are definitions.
use Rattle.std.specs.Prelude.{◌≡◌, List, ℕ, ◌<◌, ◌≤◌, length}
use Rattle.card.specs.Table.{Row, Table}
use Rattle.card.specs.Run.{In, sit, row_in, Line, Stuck, tells}
use Rattle.run.specs.Within.{AllWithin}

pub record Sound (T : Table) : Type 0 where
  -- a row for each byte in each situation, and it is the byte's
  pub rows : (q b : ℕ) → q < length T.sits → b < 256 → In (row_in T q b) (sit T q).rows × (((row_in T q b).lo ≤ b) × (b ≤ (row_in T q b).hi))
  -- each row leads to a situation
  pub leads : (q : ℕ) (x : Row) → In x (sit T q).rows → x.next < length T.sits
  -- no register is read before it is written
  pub reads : (w : List ℕ) → Line w → ¬ Stuck T w
  -- eight places, each -1 or within the line
  pub places : (w : List ℕ) → (length (tells T w).places ≡ 8) × AllWithin (length w) (tells T w).places
