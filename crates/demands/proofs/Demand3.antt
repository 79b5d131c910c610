-- Demand 3: "A table that the loader takes can't get stuck on any such record; a well-formed one that it refuses has a record that reads an empty
-- register; all tables we build are taken." Each theorem cites the laws below it. Assumes nothing.
use mathlib.Core.Path.{◌≡◌, refl}
use mathlib.Core.List.{List}
use Prim.Native.Nat.{ℕ, ◌<◌, ◌≤◌}
use native.Mathlib.Omega.{arith}
use lib.ListN.{length}
use Rattle.net.specs.Rec.{Net}
use Rattle.card.specs.Table.{Row, Table, bytes_of, Formed}
use Rattle.card.specs.Run.{Line, Stuck, Told, In, sit, row_in}
use Rattle.card.specs.Judged.{Judged, taken, malformed, empty_read}
use Rattle.loader.proofs.Judging as judging
use Rattle.run.specs.Runs.{Runs}
use Rattle.run.specs.Within.{AllWithin}
use Rattle.run.proofs.Demand3 as runs
use Rattle.build.specs.Card.{table_of}
use Rattle.built.specs.Fits.{Fits}
use Rattle.built.proofs.Answers as built

-- a table that the loader takes can't get stuck
pub taken_never_stuck : {s : List ℕ} → Judged s 0 → (T : Table) → Formed T → s ≡ bytes_of T → (w : List ℕ) → Line w → ¬ Stuck T w
taken_never_stuck j T f e w l = judging.not_stuck j T f e w l

-- it has a row for each byte in each situation, and each row leads to a situation
pub row_for_each_byte : (T : Table) → Formed T → (q b : ℕ) → q < length T.sits → b < 256
    → In (row_in T q b) (sit T q).rows × (((row_in T q b).lo ≤ b) × (b ≤ (row_in T q b).hi))
row_for_each_byte = runs.row_for_each_byte

pub row_leads : (T : Table) → Formed T → (q : ℕ) (x : Row) → In x (sit T q).rows → x.next < length T.sits
row_leads = runs.row_leads

-- each place that a run tells is -1 or within the line
pub place_within : {s w : List ℕ} {t : Told} → Runs s w t → AllWithin (length w) t.places
place_within r = runs.result_within r

-- a well-formed one that it refuses has a record that reads an empty register
pub refused_gets_stuck : {s : List ℕ} → Judged s 14 → (T : Table) × (Formed T × ((s ≡ bytes_of T) × ((w : List ℕ) × (Line w × Stuck T w))))
refused_gets_stuck j = runs.reads_empty j

-- "Everything else is TABLE_FORM."
pub no_table : {s : List ℕ} → Judged s 13 → (T : Table) → Formed T → ¬ (s ≡ bytes_of T)
no_table {s} j T f e = by 13 refl j
  where
    by : (c : ℕ) → c ≡ 13 → Judged s c → ⊥
    by _ z (taken U g d n) = omega arith
    by _ z (malformed n) = n T f e
    by _ z (empty_read U g d v m h) = omega arith

-- all tables we build are taken
pub built_is_taken : {tags : ℕ} {A : Net} → Fits tags A → Judged (bytes_of (table_of tags A)) 0
built_is_taken fits = built.build_taken fits

-- and the loader's answer is one
pub judged_one : {s : List ℕ} {a b : ℕ} → Judged s a → Judged s b → a ≡ b
judged_one = judging.judged_one
