-- A list of commands read at a place and carried out, and the row of a byte. Assumes nothing.
use Prim.Native.Nat.{ℕ, ◌+◌, ◌<◌, ◌≤◌}
use native.Mathlib.Omega.{arith}
use mathlib.Core.Path.{◌≡◌, refl, sym, ap}
use mathlib.Core.Logic.{◌⊎◌, inl, inr}
use mathlib.Core.List.{List, [], ◌∷◌}
use lib.ListN.{length, set, length-set}
use lib.IntN.{ℤ, pos, negsuc}
use Rattle.card.specs.Table.{Cmd, move, put}
use Rattle.card.specs.Run.{Bank, reg, Out, ok, stuck, moved, apply}
use Rattle.card.specs.Decode.{cmd_at, before, cmds_at, after_at, row_at, row_then, rows_at}
use Rattle.std.proofs.lemmas.Bool.Decides.{nat_tests}
use mir.ValLaws.{to_z-of_z}
use Rattle.card.specs.declared.Order.{Order}
use Rattle.card.specs.declared.Order.TheVariants.{Move, Put, Stop}
use Rattle.std.specs.Prelude.{Some, None}
use Rattle.card.proofs.Laws.{cmds_step, at_end, move_facts, put_facts}
use Rattle.card.proofs.Rows.{row_whole, rows_step}
use Rattle.card.specs.Decode.{RowItem}
use Rattle.run.specs.Carry.{carry}

-- ---- one command

-- a command's registers are below 64, and it stands whole
abbrev pub Whole : List ℕ → ℕ → Order → Type 0
Whole s at (Move t f) = (t < 64) × (f < 64) × (at + 3 ≤ length s)
Whole s at (Put t) = (t < 64) × (at + 2 ≤ length s)
Whole s at Stop = Unit {0}

whole_of : (s : List ℕ) (at : ℕ) (o : Order) → cmd_at s at ≡ o → Whole s at o
whole_of s at (Move t f) e = move_facts s at t f e
whole_of s at (Put t) e = put_facts s at t e
whole_of s at Stop e = tt

pub cmd_whole : (s : List ℕ) (at : ℕ) → Whole s at (cmd_at s at)
cmd_whole s at = whole_of s at (cmd_at s at) refl

-- the list at a place is the command there before those that follow
pub cmds_here : (s : List ℕ) (at : ℕ) → cmds_at s at ≡ before (cmd_at s at) (λ (d : ℕ). cmds_at s (at + d))
cmds_here s at = cmds_step s at (cmd_at s at) refl

-- what a function that reads commands needs of them
pub ruleset commands = (cmd_whole, cmds_here, to_z-of_z, length-set)

pub no_cmds : (s : List ℕ) (at : ℕ) → cmd_at s at ≡ Stop → cmds_at s at ≡ []
no_cmds s at e = cmds_step s at Stop e

pub carry_none : (s : List ℕ) (at p : ℕ) (bank : Bank) → cmds_at s at ≡ [] → bank ≡ carry (cmds_at s at) p bank bank
unfolding carry
carry_none s at p bank e = sym (ap (λ (l : List Cmd). carry l p bank bank) e)

-- ---- commands that do not get stuck are carried out

moved_either : (v : ℤ) (o : Out) (b : Bank) → (o ≡ ok b) ⊎ (o ≡ stuck) → (moved v o ≡ ok b) ⊎ (moved v o ≡ stuck)
moved_either (pos n) o b h = h
moved_either (negsuc n) o b h = inr refl

pub carried : (l : List Cmd) (p : ℕ) (old cur : Bank) → (apply l p old cur ≡ ok (carry l p old cur)) ⊎ (apply l p old cur ≡ stuck)
unfolding apply carry
carried [] p old cur = inl refl
carried (put t ∷ l) p old cur = carried l p old (set cur t (pos p))
carried (move t f ∷ l) p old cur = moved_either (reg old f) _ _ (carried l p old (set cur t (reg old f)))

-- ---- the row of a byte

-- a row that is there stands whole
abbrev pub WholeRow : List ℕ → ℕ → RowItem → Type 0
WholeRow s at (Some (lo, hi, next)) = at + 4 ≤ length s
WholeRow s at None = Unit {0}

row_whole_of : (s : List ℕ) (at : ℕ) (x : RowItem) → row_at s at ≡ x → WholeRow s at x
row_whole_of s at (Some (lo, hi, next)) e = row_whole s at lo hi next e
row_whole_of s at None e = tt

pub row_whole_here : (s : List ℕ) (at : ℕ) → WholeRow s at (row_at s at)
row_whole_here s at = row_whole_of s at (row_at s at) refl

-- the rows at a place are the row there before those that follow
pub rows_here : (s : List ℕ) (at : ℕ) → rows_at s at ≡ row_then (row_at s at) (cmds_at s (at + 4)) (rows_at s (after_at s (at + 4)))
rows_here s at = rows_step s at (row_at s at) refl

-- none stand at the end
pub cmds_past : (s : List ℕ) → cmds_at s (length s) ≡ []
cmds_past s = no_cmds s (length s) (at_end s (length s) (omega arith))

-- what a function that reads rows needs of them
pub ruleset rows = (row_whole_here, rows_here, cmds_past, nat_tests)
