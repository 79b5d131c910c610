-- `explore::registers_of` meets its contract. Assumes nothing.
use Rattle.std.proofs.Common.{◌≡◌, ◌≤◌, length}
use mathlib.Core.List.{[], foldl}
use Rattle.paths.specs.Registers.{note, held_by}
use Rattle.explore.specs.Slots.{threads_at}
use Rattle.explore.specs.Keys.{keys_at}
use Rattle.explore.proofs.registers_of.Given as goal

-- the registers of the first i entries are gathered
abbrev pub invariant-loop-i : goal.invariant-loop-i
invariant-loop-i l = (l.k ≤ 64) × ((length l.regs ≡ 128) × (keys_at l.regs 0 l.k ≡ foldl note [] (held_by (threads_at l.list 2 l.i))))
