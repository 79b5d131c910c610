-- `explore::gather` meets its contract. Assumes nothing.
use Rattle.std.proofs.Common.{◌≡◌, ◌≤◌, length, take}
use mathlib.Core.List.{foldl}
use Rattle.paths.specs.Registers.{note, holds}
use Rattle.explore.specs.States.{tags_of}
use Rattle.explore.specs.Keys.{keys_at}
use Rattle.explore.proofs.gather.Given as goal

-- the registers of the first t tags are gathered
abbrev pub invariant-loop-t : goal.invariant-loop-t
invariant-loop-t l = (l.k ≤ 64) × ((length l.regs ≡ 128) × (keys_at l.regs 0 l.k ≡ foldl note (keys_at l.initial.regs 0 l.n) (holds 0 (take l.t (tags_of l.fn.e.had)))))
