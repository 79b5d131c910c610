-- `explore::name_entry` meets its contract. Assumes nothing.
use Rattle.std.proofs.Common.{◌≡◌, length, take, drop, ◌++◌}
use Rattle.paths.specs.Registers.{index, renamed}
use Rattle.explore.specs.States.{tags_of}
use Rattle.explore.specs.Keys.{keys_at}
use Rattle.explore.proofs.name_entry.Given as goal

-- the first t tags have register numbers
abbrev pub invariant-loop-t : goal.invariant-loop-t
invariant-loop-t l = (l.d.on ≡ l.fn.e.on) × ((length l.d.had ≡ 8) × (tags_of l.d.had ≡ renamed (λ u p. index (u, p) (keys_at l.regs 0 l.n)) 0 (take l.t (tags_of l.fn.e.had)) ++ drop l.t (tags_of l.fn.e.had)))
