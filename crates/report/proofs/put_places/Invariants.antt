-- `report::put_places` meets its contract: the positions so far are written. Assumes nothing.
use Rattle.std.proofs.Common.{◌+◌, ◌*◌, ◌≤◌, take}
use Rattle.ground.specs.Lists.{each}
use Rattle.report.specs.Text.{Wrote}
use Rattle.report.specs.Lines.{spaced}
use Rattle.report.proofs.put_places.Given as goal

abbrev pub invariant-loop-v : goal.invariant-loop-v
invariant-loop-v l = Wrote l.initial.out l.out l.at l.end (each spaced (take l.v-index l.v-items)) × (l.end ≤ l.at + 8 * l.v-index)
