-- `build::Pen::start` meets its contract. Assumes nothing.
use Rattle.std.proofs.Common.{◌≤◌, ◌+◌, ◌*◌, map}
use Rattle.ground.specs.Lists.{each}
use Rattle.card.specs.Table.{put, cmd_bytes}
use Rattle.explore.specs.Lists.{span}
use Rattle.build.proofs.Writing.{Left}
use Rattle.build.proofs.Tables.{rest_sets}
use Rattle.build.proofs.Pen.start.Given as goal

abbrev pub invariant-loop-k : goal.invariant-loop-k
invariant-loop-k l = record {
  within : l.self.at ≤ l.initial.self.at + 2 * l.k;
  left : Left l.initial.self (each cmd_bytes (map put (span 0 l.n))) l.self (rest_sets l.k l.n);
}
