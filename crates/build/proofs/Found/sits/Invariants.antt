-- `build::Found::sits` meets its contract. Assumes nothing.
use Rattle.std.proofs.Common.{◌≤◌, ◌+◌, ◌*◌}
use Rattle.build.specs.Writing.{net_in, all_in, sits_bytes}
use Rattle.build.proofs.Writing.{Left}
use Rattle.build.proofs.Tables.{rest_sits}
use Rattle.build.proofs.Found.sits.Given as goal

abbrev pub invariant-loop-i : goal.invariant-loop-i
invariant-loop-i l = record {
  within : l.pen.at ≤ l.initial.pen.at + 50186 * l.i;
  left : Left l.initial.pen (sits_bytes (net_in l.self) (all_in l.self) (all_in l.self)) l.pen (rest_sits (net_in l.self) l.self.work.now l.self.count l.i);
}
