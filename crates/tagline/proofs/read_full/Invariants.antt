-- `tagline::read_full`: what was read so far stands in the buffer.
use Rattle.std.proofs.Common.{◌≤◌, length}
use Rattle.tagline.proofs.read_full.Given as goal

abbrev pub invariant-loop : goal.invariant-loop
invariant-loop g l = l.at ≤ length l.buf
