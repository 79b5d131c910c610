-- `loader::some_ask` meets its contract: of the situations passed none reads a register of its set. Assumes nothing.
use Prim.Native.Nat.{ℕ, ◌<◌}
use Rattle.card.specs.Decode.{table_at}
use Rattle.loader.proofs.Situated.{Unheard}
use Rattle.loader.proofs.some_ask.Given as goal

abbrev pub invariant-loop-q : goal.invariant-loop-q
invariant-loop-q l = (p : ℕ) → p < l.q → Unheard (table_at l.s) l.may p
