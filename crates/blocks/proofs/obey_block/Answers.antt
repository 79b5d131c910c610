-- `blocks::obey_block` meets its contract. Assumes nothing.
use Rattle.image.proofs.Blocks.{no_misfit}
use Rattle.blocks.proofs.Blockwise.{blocked_past, blocked_down, blocked_done}
use native.Mathlib.Omega.{arith}
use Rattle.blocks.proofs.obey_block.Goals as goal

pub returns-then-to-n-gt-BANK : goal.returns-then-to-n-gt-BANK
returns-then-to-n-gt-BANK c = blocked_past c.args.w c.args.place c.args.bank.now (omega arith)

pub returns-then-highest-f : goal.returns-then-highest-f
returns-then-highest-f c = blocked_down c.args.w c.args.place c.args.bank.now (omega arith) (omega arith)

pub returns : goal.returns
returns c = blocked_done c.args.w c.args.place c.args.bank.now (no_misfit _ _ _ _ c.if-to-n-gt-BANK.false c.if-highest-f.false) (c.shift.ensures c.args.place) c.fill.ensures
