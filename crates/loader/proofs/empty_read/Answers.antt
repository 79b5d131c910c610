-- `loader::empty_read` meets its contract: the settled sets decide. Assumes nothing.
use Rattle.loader.proofs.Verdict.{verdict}
use Rattle.loader.proofs.empty_read.Goals as goal

pub returns : goal.returns
returns c = verdict _ c.requires.formed _ c.settle-may.ensures c.some_ask.result c.some_ask.ensures
