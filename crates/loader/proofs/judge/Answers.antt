-- `loader::judge` meets its contract: the form, then the settled sets. Assumes nothing.
use Rattle.loader.proofs.Listing.{says_yes, says_no}
use Rattle.loader.proofs.Judging.{judges_malformed, judges_ready, judges_loud, judges_quiet}
use Rattle.loader.proofs.judge.Goals as goal

pub returns-then-not-form_ok : goal.returns-then-not-form_ok
returns-then-not-form_ok c = judges_malformed c.form_ok.ensures c.if-not-form_ok.true

pub empty_read-requires : goal.empty_read-requires
empty_read-requires c = judges_ready c.form_ok.ensures c.if-not-form_ok.false c.places.ensures

pub returns-then-empty_read : goal.returns-then-empty_read
returns-then-empty_read c = judges_loud c.form_ok.ensures c.if-not-form_ok.false c.places.ensures (says_yes c.if-empty_read.true c.empty_read.ensures)

pub returns : goal.returns
returns c = judges_quiet c.form_ok.ensures c.if-not-form_ok.false c.places.ensures (says_no c.if-empty_read.false c.empty_read.ensures)
