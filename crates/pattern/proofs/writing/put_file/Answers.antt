-- `put_file` meets its contract: HEAD, records, END, one after the other. Assumes nothing.
use Rattle.std.proofs.Common.{◌+◌}
use Rattle.net.specs.Rec.{end}
use Rattle.net.specs.File.{rec_bytes}
use Rattle.pattern.specs.Reader.{alts, read}
use Rattle.pattern.specs.Writing.{coded, head_of}
use Rattle.ground.proofs.Stores.{wrote_then}
use Rattle.pattern.proofs.writing.put_file.Goals as goal

pub returns : goal.returns
returns c = wrote_then (head_of c.args.sum.tags (c.args.sum.size + 1)) _ c.put-o.ensures (wrote_then (coded (read c.args.s.now alts 0 0) 0 c.args.sum.size) (rec_bytes (end c.args.answer)) c.emit_alternatives-o.ensures c.put.ensures)
