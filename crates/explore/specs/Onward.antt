-- What may follow a record with no byte, and which records are ENDs. Assumes nothing.
use Rattle.std.specs.Prelude.{ℕ, Option, Some, None}
use Rattle.net.specs.Rec.{Rec, range, mask, fork, tag, end}
use Rattle.explore.specs.declared.Onward.{Onward}
use Rattle.explore.specs.declared.Onward.TheVariants.{Stay, Both, Store}

abbrev pub onward_of : Rec → Onward
onward_of (range lo hi n) = Stay
onward_of (mask bits n) = Stay
onward_of (fork x y) = Both x y
onward_of (tag t n) = Store t n
onward_of (end a) = Stay

-- the answer of an END
abbrev pub closing_of : Rec → Option ℕ
closing_of (range lo hi n) = None
closing_of (mask bits n) = None
closing_of (fork x y) = None
closing_of (tag t n) = None
closing_of (end a) = Some a
