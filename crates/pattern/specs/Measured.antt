-- What the reading functions answer: a reading's end and the measures of its pattern, or the refusal. Assumes nothing: these are definitions.
use Rattle.std.specs.Prelude.{ℕ, ◌+◌, max, Result, Ok, Err}
use Rattle.pattern.specs.Pat.{Pat, size}
use Rattle.pattern.specs.Pat.Pat.{Empty, Byte, Any, Set, Tag, Seq, Alt, Star, Plus, Opt}
use Rattle.pattern.specs.Reader.{Res, ok, form, deep}
use Rattle.pattern.specs.declared.reading.Sum.{Sum}
use Rattle.pattern.specs.declared.Fault.{Fault}
use Rattle.pattern.specs.declared.Fault.TheVariants.{Form, Deep}

-- "The HEAD's tags is the highest tag plus one, or 0."
abbrev pub tags : Pat → ℕ
tags Empty = 0
tags (Byte b) = 0
tags Any = 0
tags (Set s) = 0
tags (Tag t) = t + 1
tags (Seq p q) = max (tags p) (tags q)
tags (Alt p q) = max (tags p) (tags q)
tags (Star p) = tags p
tags (Plus p) = tags p
tags (Opt p) = tags p

-- how many bytes its records are
abbrev pub width : Pat → ℕ
width Empty = 0
width (Byte b) = 4
width Any = 4
width (Set s) = 34
width (Tag t) = 3
width (Seq p q) = width p + width q
width (Alt p q) = 3 + (width p + width q)
width (Star p) = width p + 3
width (Plus p) = width p + 3
width (Opt p) = width p + 3

-- the measures of a pattern, and of one that is made of others
abbrev pub sum_of : Pat → Sum
sum_of p = record { size = size p; width = width p; tags = tags p }

abbrev pub seq_sum : Sum → Sum → Sum
seq_sum a b = record { size = a.size + b.size; width = a.width + b.width; tags = max a.tags b.tags }

abbrev pub alt_sum : Sum → Sum → Sum
alt_sum a b = record { size = 1 + (a.size + b.size); width = 3 + (a.width + b.width); tags = max a.tags b.tags }

abbrev pub rep_sum : Sum → Sum
rep_sum a = record { size = a.size + 1; width = a.width + 3; tags = a.tags }

-- the place after a part and its measures, or the fault in it
abbrev pub Read : Type 0
Read = Result (ℕ × Sum) Fault

unfoldable pub measured : Res → Read
measured (ok e p) = Ok (e, sum_of p)
measured (form q) = Err (Form q)
measured (deep q) = Err (Deep q)
