-- A refusal's number, and the number of a call's answer. Assumes nothing: these are definitions.
use Rattle.std.specs.Prelude.{ℕ, Result, Ok, Err}
use Rattle.answers.specs.Answers.{OK, PATTERN_LONG, PATTERN_FORM, PATTERN_DEEP, PATTERN_BIG, NET_KIND, NET_SHORT, NET_FIELD, NET_EXTRA, WORK_SMALL, REGISTERS, SITUATIONS, OUT_SMALL, TABLE_FORM, EMPTY_READ, LINE_LONG, NO_MATCH, FIELD_ABSENT, FIELD_BACK, FIELD_PAST, NOT_BYTES}
use Rattle.answers.specs.declared.Refusal.{Refusal}
use Rattle.answers.specs.declared.Refusal.TheVariants.{PatternLong, PatternForm, PatternDeep, PatternBig, NetKind, NetShort, NetField, NetExtra, WorkSmall, Registers, Situations, OutSmall, TableForm, EmptyRead, LineLong, NoMatch, FieldAbsent, FieldBack, FieldPast, NotBytes}

-- the number of a refusal
abbrev pub code_of : Refusal → ℕ
code_of PatternLong = PATTERN_LONG
code_of PatternForm = PATTERN_FORM
code_of PatternDeep = PATTERN_DEEP
code_of PatternBig = PATTERN_BIG
code_of NetKind = NET_KIND
code_of NetShort = NET_SHORT
code_of NetField = NET_FIELD
code_of NetExtra = NET_EXTRA
code_of WorkSmall = WORK_SMALL
code_of Registers = REGISTERS
code_of Situations = SITUATIONS
code_of OutSmall = OUT_SMALL
code_of TableForm = TABLE_FORM
code_of EmptyRead = EMPTY_READ
code_of LineLong = LINE_LONG
code_of NoMatch = NO_MATCH
code_of FieldAbsent = FIELD_ABSENT
code_of FieldBack = FIELD_BACK
code_of FieldPast = FIELD_PAST
code_of NotBytes = NOT_BYTES

-- the number of an answer
abbrev pub number_of : {A : Type 0} → Result A Refusal → ℕ
number_of (Ok x) = OK
number_of (Err e) = code_of e
