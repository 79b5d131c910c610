-- Document 01, "What a caller gets back": the twenty-one answers by number and name, as the promises cite them.
-- Assumes nothing: these are definitions.
use Rattle.std.specs.Prelude.{ℕ, List, [], ◌∷◌}

-- given by: all calls
abbrev pub OK : ℕ
OK = 0

-- given by: pattern
abbrev pub PATTERN_LONG : ℕ
PATTERN_LONG = 1

-- given by: pattern, with place
abbrev pub PATTERN_FORM : ℕ
PATTERN_FORM = 2

-- given by: pattern, with place
abbrev pub PATTERN_DEEP : ℕ
PATTERN_DEEP = 3

-- given by: pattern
abbrev pub PATTERN_BIG : ℕ
PATTERN_BIG = 4

-- given by: build, byte count
abbrev pub NET_KIND : ℕ
NET_KIND = 5

-- given by: build, byte count
abbrev pub NET_SHORT : ℕ
NET_SHORT = 6

-- given by: build, byte count
abbrev pub NET_FIELD : ℕ
NET_FIELD = 7

-- given by: build, byte count
abbrev pub NET_EXTRA : ℕ
NET_EXTRA = 8

-- given by: build
abbrev pub WORK_SMALL : ℕ
WORK_SMALL = 9

-- given by: build
abbrev pub REGISTERS : ℕ
REGISTERS = 10

-- given by: build
abbrev pub SITUATIONS : ℕ
SITUATIONS = 11

-- given by: pattern, build: output shorter than the whole result
abbrev pub OUT_SMALL : ℕ
OUT_SMALL = 12

-- given by: loader, run
abbrev pub TABLE_FORM : ℕ
TABLE_FORM = 13

-- given by: loader, run
abbrev pub EMPTY_READ : ℕ
EMPTY_READ = 14

-- given by: run
abbrev pub LINE_LONG : ℕ
LINE_LONG = 15

-- given by: run
abbrev pub NO_MATCH : ℕ
NO_MATCH = 16

-- given by: field
abbrev pub FIELD_ABSENT : ℕ
FIELD_ABSENT = 17

-- given by: field
abbrev pub FIELD_BACK : ℕ
FIELD_BACK = 18

-- given by: field
abbrev pub FIELD_PAST : ℕ
FIELD_PAST = 19

-- given by: byte count: record absent, or neither RANGE nor MASK
abbrev pub NOT_BYTES : ℕ
NOT_BYTES = 20

-- all of them, in document 01's order
abbrev pub answers : List ℕ
answers = OK ∷ PATTERN_LONG ∷ PATTERN_FORM ∷ PATTERN_DEEP ∷ PATTERN_BIG ∷ NET_KIND ∷ NET_SHORT ∷ NET_FIELD ∷ NET_EXTRA ∷ WORK_SMALL ∷ REGISTERS ∷ SITUATIONS ∷ OUT_SMALL ∷ TABLE_FORM ∷ EMPTY_READ ∷ LINE_LONG ∷ NO_MATCH ∷ FIELD_ABSENT ∷ FIELD_BACK ∷ FIELD_PAST ∷ NOT_BYTES ∷ []
