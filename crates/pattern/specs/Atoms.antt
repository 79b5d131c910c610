-- What reading one atom that is no group answers, and the record that is written of it. Assumes nothing: these are definitions.
use Rattle.std.specs.Prelude.{◌≡◌, ℕ, ◌<◌, List, [], length, Result, Ok, Err}
use Rattle.net.specs.Rec.{Rec, range, mask, tag}
use Rattle.pattern.specs.Pat.{Pat, Byte, Any, Set, Tag}
use Rattle.pattern.specs.Reader.{Res, ok, form, deep, single, set_at}
use Rattle.pattern.specs.Measured.{measured}
use Rattle.pattern.specs.declared.Fault.{Fault}
use Rattle.pattern.specs.declared.reading.Atom.{Atom}
use Rattle.pattern.specs.declared.reading.Atom.TheVariants as one

-- the MASK of a set that was read
abbrev pub bits : Pat → List ℕ
bits (Set m) = m
bits _ = []

abbrev pub bits_of : Res → List ℕ
bits_of (ok e p) = bits p
bits_of (form q) = []
bits_of (deep q) = []

-- the pattern that an atom is, and its record, where a set has that MASK
abbrev pub pat_of : List ℕ → Atom → Pat
pat_of m (one.Byte b) = Byte b
pat_of m one.Any = Any
pat_of m (one.Tag t) = Tag t
pat_of m one.Set = Set m

abbrev pub record_of : List ℕ → Atom → ℕ → Rec
record_of m (one.Byte b) next = range b b next
record_of m one.Any next = range 0 255 next
record_of m (one.Tag t) next = tag t next
record_of m one.Set next = mask m next

-- a set stands at i, from `[` to `]`
pub record Boxed (s : List ℕ) (i : ℕ) : Type 0 where
  pub within : i < length s
  pub end : ℕ
  pub is : set_at s i ≡ ok end (Set (bits_of (set_at s i)))

-- an atom can be written: a set, where one stands
abbrev pub Ready : List ℕ → ℕ → Atom → Type 0
Ready s i one.Set = Boxed s i
Ready s i _ = Unit {0}

-- a tag is one of eight
abbrev pub Small : Atom → Type 0
Small (one.Tag t) = t < 8
Small _ = Unit {0}

-- what stands at i is that atom, up to e
pub record Stands (s : List ℕ) (i e : ℕ) (a : Atom) : Type 0 where
  pub is : single s i ≡ ok e (pat_of (bits_of (set_at s i)) a)
  pub small : Small a
  pub ready : Ready s i a

abbrev pub Found : List ℕ → ℕ → Result (ℕ × Atom) Fault → Type 0
Found s i (Ok x) = Stands s i x.0 x.1
Found s i (Err f) = Err f ≡ measured (single s i)
