-- Reading a pattern text: what stands at a place, by the levels of the grammar. Assumes nothing: these are definitions.
use Rattle.std.specs.Prelude.{ℕ, zero, suc, ◌+◌, ◌-◌, ◌*◌, Bool, true, false, ◌&&◌, ◌||◌, List, [], length, drop, eqb, leb}
use Rattle.ground.specs.Pick.{look}
use Rattle.pattern.specs.Pat.{Pat}
use Rattle.pattern.specs.Pat.Pat.{Empty, Byte, Any, Set, Tag, Seq, Alt, Star, Plus, Opt}
use Rattle.pattern.specs.Sets.{Scanned, listing, wrong, scan, fresh, allows, mask_of}

-- What reading finds: a piece and the place after it, or a refusal with its place.
pub data Res : Type 0 where
  ok : ℕ → Pat → Res
  form : ℕ → Res
  deep : ℕ → Res

-- The grammar's levels: alternatives, sequences, an atom that may be repeated, atoms.
pub data Lvl : Type 0 where
  alts seq piece atom : Lvl

-- what follows a reading that went well
abbrev pub and_then : Res → (ℕ → Pat → Res) → Res
and_then (ok e p) f = f e p
and_then (form q) f = form q
and_then (deep q) f = deep q

-- a sequence ends before `|`, before `)` and at the end
abbrev pub stops : ℕ → Bool
stops c = eqb c 124 || (eqb c 41 || eqb c 256)

-- the bytes that repeat an atom
abbrev pub repeating : ℕ → Bool
repeating c = eqb c 42 || (eqb c 43 || eqb c 63)

-- what begins no atom: `| )` and the end, `* + ?`, `]`
abbrev pub barred : ℕ → Bool
barred c = stops c || (repeating c || eqb c 93)

-- One atom that is no group, at i where the byte is c, by tests in a fixed order.
abbrev pub on_byte : Bool → ℕ → ℕ → Res
on_byte true i c = form i
on_byte false i c = ok (i + 1) (Byte c)

-- "A set is `[`, perhaps `^`, one or more items, `]`."
abbrev pub set_read : Bool → Scanned → Res
set_read caret (listing e xs) = ok e (Set (mask_of (allows caret xs)))
set_read caret (wrong q) = form q

abbrev pub set_from : Bool → List ℕ → ℕ → Res
set_from true s i = set_read true (scan (drop (i + 2) s) (i + 2) fresh [])
set_from false s i = set_read false (scan (drop (i + 1) s) (i + 1) fresh [])

unfoldable pub set_at : List ℕ → ℕ → Res
set_at s i = set_from (eqb (look s (i + 1)) 94) s i

abbrev pub on_set : Bool → List ℕ → ℕ → ℕ → Res
on_set true s i c = set_at s i
on_set false s i c = on_byte (barred c) i c

abbrev pub on_dot : Bool → List ℕ → ℕ → ℕ → Res
on_dot true s i c = ok (i + 1) Any
on_dot false s i c = on_set (eqb c 91) s i c

-- "`@` and 0 to 7, a tag"
abbrev pub tagged : Bool → ℕ → ℕ → Res
tagged true i t = ok (i + 2) (Tag (t - 48))
tagged false i t = form (i + 1)

abbrev pub is_tag : ℕ → Bool
is_tag t = leb 48 t && leb t 55

abbrev pub on_mark : Bool → List ℕ → ℕ → ℕ → Res
on_mark true s i c = tagged (is_tag (look s (i + 1))) i (look s (i + 1))
on_mark false s i c = on_dot (eqb c 46) s i c

-- "`\` and any byte"
abbrev pub escaped : Bool → ℕ → ℕ → Res
escaped true i c = form (i + 1)
escaped false i c = ok (i + 2) (Byte c)

abbrev pub on_esc : Bool → List ℕ → ℕ → ℕ → Res
on_esc true s i c = escaped (eqb (look s (i + 1)) 256) i (look s (i + 1))
on_esc false s i c = on_mark (eqb c 64) s i c

unfoldable pub single : List ℕ → ℕ → Res
single s i = on_esc (eqb (look s i) 92) s i (look s i)

-- One step of reading, with how to read on.
abbrev pub alt_tail : Bool → (ℕ → Res) → ℕ → Pat → Res
alt_tail true rest e p = and_then (rest (e + 1)) (λ e' q. ok e' (Alt p q))
alt_tail false rest e p = ok e p

abbrev pub seq_tail : Bool → (ℕ → Res) → (ℕ → Res) → ℕ → Res
seq_tail true one rest i = ok i Empty
seq_tail false one rest i = and_then (one i) (λ e p. and_then (rest e) (λ e' q. ok e' (Seq p q)))

abbrev pub opt? : Bool → ℕ → Pat → Res
opt? true e p = ok (e + 1) (Opt p)
opt? false e p = ok e p

abbrev pub plus? : Bool → ℕ → ℕ → Pat → Res
plus? true c e p = ok (e + 1) (Plus p)
plus? false c e p = opt? (eqb c 63) e p

abbrev pub repeated : Bool → ℕ → ℕ → Pat → Res
repeated true c e p = ok (e + 1) (Star p)
repeated false c e p = plus? (eqb c 43) c e p

abbrev pub closed : Bool → ℕ → Pat → Res
closed true e p = ok (e + 1) p
closed false e p = form e

-- a group opens at i: refused where sixteen are open
abbrev pub grouped : Bool → (ℕ → ℕ → Res) → List ℕ → ℕ → ℕ → Res
grouped true inner s d i = deep i
grouped false inner s d i = and_then (inner (d + 1) (i + 1)) (λ e p. closed (eqb (look s e) 41) e p)

abbrev pub atom_or : Bool → (ℕ → ℕ → Res) → List ℕ → ℕ → ℕ → Res
atom_or true inner s d i = grouped (eqb d 16) inner s d i
atom_or false inner s d i = single s i

abbrev pub step : (Lvl → ℕ → ℕ → Res) → List ℕ → Lvl → ℕ → ℕ → Res
step on s alts d i = and_then (on seq d i) (λ e p. alt_tail (eqb (look s e) 124) (on alts d) e p)
step on s seq d i = seq_tail (stops (look s i)) (on piece d) (on seq d) i
step on s piece d i = and_then (on atom d i) (λ e p. repeated (eqb (look s e) 42) (look s e) e p)
step on s atom d i = atom_or (eqb (look s i) 40) (on alts) s d i

-- Reading within a number of steps.
unfoldable pub read_in : ℕ → List ℕ → Lvl → ℕ → ℕ → Res
read_in zero s l d i = form i
read_in (suc k) s l d i = step (read_in k s) s l d i

abbrev pub rank : Lvl → ℕ
rank alts = 3
rank seq = 2
rank piece = 1
rank atom = 0

-- the bytes left, paired with the grammar level
abbrev pub left : List ℕ → Lvl → ℕ → ℕ
left s l i = (length s - i) * 4 + rank l

-- Reading one level's part of the text at i, with d groups open. With d above 16 no group is too deep.
unfoldable pub read : List ℕ → Lvl → ℕ → ℕ → Res
read s l d i = read_in (suc (left s l i)) s l d i
