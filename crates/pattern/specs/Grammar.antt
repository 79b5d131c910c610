-- Document 01, "Pattern text": the grammar, and the places of PATTERN_FORM and PATTERN_DEEP. Assumes nothing: these are definitions.
use Rattle.std.specs.Prelude.{ℕ, zero, suc, ◌+◌, ◌≤◌, ◌<◌, ◌≡◌, Bool, true, false, List, [], ◌∷◌, ◌++◌, length, take, get_or}
use Rattle.pattern.specs.Pat.{Pat}
use Rattle.pattern.specs.Pat.Pat.{Empty, Byte, Any, Set, Tag, Seq, Alt, Star, Plus, Opt}
use Rattle.pattern.specs.Tests.{among}
use Rattle.pattern.specs.Sets.{Item, span, class, names, word_of, allows, mask_of}
use Rattle.pattern.specs.Reader.{Lvl, alts, seq, piece, atom}

-- "Special outside brackets: `| * + ? ( ) [ ] . @ \`."
abbrev pub special : ℕ → Bool
special c = among c (124 ∷ 42 ∷ 43 ∷ 63 ∷ 40 ∷ 41 ∷ 91 ∷ 93 ∷ 46 ∷ 64 ∷ 92 ∷ [])

pub record Ordinary (c : ℕ) : Type 0 where
  pub byte : c < 256
  pub plain : special c ≡ false

-- "c and d are any byte but `[ ] \ - ^`, or `\` and any byte"
pub record Plain (c : ℕ) : Type 0 where
  pub byte : c < 256
  pub plain : among c (91 ∷ 93 ∷ 92 ∷ 45 ∷ 94 ∷ []) ≡ false

pub data CharSpells : List ℕ → ℕ → Type 0 where
  itself : {c : ℕ} → Plain c → CharSpells (c ∷ []) c
  quoted : {c : ℕ} → c < 256 → CharSpells (92 ∷ c ∷ []) c

-- "An item is c, c-d with c <= d, or `[:name:]`"
pub data ItemSpells : List ℕ → Item → Type 0 where
  char : {w : List ℕ} {c : ℕ} → CharSpells w c → ItemSpells w (span c c)
  chars : {w v : List ℕ} {c d : ℕ} → CharSpells w c → CharSpells v d → c ≤ d → ItemSpells (w ++ 45 ∷ v) (span c d)
  named : {k : ℕ} → k < 12 → ItemSpells (91 ∷ word_of (get_or names k [])) (class k)

-- "one or more items"
pub data ItemsSpell : List ℕ → List Item → Type 0 where
  last_item : {w : List ℕ} {x : Item} → ItemSpells w x → ItemsSpell w (x ∷ [])
  more_items : {w v : List ℕ} {x : Item} {xs : List Item} → ItemSpells w x → ItemsSpell v xs → ItemsSpell (w ++ v) (x ∷ xs)

-- "A set is `[`, perhaps `^`, one or more items, `]`." It is known by the 32 bytes of its MASK.
pub data SetSpells : List ℕ → List ℕ → Type 0 where
  these : {w : List ℕ} {xs : List Item} → ItemsSpell w xs → SetSpells (91 ∷ (w ++ 93 ∷ [])) (mask_of (allows false xs))
  others : {w : List ℕ} {xs : List Item} → ItemsSpell w xs → SetSpells (91 ∷ 94 ∷ (w ++ 93 ∷ [])) (mask_of (allows true xs))

-- The bytes w spell the pattern p at a level of the grammar.
-- "Alternatives split by `|` (`a|b|c` is `a|(b|c)`), sequence, at most one of `* + ?` after an atom. Atoms: an ordinary byte; `.` any byte;
-- `\` and any byte; `@` and 0 to 7, a tag; `( )`, grouping only; a bracket set. .. An alternative may be empty."
pub data Spells : Lvl → List ℕ → Pat → Type 0 where
  last_alt : {w : List ℕ} {p : Pat} → Spells seq w p → Spells alts w p
  more_alts : {w v : List ℕ} {p q : Pat} → Spells seq w p → Spells alts v q → Spells alts (w ++ 124 ∷ v) (Alt p q)
  no_more : Spells seq [] Empty
  more : {w v : List ℕ} {p q : Pat} → Spells piece w p → Spells seq v q → Spells seq (w ++ v) (Seq p q)
  bare : {w : List ℕ} {p : Pat} → Spells atom w p → Spells piece w p
  star : {w : List ℕ} {p : Pat} → Spells atom w p → Spells piece (w ++ 42 ∷ []) (Star p)
  plus : {w : List ℕ} {p : Pat} → Spells atom w p → Spells piece (w ++ 43 ∷ []) (Plus p)
  opt : {w : List ℕ} {p : Pat} → Spells atom w p → Spells piece (w ++ 63 ∷ []) (Opt p)
  group : {w : List ℕ} {p : Pat} → Spells alts w p → Spells atom (40 ∷ (w ++ 41 ∷ [])) p
  byte : {c : ℕ} → Ordinary c → Spells atom (c ∷ []) (Byte c)
  any : Spells atom (46 ∷ []) Any
  escaped : {c : ℕ} → c < 256 → Spells atom (92 ∷ c ∷ []) (Byte c)
  tag : {t : ℕ} → t < 8 → Spells atom (64 ∷ (t + 48) ∷ []) (Tag t)
  set : {w bits : List ℕ} → SetSpells w bits → Spells atom w (Set bits)

-- A legal pattern, nesting and length apart.
abbrev pub Legal : List ℕ → Type 0
Legal w = (p : Pat) × Spells alts w p

-- A legal pattern begins with w.
abbrev pub Begins : List ℕ → Type 0
Begins w = (v : List ℕ) × Legal (w ++ v)

-- "The place of FORM is the first byte up to which no legal pattern begins, nesting and length apart, or the length if all bytes could begin one."
pub record FormAt (s : List ℕ) (q : ℕ) : Type 0 where
  pub illegal : Legal s → ⊥
  pub inside : q ≤ length s
  pub before : Begins (take q s)
  pub beyond : q < length s → Begins (take (q + 1) s) → ⊥

-- w ends between atoms, with n groups open
abbrev pub Open : ℕ → List ℕ → Type 0
Open zero w = Legal w
Open (suc n) w = (u : List ℕ) × (v : List ℕ) × Legal u × Open n v × (w ≡ u ++ 40 ∷ v)

-- "DEEP's place is the 17th open `(`": the byte at q opens a group while sixteen are open
pub record DeepAt (s : List ℕ) (q : ℕ) : Type 0 where
  pub within : q < length s
  pub opens : get_or s q 0 ≡ 40
  pub inside : Open 16 (take q s)
