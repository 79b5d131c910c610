-- Document 01, "Pattern text": what a bracket set lists, the MASK that it is, and its text read byte by byte.
-- Assumes nothing: these are definitions.
use Rattle.std.specs.Prelude.{ℕ, zero, suc, ◌+◌, ◌*◌, Bool, true, false, not, ◌&&◌, ◌||◌, List, [], ◌∷◌, ◌++◌, eqb, leb, ltb}
use Rattle.ground.specs.Bits.{flag}
use Rattle.ground.specs.Pick.{pick}
use Rattle.classes.specs.Class.{in_class}
use Rattle.pattern.specs.Tests.{among}

-- "An item is c, c-d with c <= d, or `[:name:]`"; c alone is the span from c to c. A class goes by its number.
pub data Item : Type 0 where
  span : (c d : ℕ) → Item
  class : (k : ℕ) → Item

-- b is one of the bytes of an item
abbrev pub lists : ℕ → Item → Bool
lists b (span c d) = leb c b && leb b d
lists b (class k) = in_class k b

abbrev pub listed : ℕ → List Item → Bool
listed b [] = false
listed b (x ∷ xs) = lists b x || listed b xs

-- what a set allows: what it lists or, after `^`, the rest of the 256 bytes
abbrev pub flipped : Bool → Bool → Bool
flipped true t = not t
flipped false t = t

unfoldable pub allows : Bool → List Item → ℕ → Bool
allows caret xs b = flipped caret (listed b xs)

-- "byte b is allowed when bit b mod 8 (0 lowest) of body byte b div 8 is set": k bits of a test from byte b on, lowest first
unfoldable pub octet : (ℕ → Bool) → ℕ → ℕ → ℕ
octet f zero b = 0
octet f (suc k) b = flag (f b) + 2 * octet f k (b + 1)

-- k body bytes of a MASK from byte b on
unfoldable pub octets : (ℕ → Bool) → ℕ → ℕ → List ℕ
octets f zero b = []
octets f (suc k) b = octet f 8 b ∷ octets f k (b + 8)

unfoldable pub mask_of : (ℕ → Bool) → List ℕ
mask_of f = octets f 32 0

-- "Names are the twelve POSIX-locale classes alnum, alpha, blank, cntrl, digit, graph, lower, print, punct, space, upper, xdigit"
abbrev pub names : List (List ℕ)
names =
    (97 ∷ 108 ∷ 110 ∷ 117 ∷ 109 ∷ [])
    ∷ (97 ∷ 108 ∷ 112 ∷ 104 ∷ 97 ∷ [])
    ∷ (98 ∷ 108 ∷ 97 ∷ 110 ∷ 107 ∷ [])
    ∷ (99 ∷ 110 ∷ 116 ∷ 114 ∷ 108 ∷ [])
    ∷ (100 ∷ 105 ∷ 103 ∷ 105 ∷ 116 ∷ [])
    ∷ (103 ∷ 114 ∷ 97 ∷ 112 ∷ 104 ∷ [])
    ∷ (108 ∷ 111 ∷ 119 ∷ 101 ∷ 114 ∷ [])
    ∷ (112 ∷ 114 ∷ 105 ∷ 110 ∷ 116 ∷ [])
    ∷ (112 ∷ 117 ∷ 110 ∷ 99 ∷ 116 ∷ [])
    ∷ (115 ∷ 112 ∷ 97 ∷ 99 ∷ 101 ∷ [])
    ∷ (117 ∷ 112 ∷ 112 ∷ 101 ∷ 114 ∷ [])
    ∷ (120 ∷ 100 ∷ 105 ∷ 103 ∷ 105 ∷ 116 ∷ [])
    ∷ []

-- what follows the `[` of an item: `:name:]`
abbrev pub word_of : List ℕ → List ℕ
word_of name = 58 ∷ (name ++ 58 ∷ 93 ∷ [])

-- How bytes stand to the words of the classes: they are the word of class k, or they begin one, or neither.
pub data Named : Type 0 where
  whole : ℕ → Named
  begun : Named
  none : Named

abbrev pub against : List ℕ → List ℕ → ℕ → Named
against [] [] k = whole k
against [] (d ∷ v) k = begun
against (c ∷ w) [] k = none
against (c ∷ w) (d ∷ v) k = pick (eqb c d) (against w v k) none

abbrev pub or_else : Named → Named → Named
or_else (whole k) n = whole k
or_else begun n = begun
or_else none n = n

abbrev pub seek : List ℕ → List (List ℕ) → ℕ → Named
seek w [] k = none
seek w (v ∷ vs) k = or_else (against w (word_of v) k) (seek w vs (suc k))

-- Where the text of a set stands, after its `[` or `[^`.
pub data Step : Type 0 where
  -- no item yet; an item is complete
  fresh ready : Step
  -- after c, and a `-` may come; after `\`, c is to come
  held : (c : ℕ) → Step
  quote : Step
  -- after c-, d is to come; after c-\
  dash dash_quote : (c : ℕ) → Step
  -- after `[` and these bytes, that begin the word of a class
  name : List ℕ → Step
  -- after the set's `]`; no set goes on so
  shut bad : Step

-- an item begins: "c and d are any byte but `[ ] \ - ^`, or `\` and any byte"
abbrev pub item : ℕ → Step
item c = pick (eqb c 92) quote (pick (eqb c 91) (name []) (pick (among c (93 ∷ 45 ∷ 94 ∷ [])) bad (held c)))

-- the set ends, or an item begins
abbrev pub ends : ℕ → Step
ends c = pick (eqb c 93) shut (item c)

-- d is not below c
abbrev pub upto : ℕ → ℕ → Step
upto c d = pick (ltb d c) bad ready

abbrev pub after_name : Named → List ℕ → Step
after_name (whole k) w = ready
after_name begun w = name w
after_name none w = bad

-- where it stands after one byte more
unfoldable pub set_on : Step → ℕ → Step
set_on fresh c = item c
set_on ready c = ends c
set_on (held a) c = pick (eqb c 45) (dash a) (ends c)
set_on quote c = held c
set_on (dash a) c = pick (eqb c 92) (dash_quote a) (pick (among c (91 ∷ 93 ∷ 45 ∷ 94 ∷ [])) bad (upto a c))
set_on (dash_quote a) c = upto a c
set_on (name w) c = after_name (seek (w ++ c ∷ []) names 0) (w ++ c ∷ [])
set_on shut c = bad
set_on bad c = bad

abbrev pub class_of : Named → List Item
class_of (whole k) = class k ∷ []
class_of begun = []
class_of none = []

-- the item that the byte shows to be complete
unfoldable pub gained : Step → ℕ → List Item
gained fresh c = []
gained ready c = []
gained (held a) c = pick (eqb c 45) [] (span a a ∷ [])
gained quote c = []
gained (dash a) c = pick (eqb c 92) [] (span a c ∷ [])
gained (dash_quote a) c = span a c ∷ []
gained (name w) c = class_of (seek (w ++ c ∷ []) names 0)
gained shut c = []
gained bad c = []

-- What reading a set finds: the place after it and its items, or the first byte at which no set goes on.
pub data Scanned : Type 0 where
  listing : ℕ → List Item → Scanned
  wrong : ℕ → Scanned

abbrev pub onward : Step → (ℕ → Step → List Item → Scanned) → ℕ → List Item → Scanned
onward shut f i xs = listing (i + 1) xs
onward bad f i xs = wrong i
onward fresh f i xs = f (i + 1) fresh xs
onward ready f i xs = f (i + 1) ready xs
onward (held c) f i xs = f (i + 1) (held c) xs
onward quote f i xs = f (i + 1) quote xs
onward (dash c) f i xs = f (i + 1) (dash c) xs
onward (dash_quote c) f i xs = f (i + 1) (dash_quote c) xs
onward (name w) f i xs = f (i + 1) (name w) xs

-- the bytes w of a set, that stand at i, after the items xs
unfoldable pub scan : List ℕ → ℕ → Step → List Item → Scanned
scan [] i st xs = wrong i
scan (c ∷ w) i st xs = onward (set_on st c) (scan w) i (xs ++ gained st c)
