-- Document 01: "Names are the twelve POSIX-locale classes alnum, alpha, blank, cntrl, digit, graph, lower, print, punct, space,
-- upper, xdigit, ASCII only. A table with one entry for each of the 256 bytes holds class membership, bits 0 to 11 in that order."
-- Assumes nothing: these are definitions.
use Rattle.std.specs.Prelude.{ℕ, Bool, false, ◌&&◌, ◌||◌, List, [], ◌∷◌, ◌++◌, map, leb, get_or}
use Rattle.ground.specs.Bits.{number_of}

-- the bytes from lo to hi
pub record Span : Type 0 where
  pub lo : ℕ
  pub hi : ℕ

abbrev pub span : ℕ → ℕ → List Span
span a b = record { lo = a; hi = b } ∷ []

abbrev pub within : ℕ → Span → Bool
within b s = leb s.lo b && leb b s.hi

abbrev pub in_some : ℕ → List Span → Bool
in_some b [] = false
in_some b (s ∷ ss) = within b s || in_some b ss

-- the classes of the POSIX locale, by their bytes
abbrev pub digit : List Span
digit = span 48 57

abbrev pub upper : List Span
upper = span 65 90

abbrev pub lower : List Span
lower = span 97 122

abbrev pub alpha : List Span
alpha = upper ++ lower

abbrev pub alnum : List Span
alnum = alpha ++ digit

abbrev pub xdigit : List Span
xdigit = digit ++ span 65 70 ++ span 97 102

abbrev pub punct : List Span
punct = span 33 47 ++ span 58 64 ++ span 91 96 ++ span 123 126

abbrev pub graph : List Span
graph = alnum ++ punct

abbrev pub print : List Span
print = graph ++ span 32 32

abbrev pub blank : List Span
blank = span 9 9 ++ span 32 32

abbrev pub space : List Span
space = span 9 13 ++ span 32 32

abbrev pub cntrl : List Span
cntrl = span 0 31 ++ span 127 127

-- in document 01's order
abbrev pub classes : List (List Span)
classes = alnum ∷ alpha ∷ blank ∷ cntrl ∷ digit ∷ graph ∷ lower ∷ print ∷ punct ∷ space ∷ upper ∷ xdigit ∷ []

-- byte b is in class k; there is no class 12
unfoldable pub in_class : ℕ → ℕ → Bool
in_class k b = in_some b (get_or classes k [])

-- bit k of the word is membership in class k
unfoldable pub class_word : ℕ → ℕ
class_word b = number_of (map (in_some b) classes)
