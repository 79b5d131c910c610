-- What the functions that read a set answer, in terms of the set's steps. Assumes nothing: these are definitions.
use Rattle.std.specs.Prelude.{ℕ, ◌+◌, ◌-◌, ◌≤◌, ◌<◌, ◌≡◌, Bool, true, false, List, [], ◌∷◌, Option, None, Some, Result, Ok, Err, IfSome, length, get_or, take, drop, eqb}
use Rattle.ground.specs.Bits.{flag}
use Rattle.ground.specs.Pick.{look}
use Rattle.pattern.specs.Sets as sets
use Rattle.pattern.specs.Sets.{Step, Named, names, word_of, listed}
use Rattle.pattern.specs.declared.sets.Stand.{Stand}
use Rattle.pattern.specs.declared.sets.Stand.TheVariants.{Fresh, Ready, Held, Quote, Dash, DashQuote, Name, Shut}
use Rattle.pattern.specs.declared.sets.Word.{Word}
use Rattle.pattern.specs.declared.sets.Word.TheVariants.{Whole, Begun}
use Rattle.pattern.specs.declared.sets.Item.{Item}
use Rattle.pattern.specs.declared.sets.Item.TheVariants.{Span, Class}

-- what follows the `[` in the name of class k
unfoldable pub word : ℕ → List ℕ
word k = word_of (get_or names k [])

abbrev pub told : Option Word → Named
told (Some (Whole k)) = sets.whole k
told (Some Begun) = sets.begun
told None = sets.none

-- the step at which a reading of the text s stands before place i
abbrev pub stands : List ℕ → ℕ → Stand → Step
stands s i Fresh = sets.fresh
stands s i Ready = sets.ready
stands s i (Held c) = sets.held c
stands s i Quote = sets.quote
stands s i (Dash c) = sets.dash c
stands s i (DashQuote c) = sets.dash_quote c
stands s i (Name from) = sets.name (take (i - from) (drop from s))
stands s i Shut = sets.shut

-- a name began before the place
abbrev pub Sound : ℕ → Stand → Type 0
Sound i Fresh = Unit {0}
Sound i Ready = Unit {0}
Sound i (Held c) = Unit {0}
Sound i Quote = Unit {0}
Sound i (Dash c) = Unit {0}
Sound i (DashQuote c) = Unit {0}
Sound i (Name from) = from ≤ i
Sound i Shut = Unit {0}

-- where a byte leads, if a set goes on so
abbrev pub leads : List ℕ → ℕ → Option Stand → Step
leads s i (Some st) = stands s i st
leads s i None = sets.bad

-- the byte at i leads to r
pub record Stepped (s : List ℕ) (i : ℕ) (x : Step) (r : Option Stand) : Type 0 where
  pub is : leads s (i + 1) r ≡ x
  pub sound : IfSome r (Sound (i + 1))

abbrev pub item_of : Item → sets.Item
item_of (Span c d) = sets.span c d
item_of (Class k) = sets.class k

-- the items of an answer, one at most
abbrev pub items_of : Option Item → List sets.Item
items_of None = []
items_of (Some x) = item_of x ∷ []

-- a mark that is set, or stays
abbrev pub raised : Bool → ℕ → ℕ
raised true old = 1
raised false old = old

-- each mark is that of a byte, and says whether the items list it
pub record Shown (m : List ℕ) (xs : List sets.Item) : Type 0 where
  pub right : (b : ℕ) → b < length m → get_or m b 0 ≡ flag (listed b xs)

-- a mark for each of the 256 bytes that the items list
pub record Marks (m : List ℕ) (xs : List sets.Item) : Type 0 where
  pub long : length m ≡ 256
  pub right : (b : ℕ) → b < 256 → get_or m b 0 ≡ flag (listed b xs)

-- the same of the items of a set that was read
unfoldable pub Shows : List ℕ → sets.Scanned → Type 0
Shows m (sets.listing e xs) = Shown m xs
Shows m (sets.wrong q) = Unit {0}

unfoldable pub Listed : List ℕ → sets.Scanned → Type 0
Listed m (sets.listing e xs) = Marks m xs
Listed m (sets.wrong q) = Unit {0}

-- where the reading ended
unfoldable pub seen : sets.Scanned → Result ℕ ℕ
seen (sets.listing e xs) = Ok e
seen (sets.wrong q) = Err q

-- the set whose `[` stands at i
abbrev pub boxed_from : Bool → List ℕ → ℕ → sets.Scanned
boxed_from true s i = sets.scan (drop (i + 2) s) (i + 2) sets.fresh []
boxed_from false s i = sets.scan (drop (i + 1) s) (i + 1) sets.fresh []

unfoldable pub boxed : List ℕ → ℕ → sets.Scanned
boxed s i = boxed_from (eqb (look s (i + 1)) 94) s i
