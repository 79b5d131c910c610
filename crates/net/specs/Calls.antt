-- What the calls of this crate hand back, said by what the file holds. Assumes nothing: these are definitions.
use Rattle.std.specs.Prelude.{◌≡◌, Bool, cond, ◌&&◌, List, ℕ, ◌+◌, ◌-◌, ltb, leb, length, take, drop, replicate, Result, Ok, Err}
use Rattle.answers.specs.Refusals as refusals
use Rattle.answers.specs.declared.Refusal.{Refusal}
use Rattle.answers.specs.declared.Refusal.TheVariants.{NetKind, NetShort, NetField, NetExtra}
use Rattle.net.specs.Rec.{Rec, range, mask, fork, tag, end}
use Rattle.net.specs.Items.{NetFault, net_kind, net_short, net_field, net_extra, size, known, ItemRead, got, stop, HeadRead, counts, bad, net_of, code_of, Placed}
use Rattle.net.specs.declared.Item.{Item}
use Rattle.net.specs.declared.Item.TheVariants.{Range, Mask, Fork, Tag, End}
use Rattle.net.specs.declared.Layout.{Layout}

-- a fault's refusal, which has its number (net/proofs/Reading, refusal_number)
abbrev pub refusal : NetFault → Refusal
refusal net_kind = NetKind
refusal net_short = NetShort
refusal net_field = NetField
refusal net_extra = NetExtra

-- a HEAD as the reader hands it on
unfoldable pub head_shown : HeadRead → Result (ℕ × ℕ) Refusal
head_shown (counts tags count) = Ok (tags, count)
head_shown (bad f) = Err (refusal f)

-- how many bytes an item of a kind has, where a record may have that kind
abbrev pub size_shown : ℕ → Result ℕ Refusal
size_shown k = cond (known k) (Ok (size k)) (Err NetKind)

-- the record at a place as the reader hands it on: a MASK by the place of its bytes
unfoldable pub item_shown : (at : ℕ) → Rec → Item
item_shown at (range lo hi next) = Range lo hi next
item_shown at (mask bits next) = Mask (at + 1) next
item_shown at (fork first second) = Fork first second
item_shown at (tag t next) = Tag t next
item_shown at (end answer) = End answer

-- Items.in_range, of the record that an item stands for
abbrev pub in_range : (tags count : ℕ) → Item → Bool
in_range tags count (Range lo hi next) = leb lo hi && ltb next count
in_range tags count (Mask at next) = ltb next count
in_range tags count (Fork first second) = ltb first count && ltb second count
in_range tags count (Tag t next) = ltb t tags && ltb next count
in_range tags count (End answer) = leb answer 254

unfoldable pub shown : (at : ℕ) → ItemRead → Result (Item × ℕ) Refusal
shown at (got x after) = Ok (item_shown at x, after)
shown at (stop f) = Err (refusal f)

-- a legal file's tags and the places of its records, with zeros past them
pub record Laid (s : List ℕ) (r : Layout) : Type 0 where
  pub counted : length (take r.count r.at) ≡ r.count
  pub placed : Placed s r.tags (take r.count r.at)
  pub rest : drop r.count r.at ≡ replicate (64 - r.count) 0

-- those of a legal file, and else the file's refusal
abbrev pub LayoutOf : List ℕ → Result Layout Refusal → Type 0
LayoutOf s (Ok r) = Laid s r
LayoutOf s (Err e) = refusals.code_of e ≡ code_of (net_of s)
