-- Document 01, "Automaton file", from the reading side: the item at a place, the refusal that stops a reader, and the net that a file holds.
-- Assumes nothing: these are definitions.
use Rattle.std.specs.Prelude.{◌≡◌, Bool, cond, not, ◌&&◌, List, [], ◌∷◌, map, ℕ, zero, suc, ◌+◌, ◌≤◌, ◌<◌, ltb, leb, eqb, length, get_or, take, drop}
use Rattle.ground.specs.Pick.{pick}
use Rattle.net.specs.Rec.{Rec, range, mask, fork, tag, end, Net}
use Rattle.net.specs.File.{Fits}

-- ---- the record at a place

-- "Every item is one byte of kind, then a body whose length the kind fixes": how many bytes an item of a kind has
abbrev pub size : ℕ → ℕ
size k = cond (eqb k 0x11) 4 (cond (eqb k 0x12) 34 (cond (eqb k 0x15) 2 3))

abbrev pub rec_of : ℕ → ℕ → ℕ → ℕ → List ℕ → ℕ → Rec
rec_of k a b c bits n =
    cond (eqb k 0x11) (range a b c) (cond (eqb k 0x12) (mask bits n) (cond (eqb k 0x13) (fork a b) (cond (eqb k 0x14) (tag a b) (end a))))

-- the record whose kind byte stands at a place
unfoldable pub rec_at : List ℕ → ℕ → Rec
rec_at s at =
    rec_of (get_or s at 0) (get_or s (at + 1) 0) (get_or s (at + 2) 0) (get_or s (at + 3) 0) (take 32 (drop (at + 1) s)) (get_or s (at + 33) 0)

-- the records at places
unfoldable pub net_at : List ℕ → List ℕ → Net
net_at s offs = map (rec_at s) offs

-- the places of k records, the first at a place: each begins where the one before ends
unfoldable pub starts : ℕ → List ℕ → ℕ → List ℕ
starts zero s at = []
starts (suc k) s at = at ∷ starts k s (at + size (get_or s at 0))

-- ---- refusals

-- "5..8 NET_KIND, _SHORT, _FIELD, _EXTRA"
pub data NetFault : Type 0 where
  net_kind : NetFault
  net_short : NetFault
  net_field : NetFault
  net_extra : NetFault

unfoldable pub number : NetFault → ℕ
number net_kind = 5
number net_short = 6
number net_field = 7
number net_extra = 8

-- ---- an item

-- "a reader yields the next record, or the refusal that stops it": the record with the place after it
pub data ItemRead : Type 0 where
  got : Rec → (after : ℕ) → ItemRead
  stop : NetFault → ItemRead

-- the kinds 11 to 15
abbrev pub known : ℕ → Bool
known k = leb 0x11 k && leb k 0x15

-- "lo <= hi"; "A next, first or second is below count; a tag is below tags"; "answer 0..254"
abbrev pub in_range : (tags count : ℕ) → Rec → Bool
in_range tags count (range lo hi next) = leb lo hi && ltb next count
in_range tags count (mask bits next) = ltb next count
in_range tags count (fork first second) = ltb first count && ltb second count
in_range tags count (tag t next) = ltb t tags && ltb next count
in_range tags count (end answer) = leb answer 254

-- "a cut body, NET_SHORT; a field out of range, NET_FIELD"
unfoldable pub body_at : List ℕ → (at tags count : ℕ) → ItemRead
body_at s at tags count =
    pick (ltb (length s) (at + size (get_or s at 0))) (stop net_short)
    (pick (not (in_range tags count (rec_at s at))) (stop net_field)
    (got (rec_at s at) (at + size (get_or s at 0))))

-- "For each item: no kind byte, NET_SHORT; a kind not allowed there, NET_KIND"
unfoldable pub item_at : List ℕ → (at tags count : ℕ) → ItemRead
item_at s at tags count =
    pick (leb (length s) at) (stop net_short)
    (pick (not (known (get_or s at 0))) (stop net_kind)
    (body_at s at tags count))

-- ---- the HEAD

pub data HeadRead : Type 0 where
  counts : (tags count : ℕ) → HeadRead
  bad : NetFault → HeadRead

-- "edition 1, tags 0..8, count 1..64"
abbrev pub head_in_range : (edition tags count : ℕ) → Bool
head_in_range edition tags count = eqb edition 1 && (leb tags 8 && (leb 1 count && leb count 64))

-- the same order of refusals, where only the kind 10 hex is allowed
unfoldable pub head_of : List ℕ → HeadRead
head_of s =
    pick (eqb (length s) 0) (bad net_short)
    (pick (not (eqb (get_or s 0 0) 0x10)) (bad net_kind)
    (pick (ltb (length s) 4) (bad net_short)
    (pick (not (head_in_range (get_or s 1 0) (get_or s 2 0) (get_or s 3 0))) (bad net_field)
    (counts (get_or s 2 0) (get_or s 3 0)))))

-- ---- the file

-- what a file holds: tags and records, or the refusal
pub data NetRead : Type 0 where
  net : (tags : ℕ) → Net → NetRead
  refused : NetFault → NetRead

unfoldable pub prepend : Rec → NetRead → NetRead
prepend x (net tags A) = net tags (x ∷ A)
prepend x (refused f) = refused f

unfoldable pub after_item : ItemRead → (ℕ → NetRead) → NetRead
after_item (got x after) rest = prepend x (rest after)
after_item (stop f) rest = refused f

-- "Items are read in file order"; after k more: "Bytes after the last record: NET_EXTRA"
unfoldable pub recs_from : ℕ → List ℕ → (at tags count : ℕ) → NetRead
recs_from zero s at tags count = pick (ltb at (length s)) (refused net_extra) (net tags [])
recs_from (suc k) s at tags count = after_item (item_at s at tags count) (λ (after : ℕ). recs_from k s after tags count)

unfoldable pub after_head : HeadRead → (ℕ → ℕ → NetRead) → NetRead
after_head (counts tags count) rest = rest tags count
after_head (bad f) rest = refused f

-- "HEAD, then exactly count records"
unfoldable pub net_of : List ℕ → NetRead
net_of s = after_head (head_of s) (λ (tags count : ℕ). recs_from count s 4 tags count)

-- the number that a call answers for it
unfoldable pub code_of : NetRead → ℕ
code_of (net tags A) = 0
code_of (refused f) = number f

-- ---- the places of a file's records

-- what the places of a file's records are to who reads the records there
pub record Placed (s : List ℕ) (tags : ℕ) (offs : List ℕ) : Type 0 where
  pub reads : net_of s ≡ net tags (net_at s offs)
  pub follow : offs ≡ starts (length offs) s 4
  pub few_tags : tags ≤ 8
  pub some : 1 ≤ length offs
  pub few : length offs ≤ 64
  pub whole : (r : ℕ) → r < length offs → get_or offs r 0 + size (get_or s (get_or offs r 0) 0) ≤ length s
  pub inside : (r : ℕ) → r < length offs → Fits tags (length offs) (rec_at s (get_or offs r 0))
