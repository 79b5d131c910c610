-- The byte count of a record, from the file to the count. Assumes nothing.
use mathlib.Core.Path.{◌≡◌, refl, sym, ap, ◌∙◌}
use mathlib.Core.List.{List}
use Prim.Native.Nat.{ℕ, ◌+◌, ◌≤◌, ◌<◌}
use native.Mathlib.Omega.{arith}
use lib.ListN.{length, get_or, take, drop}
use lib.Seq.{get_or-take}
use borrow.Author.Tests.{lt-ltb, le-ltb}
use Rattle.answers.specs.Refusals as refusals
use Rattle.answers.specs.declared.Refusal.{Refusal}
use Rattle.ground.specs.Pick.{pick}
use Rattle.net.specs.Rec.{Net, rec}
use Rattle.net.specs.File.{Fits}
use Rattle.net.specs.Items.{rec_at, size, NetRead, net, refused, net_of, code_of}
use Rattle.net.specs.Calls.{item_shown, Laid}
use Rattle.net.specs.Count.{count_below, between, bit_set, Count, refuse, not_bytes, rec_count, count_in, byte_count}
use Rattle.net.specs.declared.Item.{Item}
use Rattle.net.specs.declared.Item.TheVariants.{Range, Mask, Fork, Tag, End}
use Rattle.net.specs.declared.Layout.{Layout}
use Rattle.answers.proofs.Refusals.{code_above_ok}
use Rattle.net.proofs.Whole.{Kind, is_range, is_mask, is_fork, is_tag, is_end}
use Rattle.net.proofs.Inside.{net_length, rec_net, stands}
use Rattle.net.proofs.Reading.{at_range, at_mask, at_fork, at_tag, at_end}

pub count_refused : (s : List ℕ) (e : Refusal) → refusals.code_of e ≡ code_of (net_of s) → (index : ℕ) → refuse (refusals.code_of e) ≡ byte_count s index
unfolding byte_count code_of count_in
count_refused s e h index = by (net_of s) h
  where
    by : (n : NetRead) → refusals.code_of e ≡ code_of n → refuse (refusals.code_of e) ≡ count_in n index
    by (net tags A) h = absurd (omega (arith, code_above_ok e))
    by (refused f) h = ap refuse h

module _ (s : List ℕ) (index tags : ℕ) (A : Net) (e : net_of s ≡ net tags A) where
  count_absent : length A ≤ index → not_bytes ≡ byte_count s index
  unfolding byte_count count_in pick
  count_absent h = rw (e, le-ltb _ _ h)

  count_there : index < length A → rec_count (rec A index) ≡ byte_count s index
  unfolding byte_count count_in pick
  count_there h = rw (e, lt-ltb _ _ h)

-- ---- the item that the reader hands on, and the record there

-- a RANGE has lo <= hi, and a MASK's bytes are in the file
abbrev pub Countable : List ℕ → Item → Type 0
Countable s (Range lo hi next) = lo ≤ hi
Countable s (Mask at next) = at + 32 ≤ length s
Countable s (Fork first second) = Unit {0}
Countable s (Tag t next) = Unit {0}
Countable s (End answer) = Unit {0}

-- its count, which is the record's
abbrev pub item_count : List ℕ → Item → Count
item_count s (Range lo hi next) = record { code = 0; count = count_below 256 (between lo hi) }
item_count s (Mask at next) = record { code = 0; count = count_below 256 (bit_set (take 32 (drop at s))) }
item_count s (Fork first second) = not_bytes
item_count s (Tag t next) = not_bytes
item_count s (End answer) = not_bytes

pub neither : (s : List ℕ) (x : Item) → ((lo hi n : ℕ) → x ≡ Range lo hi n → ⊥) → ((p n : ℕ) → x ≡ Mask p n → ⊥) → not_bytes ≡ item_count s x
neither s (Range lo hi n) r m = absurd (r lo hi n refl)
neither s (Mask p n) r m = absurd (m p n refl)
neither s (Fork a b) r m = refl
neither s (Tag t n) r m = refl
neither s (End a) r m = refl

module _ (s : List ℕ) (at : ℕ) where
  shown_count : Kind (get_or s at 0) → item_count s (item_shown at (rec_at s at)) ≡ rec_count (rec_at s at)
  unfolding item_shown rec_count
  shown_count (is_range k) = rw (at_range s at k)
  shown_count (is_mask k) = rw (at_mask s at k)
  shown_count (is_fork k) = rw (at_fork s at k)
  shown_count (is_tag k) = rw (at_tag s at k)
  shown_count (is_end k) = rw (at_end s at k)

  countable : (tags count : ℕ) → Kind (get_or s at 0) → at + size (get_or s at 0) ≤ length s → Fits tags count (rec_at s at) → Countable s (item_shown at (rec_at s at))
  unfolding item_shown
  countable tags count (is_range k) w f = rw (at_range s at k) (rw (at_range s at k) at f).0
  countable tags count (is_mask k) w f = let l : at + 34 ≤ length s = rw k at w in rw (at_mask s at k) (omega arith)
  countable tags count (is_fork k) w f = rw (at_fork s at k) tt
  countable tags count (is_tag k) w f = rw (at_tag s at k) tt
  countable tags count (is_end k) w f = rw (at_end s at k) tt

-- ---- the record of a number, as the call reads it again at its place

module _ {s : List ℕ} {p : Layout} (l : Laid s p) where
  pub layout_few : p.count ≤ 64
  layout_few = omega (arith, l.counted, l.placed.few)

  pub absent : (index : ℕ) → p.count ≤ index → not_bytes ≡ byte_count s index
  absent index h = count_absent s index p.tags _ l.placed.reads (rw (net_length s (take p.count p.at), l.counted) h)

  module _ (index : ℕ) (b : index < p.count) where
    within : index < length (take p.count p.at)
    within = rw l.counted b

    same : get_or (take p.count p.at) index 0 ≡ get_or p.at index 0
    same = get_or-take p.count p.at index 0 b

    pub here_whole : get_or p.at index 0 + size (get_or s (get_or p.at index 0) 0) ≤ length s
    here_whole = rw same at (l.placed.whole index within)

    here_kind : Kind (get_or s (get_or p.at index 0) 0)
    here_kind = rw same at (stands l.placed index within).kind

    here_fits : Fits p.tags p.count (rec_at s (get_or p.at index 0))
    here_fits = rw (same, l.counted) at (l.placed.inside index within)

    here_count : rec_count (rec_at s (get_or p.at index 0)) ≡ byte_count s index
    here_count =
        ap rec_count (ap (rec_at s) (sym same) ∙ sym (rec_net s (take p.count p.at) index within))
        ∙ count_there s index p.tags _ l.placed.reads (rw (net_length s (take p.count p.at), l.counted) b)

    module _ (x : Item) (e : x ≡ item_shown (get_or p.at index 0) (rec_at s (get_or p.at index 0))) where
      pub can_count : Countable s x
      can_count = rw e (countable s (get_or p.at index 0) p.tags p.count here_kind here_whole here_fits)

      pub counts_it : item_count s x ≡ byte_count s index
      counts_it = ap (item_count s) e ∙ shown_count s (get_or p.at index 0) here_kind ∙ here_count
