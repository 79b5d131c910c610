-- The record at a place by its kind, and what the item at a place is. Assumes nothing.
use mathlib.Core.Path.{◌≡◌, refl}
use mathlib.Core.List.{List}
use Prim.Native.Nat.{ℕ, ◌+◌}
use lib.ListN.{get_or, take, drop}
use Rattle.answers.specs.Refusals as refusals
use Rattle.net.specs.Rec.{Rec, range, mask, fork, tag, end}
use Rattle.net.specs.Items.{rec_at, NetFault, net_kind, net_short, net_field, net_extra, number, in_range}
use Rattle.net.specs.Calls as calls
use Rattle.net.specs.Calls.{refusal, size_shown, item_shown, shown}

module _ (s : List ℕ) (at : ℕ) where
  pub at_range : get_or s at 0 ≡ 17 → rec_at s at ≡ range (get_or s (at + 1) 0) (get_or s (at + 2) 0) (get_or s (at + 3) 0)
  unfolding rec_at
  at_range e = rw e

  pub at_mask : get_or s at 0 ≡ 18 → rec_at s at ≡ mask (take 32 (drop (at + 1) s)) (get_or s (at + 33) 0)
  unfolding rec_at
  at_mask e = rw e

  pub at_fork : get_or s at 0 ≡ 19 → rec_at s at ≡ fork (get_or s (at + 1) 0) (get_or s (at + 2) 0)
  unfolding rec_at
  at_fork e = rw e

  pub at_tag : get_or s at 0 ≡ 20 → rec_at s at ≡ tag (get_or s (at + 1) 0) (get_or s (at + 2) 0)
  unfolding rec_at
  at_tag e = rw e

  pub at_end : get_or s at 0 ≡ 21 → rec_at s at ≡ end (get_or s (at + 1) 0)
  unfolding rec_at
  at_end e = rw e

-- ---- the item, as the reader hands it on

pub refusal_number : (f : NetFault) → refusals.code_of (refusal f) ≡ number f
unfolding number
refusal_number net_kind = refl
refusal_number net_short = refl
refusal_number net_field = refl
refusal_number net_extra = refl

pub shown_range : (at tags count : ℕ) (x : Rec) → calls.in_range tags count (item_shown at x) ≡ in_range tags count x
unfolding item_shown
shown_range at tags count (range lo hi n) = refl
shown_range at tags count (mask bits n) = refl
shown_range at tags count (fork a b) = refl
shown_range at tags count (tag t n) = refl
shown_range at tags count (end a) = refl
