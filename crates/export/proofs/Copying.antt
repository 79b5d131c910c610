-- A part that was copied, or had no room. Assumes nothing.
use mathlib.Core.Path.{◌≡◌, sym, ◌∙◌}
use mathlib.Core.List.{List, ◌++◌}
use Prim.Native.Nat.{ℕ, ◌≤◌, ◌<◌}
use lib.ListN.{length, take, drop}
use lib.Seq.{take-length}
use borrow.Author.Tests.{le-leb, lt-leb}
use Rattle.ground.specs.Pick.{pick}
use Rattle.export.specs.Copied.{copied, Copies}

pub copied_in : (part before after : List ℕ) (r n : ℕ) → length part ≤ length before → r ≡ n → length part ≡ n → after ≡ take n part ++ drop n before
    → Copies part before after r
unfolding copied pick
copied_in part before after r n room e l h =
    record {
      told = e ∙ sym l;
      held = h ∙ simp (← l, take-length, le-leb _ _ room);
    }

pub no_room : (part before : List ℕ) (r : ℕ) → length before < length part → r ≡ length part → Copies part before before r
unfolding copied pick
no_room part before r small e = record { told = e; held = simp (lt-leb _ _ small) }
