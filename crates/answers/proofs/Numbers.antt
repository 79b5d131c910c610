-- The twenty-one answers are the numbers 0 to 20, each once and in document 01's order. Assumes nothing.
use Prim.Native.Nat.{ℕ, ◌<◌}
use mathlib.Core.Path.{◌≡◌, sym, ◌∙◌}
use mathlib.Core.List.{List}
use lib.ListN.{get_or}
use Rattle.ground.proofs.Tested.{table_at}
use Rattle.answers.specs.Answers.{answers}

pub numbered : (k : ℕ) → k < 21 → get_or answers k 0 ≡ k
numbered k h = table_at (λ (n : ℕ). n) 0 21 k h

-- a second result that meets the promise of `all` is equal
pub one_list : {v w : List ℕ} → v ≡ answers → w ≡ answers → v ≡ w
one_list e f = e ∙ sym f
