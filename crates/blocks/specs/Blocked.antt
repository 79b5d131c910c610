-- A block carried out. Assumes nothing: these are definitions.
use Rattle.std.specs.Prelude.{◌≡◌, Bool, true, false, ℕ}
use Rattle.card.specs.Run.{Bank}
use Rattle.run.specs.Carry.{carry}
use Rattle.image.specs.Image.{block, misfit, of_bits}

-- the block that some bits name is carried out unless they name none
pub record Blocked (w place : ℕ) (old new : Bank) (r : Bool) : Type 0 where
  pub done : r ≡ true → (of_bits misfit w ≡ false) × (new ≡ carry (of_bits block w) place old old)
  pub past : r ≡ false → of_bits misfit w ≡ true
