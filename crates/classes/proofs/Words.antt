-- Laws of the class words. Assumes nothing.
use mathlib.Core.Path.{◌≡◌, refl, sym, ap, ◌∙◌}
use mathlib.Core.Bool.{Bool, false, ◌||◌}
use mathlib.Core.List.{[], map}
use Prim.Native.Nat.{ℕ, ◌/◌, ◌%◌, ◌^◌, ◌<◌, ◌≤◌}
use lib.Dec.{eqb, ltb, eqb→eq}
use lib.ListN.{get_or-map, get_or-eq_default}
use borrow.Author.Tests.{le-ltb}
use Rattle.ground.specs.Bits.{bit_of, flag}
use Rattle.ground.proofs.Bits.{bit_number, flag_test}
use Rattle.ground.proofs.Tested.{tested_below}
use Rattle.classes.specs.Class.{in_some, classes, class_word, in_class}

-- bit k of a byte's word is its membership in class k
pub bit_class : (k b : ℕ) → bit_of (class_word b) k ≡ flag (in_class k b)
unfolding class_word in_class
bit_class k b = bit_number (map (in_some b) classes) k ∙ ap flag (get_or-map (in_some b) classes k [])

pub class_test : (k b : ℕ) → eqb (class_word b / 2 ^ k % 2) 1 ≡ in_class k b
class_test k b = ap (λ (x : ℕ). eqb x 1) (bit_class k b) ∙ flag_test (in_class k b)

-- there are twelve classes
pub no_class : (k b : ℕ) → 12 ≤ k → in_class k b ≡ false
unfolding in_class
no_class k b h = ap (in_some b) (get_or-eq_default classes [] h)

-- "byte 55 has 2225, byte 32 has 644, bytes from 128 have 0"
pub word_55 : class_word 55 ≡ 2225
unfolding class_word
word_55 = refl

pub word_32 : class_word 32 ≡ 644
unfolding class_word
word_32 = refl

high : ℕ → Bool
high b = ltb b 128 || eqb (class_word b) 0

pub word_high : (b : ℕ) → 128 ≤ b → b < 256 → class_word b ≡ 0
unfolding high class_word
word_high b l h = eqb→eq _ _ (rw (le-ltb _ _ l) at (tested_below high 256 tt b h))

-- a second result that meets the promise of `class_word`, or of `in_class`, is equal
pub one_word : (b : ℕ) {v w : ℕ} → v ≡ class_word b → w ≡ class_word b → v ≡ w
one_word b e f = e ∙ sym f

pub one_test : (k b : ℕ) {v w : Bool} → v ≡ in_class k b → w ≡ in_class k b → v ≡ w
one_test k b e f = e ∙ sym f
