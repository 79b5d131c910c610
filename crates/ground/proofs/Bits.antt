-- Laws of bits. Assumes nothing.
use mathlib.Core.Path.{◌≡◌, refl, sym, ap, ◌∙◌}
use mathlib.Core.Bool.{Bool, true, false}
use mathlib.Core.List.{List, [], ◌∷◌}
use mathlib.Core.Logic.{◌⊎◌, inl, inr}
use Prim.Native.Nat.{ℕ, zero, suc, ◌+◌, ◌*◌, ◌/◌, ◌%◌, ◌^◌, ◌<◌, max}
use native.Mathlib.Omega.{arith}
use native.Mathlib.Nat.{div-one, zero-div, mod-lt}
use native.Mathlib.Numerals.{one-add}
use lib.Dec.{eqb, lit<}
use lib.Bits.{bit_or, bit_xor, differ, or_zero_l, or_shr, xor_shr, or_mod, xor_mod}
use lib.Pow.{shr-shr}
use lib.ListN.{get_or}
use Rattle.ground.specs.Bits.{bit_of, flag, number_of}

-- ---- one bit

pub bit_lt : (n k : ℕ) → bit_of n k < 2
bit_lt n k = mod-lt (n / 2 ^ k) (lit< tt)

two : (x : ℕ) → x < 2 → (x ≡ 0) ⊎ (x ≡ 1)
two zero l = inl refl
two (suc zero) l = inr refl
two (suc (suc x)) l = absurd (omega arith)

pub bit_two : (n k : ℕ) → (bit_of n k ≡ 0) ⊎ (bit_of n k ≡ 1)
bit_two n k = two (bit_of n k) (bit_lt n k)

-- a bit is the flag of its own test, and the test of a flag is the flag
pub flag_bit : (n k : ℕ) → flag (eqb (bit_of n k) 1) ≡ bit_of n k
flag_bit n k = go (bit_of n k) (bit_lt n k)
  where
    go : (x : ℕ) → x < 2 → flag (eqb x 1) ≡ x
    go zero l = refl
    go (suc zero) l = refl
    go (suc (suc x)) l = absurd (omega arith)

pub flag_test : (c : Bool) → eqb (flag c) 1 ≡ c
flag_test true = refl
flag_test false = refl

pub bit_zero : (n : ℕ) → bit_of n 0 ≡ n % 2
bit_zero n = ap (λ (x : ℕ). x % 2) (div-one n)

pub bit_suc : (n k : ℕ) → bit_of n (suc k) ≡ bit_of (n / 2) k
bit_suc n k = ap (λ (x : ℕ). x % 2) (ap (λ (m : ℕ). n / 2 ^ m) (sym (one-add k)) ∙ sym (shr-shr n 1 k))

-- ---- bits of the operations on words

or_two : (x y : ℕ) → x < 2 → y < 2 → bit_or x y ≡ max x y
or_two zero y _ _ = or_zero_l y ∙ omega arith
or_two (suc zero) zero _ _ = refl
or_two (suc zero) (suc zero) _ _ = refl
or_two (suc zero) (suc (suc y)) _ l = absurd (omega arith)
or_two (suc (suc x)) y l _ = absurd (omega arith)

xor_two : (x y : ℕ) → x < 2 → y < 2 → bit_xor x y ≡ differ x y
xor_two zero zero _ _ = refl
xor_two zero (suc zero) _ _ = refl
xor_two zero (suc (suc y)) _ l = absurd (omega arith)
xor_two (suc zero) zero _ _ = refl
xor_two (suc zero) (suc zero) _ _ = refl
xor_two (suc zero) (suc (suc y)) _ l = absurd (omega arith)
xor_two (suc (suc x)) y l _ = absurd (omega arith)

pub or_bit : (a b k : ℕ) → bit_of (bit_or a b) k ≡ max (bit_of a k) (bit_of b k)
or_bit a b k = ap (λ (x : ℕ). x % 2) (or_shr a b k) ∙ or_mod (a / 2 ^ k) (b / 2 ^ k) 1 ∙ or_two _ _ (bit_lt a k) (bit_lt b k)

pub xor_bit : (a b k : ℕ) → bit_of (bit_xor a b) k ≡ differ (bit_of a k) (bit_of b k)
xor_bit a b k = ap (λ (x : ℕ). x % 2) (xor_shr a b k) ∙ xor_mod (a / 2 ^ k) (b / 2 ^ k) 1 ∙ xor_two _ _ (bit_lt a k) (bit_lt b k)

-- ---- a number from its bits

half : (b : Bool) (n : ℕ) → (flag b + 2 * n) / 2 ≡ n
half true n = omega arith
half false n = omega arith

lowest : (b : Bool) (n : ℕ) → (flag b + 2 * n) % 2 ≡ flag b
lowest true n = omega arith
lowest false n = omega arith

-- bit k of the number is the k-th of the list
pub bit_number : (bs : List Bool) (k : ℕ) → bit_of (number_of bs) k ≡ flag (get_or bs k false)
bit_number [] k = ap (λ (x : ℕ). x % 2) (zero-div (2 ^ k))
bit_number (b ∷ bs) zero = bit_zero (number_of (b ∷ bs)) ∙ lowest b (number_of bs)
bit_number (b ∷ bs) (suc k) = bit_suc (number_of (b ∷ bs)) k ∙ ap (λ (x : ℕ). bit_of x k) (half b (number_of bs)) ∙ bit_number bs k
