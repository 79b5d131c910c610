-- Laws of counts, and of the bits that are set as a count. Assumes nothing.
use mathlib.Core.Path.{◌≡◌, refl, sym, ap, ap₂, ◌∙◌}
use mathlib.Core.Bool.{Bool, true, false}
use Prim.Native.Nat.{ℕ, zero, suc, ◌+◌, ◌/◌, ◌^◌, ◌<◌}
use native.Mathlib.Omega.{arith}
use native.Mathlib.Nat.{add-zero, zero-add, add_assoc, add-suc}
use native.Mathlib.Numerals.{one-add, add-one}
use lib.Arith.{lt-one}
use lib.Count.{ones, ones_step}
use lib.Dec.{eqb}
use lib.Pow.{shr_lt}
use Rattle.ground.specs.Bits.{bit_of, flag}
use Rattle.ground.specs.Count.{count_below}
use Rattle.ground.proofs.Bits.{flag_bit, bit_zero, bit_suc}

pub count_ext : (n : ℕ) (p q : ℕ → Bool) → ((j : ℕ) → j < n → p j ≡ q j) → count_below n p ≡ count_below n q
unfolding count_below
count_ext zero p q h = refl
count_ext (suc n) p q h = ap₂ (λ (x : ℕ) (b : Bool). x + flag b) (count_ext n p q (λ j l. h j (omega arith))) (h n (omega arith))

pub count_split : (a b : ℕ) (p : ℕ → Bool) → count_below (a + b) p ≡ count_below a p + count_below b (λ j. p (a + j))
unfolding count_below
count_split a zero p = ap (λ (x : ℕ). count_below x p) (add-zero a) ∙ sym (add-zero _)
count_split a (suc b) p =
    ap (λ (x : ℕ). count_below x p) (add-suc a b)
    ∙ ap (λ (x : ℕ). x + flag (p (a + b))) (count_split a b p)
    ∙ add_assoc (count_below a p) (count_below b (λ j. p (a + j))) (flag (p (a + b)))

pub count_none : (n : ℕ) (p : ℕ → Bool) → ((j : ℕ) → j < n → p j ≡ false) → count_below n p ≡ 0
unfolding count_below
count_none zero p h = refl
count_none (suc n) p h = ap₂ (λ (x : ℕ) (b : Bool). x + flag b) (count_none n p (λ j l. h j (omega arith))) (h n (omega arith))

pub count_all : (n : ℕ) (p : ℕ → Bool) → ((j : ℕ) → j < n → p j ≡ true) → count_below n p ≡ n
unfolding count_below
count_all zero p h = refl
count_all (suc n) p h =
    ap₂ (λ (x : ℕ) (b : Bool). x + flag b) (count_all n p (λ j l. h j (omega arith))) (h n (omega arith)) ∙ add-one n

pub count_front : (k : ℕ) (p : ℕ → Bool) → count_below (suc k) p ≡ flag (p 0) + count_below k (λ j. p (1 + j))
unfolding count_below
count_front k p =
    ap (λ (x : ℕ). count_below x p) (sym (one-add k)) ∙ count_split 1 k p
    ∙ ap (λ (x : ℕ). x + count_below k (λ j. p (1 + j))) (zero-add (flag (p 0)))

-- the language's count of ones is the number of bits that are set
pub ones_count : (k n : ℕ) → n < 2 ^ k → ones n ≡ count_below k (λ j. eqb (bit_of n j) 1)
unfolding ones count_below
ones_count zero n l = ap ones (lt-one l)
ones_count (suc k) n l =
    ones_step n
    ∙ ap₂ ◌+◌ (sym (flag_bit n 0 ∙ bit_zero n))
    (ones_count k (n / 2) (shr_lt k 1 (rw add-one l))
    ∙ count_ext k (λ j. eqb (bit_of (n / 2) j) 1) (λ j. eqb (bit_of n (1 + j)) 1)
    (λ j _. ap (λ (x : ℕ). eqb x 1) (sym (ap (bit_of n) (one-add j) ∙ bit_suc n j))))
    ∙ sym (count_front k (λ j. eqb (bit_of n j) 1))
