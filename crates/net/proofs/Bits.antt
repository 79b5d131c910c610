-- A count of the numbers that pass a test, and of the bits that are set in bytes and words. Assumes nothing.
use Prim.Native.Nat.{ℕ, zero, suc, ◌+◌, ◌-◌, ◌*◌, ◌/◌, ◌%◌, ◌^◌, ◌<◌, ◌≤◌}
use native.Mathlib.Omega.{arith}
use native.Mathlib.Nat.{add-zero, zero-add, add_assoc, add-suc, mod-lt, div-one}
use native.Mathlib.Numerals.{one-add, add-one}
use mathlib.Core.Path.{◌≡◌, refl, sym, ap, ap₂, ◌∙◌}
use mathlib.Core.Bool.{Bool, true, false}
use mathlib.Core.List.{List}
use lib.ListN.{get_or, drop}
use lib.Seq.{get_or-drop}
use lib.Dec.{eqb, lit<}
use lib.Count.{ones, ones_step, ones_cat}
use lib.Pow.{shr-shr, shr_lt}
use lib.Arith.{lt-one}
use borrow.Author.Tests.{le-leb, lt-leb}
use Rattle.net.specs.Count.{one, count_below, between, bit_set}

-- ---- counts

count_ext : (n : ℕ) (p q : ℕ → Bool) → ((j : ℕ) → j < n → p j ≡ q j) → count_below n p ≡ count_below n q
unfolding count_below
count_ext zero p q h = refl
count_ext (suc n) p q h = ap₂ (λ (x : ℕ) (b : Bool). x + one b) (count_ext n p q (λ j l. h j (omega arith))) (h n (omega arith))

count_split : (a b : ℕ) (p : ℕ → Bool) → count_below (a + b) p ≡ count_below a p + count_below b (λ j. p (a + j))
unfolding count_below
count_split a zero p = ap (λ (x : ℕ). count_below x p) (add-zero a) ∙ sym (add-zero _)
count_split a (suc b) p =
    ap (λ (x : ℕ). count_below x p) (add-suc a b)
    ∙ ap (λ (x : ℕ). x + one (p (a + b))) (count_split a b p)
    ∙ add_assoc (count_below a p) (count_below b (λ j. p (a + j))) (one (p (a + b)))

count_none : (n : ℕ) (p : ℕ → Bool) → ((j : ℕ) → j < n → p j ≡ false) → count_below n p ≡ 0
unfolding count_below
count_none zero p h = refl
count_none (suc n) p h = ap₂ (λ (x : ℕ) (b : Bool). x + one b) (count_none n p (λ j l. h j (omega arith))) (h n (omega arith))

count_all : (n : ℕ) (p : ℕ → Bool) → ((j : ℕ) → j < n → p j ≡ true) → count_below n p ≡ n
unfolding count_below
count_all zero p h = refl
count_all (suc n) p h =
    ap₂ (λ (x : ℕ) (b : Bool). x + one b) (count_all n p (λ j l. h j (omega arith))) (h n (omega arith)) ∙ omega arith

-- ---- the bits of a number

one_bit : (x : ℕ) → x < 2 → one (eqb x 1) ≡ x
one_bit zero l = refl
one_bit (suc zero) l = refl
one_bit (suc (suc x)) l = omega arith

count_front : (k : ℕ) (p : ℕ → Bool) → count_below (suc k) p ≡ one (p 0) + count_below k (λ j. p (1 + j))
unfolding count_below
count_front k p =
    ap (λ (x : ℕ). count_below x p) (sym (one-add k)) ∙ count_split 1 k p
    ∙ ap (λ (x : ℕ). x + count_below k (λ j. p (1 + j))) (zero-add (one (p 0)))

ones_count : (k n : ℕ) → n < 2 ^ k → ones n ≡ count_below k (λ j. eqb (n / 2 ^ j % 2) 1)
unfolding ones count_below
ones_count zero n l = ap ones (lt-one l)
ones_count (suc k) n l =
    let half : n / 2 < 2 ^ k = shr_lt k 1 (rw add-one l) in
    ones_step n
    ∙ ap₂ ◌+◌ (sym (one_bit (n % 2) (mod-lt n (lit< tt))) ∙ ap (λ (x : ℕ). one (eqb (x % 2) 1)) (sym (div-one n)))
    (ones_count k (n / 2) half
    ∙ count_ext k (λ j. eqb (n / 2 / 2 ^ j % 2) 1) (λ j. eqb (n / 2 ^ (1 + j) % 2) 1) (λ j _. ap (λ (x : ℕ). eqb (x % 2) 1) (shr-shr n 1 j)))
    ∙ sym (count_front k (λ j. eqb (n / 2 ^ j % 2) 1))

-- ---- eight bytes as a word

-- the bits set in the first m bytes
ones_sum : ℕ → List ℕ → ℕ
ones_sum zero l = 0
ones_sum (suc m) l = ones_sum m l + ones (get_or l m 0)

module _ (l : List ℕ) (bytes : (i : ℕ) → get_or l i 0 < 256) where
  byte_bits : (m : ℕ) → count_below 8 (λ j. bit_set l (m * 8 + j)) ≡ ones (get_or l m 0)
  byte_bits m =
      count_ext 8 _ (λ j. eqb (get_or l m 0 / 2 ^ j % 2) 1) (λ j k.
      let q : (m * 8 + j) / 8 ≡ m = omega arith in
      let r : (m * 8 + j) % 8 ≡ j = omega arith in
      ap₂ (λ (x y : ℕ). eqb (get_or l x 0 / 2 ^ y % 2) 1) q r)
      ∙ sym (ones_count 8 (get_or l m 0) (bytes m))

  list_bits : (m : ℕ) → count_below (m * 8) (bit_set l) ≡ ones_sum m l
  unfolding count_below ones_sum
  list_bits zero = refl
  list_bits (suc m) =
      let e : suc m * 8 ≡ m * 8 + 8 = omega arith in
      ap (λ (x : ℕ). count_below x (bit_set l)) e
      ∙ count_split (m * 8) 8 (bit_set l)
      ∙ ap₂ ◌+◌ (list_bits m) (byte_bits m)

module _ (s : List ℕ) (bytes : (i : ℕ) → get_or s i 0 < 256) where
  cat : (x i : ℕ) → ones (x * 256 + get_or s i 0) ≡ ones x + ones (get_or s i 0)
  cat x i = ones_cat 8 x (get_or s i 0) (bytes i)

  pub word_ones : (at : ℕ) →
      ones (((((((get_or s at 0 * 256 + get_or s (at + 1) 0) * 256 + get_or s (at + 2) 0) * 256 + get_or s (at + 3) 0) * 256 + get_or s (at + 4) 0) * 256
      + get_or s (at + 5) 0) * 256 + get_or s (at + 6) 0) * 256 + get_or s (at + 7) 0) ≡ count_below 64 (bit_set (drop at s))
  unfolding ones_sum
  word_ones at =
      let e : ones_sum 8 (drop at s) ≡ count_below 64 (bit_set (drop at s)) = sym (list_bits (drop at s) (λ i. rw (get_or-drop at s i 0) (bytes (at + i))) 8) in
      rw (← e) (simp (cat, zero-add, add-zero, get_or-drop))

-- ---- four words of a mask

module _ (l : List ℕ) where
  part : (b : ℕ) → b % 8 ≡ 0 → count_below 64 (λ j. bit_set l (b + j)) ≡ count_below 64 (bit_set (drop (b / 8) l))
  part b z = count_ext 64 _ _ (λ j k.
      let q : (b + j) / 8 ≡ b / 8 + j / 8 = omega arith in
      let r : (b + j) % 8 ≡ j % 8 = omega arith in
      ap₂ (λ (x y : ℕ). eqb (get_or l x 0 / 2 ^ y % 2) 1) q r
      ∙ ap (λ (x : ℕ). eqb (x / 2 ^ (j % 8) % 2) 1) (sym (get_or-drop (b / 8) l (j / 8) 0)))

  pub mask_words :
      count_below 64 (bit_set (drop 0 l)) + count_below 64 (bit_set (drop 8 l)) + count_below 64 (bit_set (drop 16 l)) + count_below 64 (bit_set (drop 24 l))
      ≡ count_below 256 (bit_set l)
  mask_words =
      let p = bit_set l in
      let a : count_below 64 p ≡ count_below 64 (bit_set (drop 0 l)) = count_ext 64 p (λ j. p (0 + j)) (λ j _. ap p (sym (zero-add j))) ∙ part 0 refl in
      let b : count_below 128 p ≡ count_below 64 p + count_below 64 (λ j. p (64 + j)) = count_split 64 64 p in
      let c : count_below 192 p ≡ count_below 128 p + count_below 64 (λ j. p (128 + j)) = count_split 128 64 p in
      let d : count_below 256 p ≡ count_below 192 p + count_below 64 (λ j. p (192 + j)) = count_split 192 64 p in
      omega (arith, a, b, c, d, part 64 refl, part 128 refl, part 192 refl)

-- ---- a range

pub range_counts : (lo hi : ℕ) → lo ≤ hi → hi < 256 → hi - lo + 1 ≡ count_below 256 (between lo hi)
range_counts lo hi l h =
    let p = between lo hi in
    let e : 256 ≡ lo + (hi - lo + 1 + (255 - hi)) = omega arith in
    sym (ap (λ (x : ℕ). count_below x p) e
    ∙ count_split lo (hi - lo + 1 + (255 - hi)) p
    ∙ ap₂ ◌+◌
    (count_none lo p (λ j k. simp (lt-leb _ _ k)))
    (count_split (hi - lo + 1) (255 - hi) (λ j. p (lo + j))
    ∙ ap₂ ◌+◌
    (count_all (hi - lo + 1) (λ j. p (lo + j)) (λ j k.
    let u : lo ≤ lo + j = omega arith in
    let v : lo + j ≤ hi = omega arith in
    simp (le-leb _ _ u, le-leb _ _ v)))
    (count_none (255 - hi) (λ j. p (lo + (hi - lo + 1 + j))) (λ j k.
    let u : lo ≤ lo + (hi - lo + 1 + j) = omega arith in
    let v : hi < lo + (hi - lo + 1 + j) = omega arith in
    simp (le-leb _ _ u, lt-leb _ _ v))))
    ∙ omega arith)
