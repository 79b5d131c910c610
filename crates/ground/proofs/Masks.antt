-- Sets of numbers below 64 as the bits of one. Assumes nothing.
use Prim.Native.Nat.{ℕ, zero, suc, ◌+◌, ◌-◌, ◌*◌, ◌/◌, ◌%◌, ◌^◌, ◌<◌, min, max}
use native.Mathlib.Omega.{arith}
use native.Mathlib.Nat.{zero-div, mod-lt, div-add-mod'}
use native.Mathlib.Numerals.{add-one}
use native.Mathlib.Decide.{ℕ_discrete}
use mathlib.Core.Path.{◌≡◌, refl, sym, ap, ap₂, ◌∙◌, subst}
use mathlib.Core.Logic.{◌⊎◌, inl, inr}
use lib.Dec.{lit<}
use lib.Arith.{lt-one}
use lib.Pow.{shr-shr, shr_lt, pow_pos}
use lib.Bits.{bit_or, bit_and, or_step, and_zero_l, and_shr, and_mod, and_lt}
use lib.Count.{ones, ones_step, ones_cat}
use Rattle.ground.specs.Bits.{bit_of}
use Rattle.ground.proofs.Bits.{bit_lt, bit_two, bit_suc, or_bit}

-- ---- single bits

pub zero_bit : (r : ℕ) → bit_of 0 r ≡ 0
zero_bit r = rw (zero-div)

pub not_both : (n r : ℕ) → bit_of n r ≡ 0 → bit_of n r ≡ 1 → ⊥
not_both n r e f = let z : ◌≡◌ {A = ℕ} 0 1 = sym e ∙ f in omega arith

bit_first : (n b : ℕ) → b < 2 → bit_of (n * 2 + b) 0 ≡ b
bit_first n b l = omega arith

bit_next : (n b r : ℕ) → b < 2 → bit_of (n * 2 + b) (suc r) ≡ bit_of n r
bit_next n b r l =
    ap (λ (e : ℕ). (n * 2 + b) / 2 ^ e % 2) (omega arith)
    ∙ ap (λ (m : ℕ). m % 2) (sym (shr-shr (n * 2 + b) 1 r) ∙ ap (λ (m : ℕ). m / 2 ^ r) (omega arith))

two : (k : ℕ) → 2 ^ suc k ≡ 2 ^ k * 2 + 0
two k = omega arith

pub bit_same : (t : ℕ) → bit_of (2 ^ t) t ≡ 1
bit_same zero = bit_first 0 1 (omega arith)
bit_same (suc t) = ap (λ (n : ℕ). bit_of n (suc t)) (two t) ∙ bit_next (2 ^ t) 0 t (omega arith) ∙ bit_same t

pub bit_other : (t r : ℕ) → (t ≡ r → ⊥) → bit_of (2 ^ t) r ≡ 0
bit_other zero zero d = absurd (d refl)
bit_other zero (suc r) d = bit_next 0 1 r (omega arith) ∙ zero_bit r
bit_other (suc t) zero d = ap (λ (n : ℕ). bit_of n 0) (two t) ∙ bit_first (2 ^ t) 0 (omega arith)
bit_other (suc t) (suc r) d =
    ap (λ (n : ℕ). bit_of n (suc r)) (two t) ∙ bit_next (2 ^ t) 0 r (omega arith) ∙ bit_other t r (λ e. d (ap suc e))

all_ones : (k : ℕ) → 2 ^ suc k - 1 ≡ (2 ^ k - 1) * 2 + 1
all_ones k = omega (arith, pow_pos k)

pub ones_in : (k r : ℕ) → r < k → bit_of (2 ^ k - 1) r ≡ 1
ones_in zero r l = absurd (omega arith)
ones_in (suc k) zero l = ap (λ (n : ℕ). bit_of n 0) (all_ones k) ∙ bit_first (2 ^ k - 1) 1 (omega arith)
ones_in (suc k) (suc r) l = ap (λ (n : ℕ). bit_of n (suc r)) (all_ones k) ∙ bit_next (2 ^ k - 1) 1 r (omega arith) ∙ ones_in k r (omega arith)

pub bit_in : (k n r : ℕ) → n < 2 ^ k → bit_of n r ≡ 1 → r < k
bit_in zero n r l b = let z : n ≡ 0 = omega arith in absurd (not_both 0 r (zero_bit r) (subst (λ (m : ℕ). bit_of m r ≡ 1) z b))
bit_in (suc k) n zero l b = omega arith
bit_in (suc k) n (suc r) l b = let i = bit_in k (n / 2) r (omega arith) (sym (bit_suc n r) ∙ b) in omega arith

-- a number that is not 0 has a bit
pub some_bit : (k n : ℕ) → n < 2 ^ k → (n ≡ 0 → ⊥) → (r : ℕ) × (bit_of n r ≡ 1)
some_bit zero n l d = absurd (d (omega arith))
some_bit (suc k) n l d = one (some_bit k (n / 2) (omega arith)) (bit_two n 0)
  where
    low : bit_of n 0 ≡ n % 2
    low = ap (λ (m : ℕ). bit_of m 0) (sym (div-add-mod' n 2)) ∙ bit_first (n / 2) (n % 2) (mod-lt n (lit< tt))

    one : ((n / 2 ≡ 0 → ⊥) → (r : ℕ) × (bit_of (n / 2) r ≡ 1)) → (bit_of n 0 ≡ 0) ⊎ (bit_of n 0 ≡ 1) → (r : ℕ) × (bit_of n r ≡ 1)
    one f (inr e) = (0, e)
    one f (inl e) =
        let i = f (λ z. d (omega (arith, low, e, z, div-add-mod' n 2))) in
        (suc i.0, bit_suc n i.0 ∙ i.1)

and2 : (x y : ℕ) → x < 2 → y < 2 → bit_and x y ≡ min x y
and2 zero y _ _ = and_zero_l y ∙ omega arith
and2 (suc zero) zero _ _ = refl
and2 (suc zero) (suc zero) _ _ = refl
and2 (suc zero) (suc (suc y)) _ l = absurd (omega arith)
and2 (suc (suc x)) y l _ = absurd (omega arith)

both : (a b r : ℕ) → bit_of (bit_and a b) r ≡ min (bit_of a r) (bit_of b r)
both a b r =
    ap (λ (x : ℕ). x % 2) (and_shr a b r) ∙ and_mod (a / 2 ^ r) (b / 2 ^ r) 1
    ∙ and2 _ _ (mod-lt (a / 2 ^ r) (lit< tt)) (mod-lt (b / 2 ^ r) (lit< tt))

-- ---- whose bit it was

pub or_none : (a b r : ℕ) → bit_of a r ≡ 0 → bit_of b r ≡ 0 → bit_of (bit_or a b) r ≡ 0
or_none a b r e f = or_bit a b r ∙ simp (e, f)

pub or_split : (a b r : ℕ) → bit_of (bit_or a b) r ≡ 0 → (bit_of a r ≡ 0) × (bit_of b r ≡ 0)
or_split a b r e = let m = sym (or_bit a b r) ∙ e in (omega arith, omega arith)

pub or_one : (a b r : ℕ) → bit_of (bit_or a b) r ≡ 1 → (bit_of a r ≡ 1) ⊎ (bit_of b r ≡ 1)
or_one a b r e = pick_one (bit_two a r) (bit_two b r)
  where
    pick_one : (bit_of a r ≡ 0) ⊎ (bit_of a r ≡ 1) → (bit_of b r ≡ 0) ⊎ (bit_of b r ≡ 1) → (bit_of a r ≡ 1) ⊎ (bit_of b r ≡ 1)
    pick_one (inr h) k = inl h
    pick_one (inl h) (inr k) = inr k
    pick_one (inl h) (inl k) = absurd (omega (arith, or_none a b r h k, e))

pub or_left : (a b r : ℕ) → bit_of a r ≡ 1 → bit_of (bit_or a b) r ≡ 1
or_left a b r e = omega (arith, or_bit a b r, bit_lt b r)

pub or_right : (a b r : ℕ) → bit_of b r ≡ 1 → bit_of (bit_or a b) r ≡ 1
or_right a b r e = omega (arith, or_bit a b r, bit_lt a r)

pub and_bit : (a b r : ℕ) → bit_of a r ≡ 1 → bit_of b r ≡ 1 → bit_of (bit_and a b) r ≡ 1
and_bit a b r e f = both a b r ∙ simp (e, f)

pub and_bits : (a b : ℕ) → a < 2 ^ 64 → b < 2 ^ 64 → (bit_and a b ≡ 0 → ⊥) → (r : ℕ) × ((bit_of a r ≡ 1) × (bit_of b r ≡ 1))
and_bits a b la lb n =
    let k = some_bit 64 (bit_and a b) (and_lt 64 a b la lb) n in
    let m : min (bit_of a k.0) (bit_of b k.0) ≡ 1 = sym (both a b k.0) ∙ k.1 in
    (k.0, (omega (arith, bit_lt a k.0), omega (arith, bit_lt b k.0)))

-- ---- how many

-- the count of twice a number and a bit
ones_bit : (n b : ℕ) → b < 2 → ones (n * 2 + b) ≡ ones n + b
unfolding ones
ones_bit n zero l = ones_cat 1 n zero l
ones_bit n (suc zero) l = ones_cat 1 n 1 l
ones_bit n (suc (suc b)) l = absurd (omega arith)

max_lt : (x y : ℕ) → x < 2 → y < 2 → max x y < 2
max_lt x y a b = omega arith

-- a set that an or makes another has more
pub or_grows : (k a b : ℕ) → a < 2 ^ k → b < 2 ^ k → (bit_or a b ≡ a → ⊥) → ones a < ones (bit_or a b)
or_grows zero a b la lb n = absurd (n (rw (lt-one la, lt-one lb)))
or_grows (suc k) a b la lb n =
    go (or_grows k (a / 2) (b / 2) (shr_lt k 1 (rw add-one la)) (shr_lt k 1 (rw add-one lb))) (ℕ_discrete (bit_or (a / 2) (b / 2)) (a / 2))
    (ℕ_discrete (max (a % 2) (b % 2)) (a % 2))
  where
    whole : ones (bit_or a b) ≡ ones (bit_or (a / 2) (b / 2)) + max (a % 2) (b % 2)
    whole =
        ap ones (or_step a b)
        ∙ ones_bit (bit_or (a / 2) (b / 2)) (max (a % 2) (b % 2)) (max_lt _ _ (mod-lt a (lit< tt)) (mod-lt b (lit< tt)))

    go : ((bit_or (a / 2) (b / 2) ≡ a / 2 → ⊥) → ones (a / 2) < ones (bit_or (a / 2) (b / 2)))
        → Dec (bit_or (a / 2) (b / 2) ≡ a / 2) → Dec (max (a % 2) (b % 2) ≡ a % 2) → ones a < ones (bit_or a b)
    go ih (no d) f = let h = ih d in omega (arith, whole, ones_step a)
    go ih (yes e) (yes f) = absurd (n (or_step a b ∙ ap₂ (λ (x y : ℕ). x * 2 + y) e f ∙ div-add-mod' a 2))
    go ih (yes e) (no f) = omega (arith, whole, ones_step a, ap ones e)
