-- The bytes of a MASK. Assumes nothing.
use Prim.Native.Nat.{ℕ, zero, suc, ◌+◌, ◌-◌, ◌*◌, ◌/◌, ◌%◌, ◌^◌, ◌≤◌, ◌<◌}
use mathlib.Core.Path.{◌≡◌, refl, sym, ap, subst, ◌∙◌}
use mathlib.Core.Bool.{Bool, true, false}
use mathlib.Core.List.{List, [], ◌∷◌, ◌++◌}
use native.Mathlib.Omega.{arith}
use native.Mathlib.Numerals.{add-one}
use native.Mathlib.Nat.{add-zero, pow-succ', pow-le-pow_right, not-suc-le-zero, le_of_suc-le-suc}
use lib.ListN.{length, get_or}
use Rattle.std.specs.Int.{from_bool}
use Rattle.ground.specs.Bits.{flag, bit_of}
use Rattle.ground.specs.Lists.{Wrote}
use Rattle.ground.proofs.Bits.{bit_zero, bit_suc}
use Rattle.ground.proofs.Stores.{wrote_then}
use Rattle.net.specs.Rec.{bit}
use Rattle.pattern.specs.Sets.{octet, octets, mask_of}

flag_small : (t : Bool) → flag t ≤ 1
flag_small true = omega arith
flag_small false = omega arith

-- eight bits are a byte
bits_below : (f : ℕ → Bool) (k b : ℕ) → octet f k b < 2 ^ k
unfolding octet
bits_below f zero b = omega arith
bits_below f (suc k) b = let h = bits_below f k (b + 1) in let t = flag_small (f b) in let e = pow-succ' 2 k in omega arith

pub octet_byte : (f : ℕ → Bool) (k b : ℕ) → k ≤ 8 → octet f k b < 256
octet_byte f k b h = let l = bits_below f k b in let e : 2 ^ k ≤ 2 ^ 8 = pow-le-pow_right (omega arith) h in omega arith

-- there is room for one bit more
pub octet_half : (f : ℕ → Bool) (k b : ℕ) → k < 8 → octet f k b < 128
octet_half f k b h = let l = bits_below f k b in let g : k ≤ 7 = omega arith in let e : 2 ^ k ≤ 2 ^ 7 = pow-le-pow_right (omega arith) g in omega arith

pub bit_small : (t : Bool) → from_bool t ≤ 1
bit_small true = omega arith
bit_small false = omega arith

-- one bit more, below the others
pub octet_more : (f : ℕ → Bool) (j b bits x : ℕ) (t : Bool) → 0 < j → j ≤ 8 → x ≡ from_bool t → t ≡ f (b + (j - 1)) → bits ≡ octet f (8 - j) (b + j) → 2 * bits + x ≡ octet f (8 - (j - 1)) (b + (j - 1))
unfolding octet
octet_more f j b bits x t p h e g q =
    let k : 8 - (j - 1) ≡ suc (8 - j) = omega arith in
    let n : b + j ≡ b + (j - 1) + 1 = omega arith in
    flagged t e
    ∙ ap (λ y. flag y + 2 * bits) g
    ∙ ap (λ y. flag (f (b + (j - 1))) + 2 * y) (q ∙ ap (octet f (8 - j)) n)
    ∙ sym (ap (λ y. octet f y (b + (j - 1))) k)
  where
    flagged : (t : Bool) → x ≡ from_bool t → 2 * bits + x ≡ flag t + 2 * bits
    flagged true e = omega arith
    flagged false e = omega arith

-- one byte more, after the others
pub octets_more : (f : ℕ → Bool) (k b : ℕ) → octets f (suc k) b ≡ octets f k b ++ octet f 8 (b + 8 * k) ∷ []
unfolding octets
octets_more f zero b = ap (λ x. octet f 8 x ∷ []) (sym (add-zero b))
octets_more f (suc k) b =
    let e : b + 8 + 8 * k ≡ b + 8 * suc k = omega arith in
    ap (λ l. octet f 8 b ∷ l) (octets_more f k (b + 8) ∙ ap (λ x. octets f k (b + 8) ++ octet f 8 x ∷ []) e)

pub octets_next : (f : ℕ → Bool) (k : ℕ) → octets f (k + 1) 0 ≡ octets f k 0 ++ octet f 8 (8 * k) ∷ []
octets_next f k = ap (λ x. octets f x 0) (add-one k) ∙ octets_more f k 0 ∙ ap (λ x. octets f k 0 ++ octet f 8 x ∷ []) (zero_plus (8 * k))
  where
    zero_plus : (n : ℕ) → 0 + n ≡ n
    zero_plus n = omega arith

pub octets_long : (f : ℕ → Bool) (k b : ℕ) → length (octets f k b) ≡ k
unfolding octets
octets_long f zero b = refl
octets_long f (suc k) b = ap suc (octets_long f k (b + 8))

-- after the kind, a byte of the body more
pub body_more : (f : ℕ → Bool) {l m m' : List ℕ} {o p p' : ℕ} (k x : ℕ) → Wrote l m o p (0x12 ∷ octets f k 0) → Wrote m m' p p' (x ∷ []) → x ≡ octet f 8 (8 * k) → Wrote l m' o p' (0x12 ∷ octets f (k + 1) 0)
body_more f {l} {m' = m'} {o} {p' = p'} k x w v e =
    subst (λ (ws : List ℕ). Wrote l m' o p' (0x12 ∷ ws)) (ap (λ y. octets f k 0 ++ y ∷ []) e ∙ sym (octets_next f k)) (wrote_then _ _ w v)

-- bit t of an octet, and byte j of a body
octet_bit : (f : ℕ → Bool) (k b t : ℕ) → t < k → bit_of (octet f k b) t ≡ flag (f (b + t))
unfolding octet
octet_bit f zero b t h = absurd (not-suc-le-zero h)
octet_bit f (suc k) b zero h = bit_zero (flag (f b) + 2 * octet f k (b + 1)) ∙ low (f b) ∙ ap (λ x. flag (f x)) (sym (add-zero b))
  where
    low : (t : Bool) → (flag t + 2 * octet f k (b + 1)) % 2 ≡ flag t
    low true = omega arith
    low false = omega arith
octet_bit f (suc k) b (suc t) h =
    let e : b + 1 + t ≡ b + suc t = omega arith in
    bit_suc (flag (f b) + 2 * octet f k (b + 1)) t ∙ ap (λ x. bit_of x t) (high (f b)) ∙ octet_bit f k (b + 1) t (le_of_suc-le-suc h) ∙ ap (λ x. flag (f x)) e
  where
    high : (t : Bool) → (flag t + 2 * octet f k (b + 1)) / 2 ≡ octet f k (b + 1)
    high true = omega arith
    high false = omega arith

octets_at : (f : ℕ → Bool) (k b j : ℕ) → j < k → get_or (octets f k b) j 0 ≡ octet f 8 (b + 8 * j)
unfolding octets
octets_at f zero b j h = absurd (not-suc-le-zero h)
octets_at f (suc k) b zero h = ap (octet f 8) (sym (add-zero b))
octets_at f (suc k) b (suc j) h =
    let e : b + 8 + 8 * j ≡ b + 8 * suc j = omega arith in
    octets_at f k (b + 8) j (le_of_suc-le-suc h) ∙ ap (octet f 8) e

-- "byte b is allowed when bit b mod 8 (0 lowest) of body byte b div 8 is set": the MASK of a test allows the bytes that pass it
pub mask_bit : (f : ℕ → Bool) (b : ℕ) → b < 256 → bit (mask_of f) b ≡ flag (f b)
unfolding mask_of
mask_bit f b h =
    let q : b / 8 < 32 = omega arith in
    let r : b % 8 < 8 = omega arith in
    let e : 0 + 8 * (b / 8) + b % 8 ≡ b = omega arith in
    ap (λ x. bit_of x (b % 8)) (octets_at f 32 0 (b / 8) q) ∙ octet_bit f 8 (0 + 8 * (b / 8)) (b % 8) r ∙ ap (λ x. flag (f x)) e
