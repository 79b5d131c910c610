-- What is written of a set: its one record. Assumes nothing.
use Prim.Native.Nat.{ℕ, zero, suc, ◌+◌, ◌*◌, ◌≤◌, ◌<◌}
use mathlib.Core.Path.{◌≡◌, refl, sym, ap, ◌∙◌}
use mathlib.Core.Bool.{Bool}
use mathlib.Core.List.{List, [], ◌∷◌}
use native.Mathlib.Omega.{arith}
use lib.ListN.{length, replicate, length-append, length-replicate, get_or-replicate}
use lib.Dec.{eqb}
use Rattle.ground.specs.Bits.{flag}
use Rattle.ground.proofs.Bits.{flag_test}
use Rattle.ground.specs.Pick.{look}
use Rattle.net.specs.Rec.{mask}
use Rattle.net.specs.File.{rec_bytes}
use Rattle.pattern.specs.Pat.{Pat}
use Rattle.pattern.specs.Sets as sets
use Rattle.pattern.specs.Sets.{Item, listed, flipped, allows, octet, octets, mask_of}
use Rattle.pattern.specs.Reader.{ok, set_read, set_at}
use Rattle.pattern.specs.Standing.{Marks, Listed, boxed}
use Rattle.pattern.specs.Writing.{shown}
use Rattle.pattern.specs.Atoms.{Boxed, bits_of}
use Rattle.pattern.proofs.Masks.{octets_long}
use Rattle.pattern.proofs.Steps.{set_boxed}

-- the same test of the 256 bytes has the same MASK
module _ (f g : ℕ → Bool) (h : (b : ℕ) → b < 256 → f b ≡ g b) where
  octet_same : (k b : ℕ) → b + k ≤ 256 → octet f k b ≡ octet g k b
  unfolding octet
  octet_same zero b l = refl
  octet_same (suc k) b l = ap (λ x. flag x + 2 * octet f k (b + 1)) (h b (omega arith)) ∙ ap (λ x. flag (g b) + 2 * x) (octet_same k (b + 1) (omega arith))

  octets_same : (k b : ℕ) → b + 8 * k ≤ 256 → octets f k b ≡ octets g k b
  unfolding octets
  octets_same zero b l = refl
  octets_same (suc k) b l = ap (λ x. x ∷ octets f k (b + 8)) (octet_same 8 b (omega arith)) ∙ ap (λ l. octet g 8 b ∷ l) (octets_same k (b + 8) (omega arith))

-- marks show what a set allows
marks_show : (caret : Bool) (m : List ℕ) (xs : List Item) → Marks m xs → (b : ℕ) → b < 256 → allows caret xs b ≡ shown caret m b
unfolding allows
marks_show caret m xs h b l = ap (flipped caret) (sym (ap (λ v. eqb v 1) (h.right b l) ∙ flag_test (listed b xs)))

read_mask : (caret : Bool) (z : sets.Scanned) (m : List ℕ) (e : ℕ) (p : Pat) → set_read caret z ≡ ok e p → Listed m z → bits_of (set_read caret z) ≡ octets (shown caret m) 32 0
unfolding mask_of Listed
read_mask caret (sets.listing e' xs) m e p q h = octets_same (allows caret xs) (shown caret m) (marks_show caret m xs h) 32 0 (omega arith)
read_mask caret (sets.wrong q') m e p q h = cc

-- a set that was read, and its marks
pub set_mask : (s : List ℕ) (i : ℕ) (m : List ℕ) (caret : Bool) → eqb (look s (i + 1)) 94 ≡ caret → Boxed s i → Listed m (boxed s i) → bits_of (set_at s i) ≡ octets (shown caret m) 32 0
set_mask s i m caret c b h =
    let e = set_boxed s i in
    ap bits_of e ∙ read_mask (eqb (look s (i + 1)) 94) (boxed s i) m b.end _ (sym e ∙ b.is) h ∙ ap (λ t. octets (shown t m) 32 0) c

-- no byte is marked at first
pub marks_none : Marks (replicate 256 0) []
marks_none = record { long = length-replicate {A = ℕ} 256 0; right = λ b l. get_or-replicate {A = ℕ} 256 b 0 0 l }

-- its record is 34 bytes
pub mask_long : (f : ℕ → Bool) (next : ℕ) → length (rec_bytes (mask (octets f 32 0) next)) ≡ 34
mask_long f next = let a = length-append (octets f 32 0) (next ∷ []) in let b = octets_long f 32 0 in omega arith
