-- What is read has bytes, MASKs of 32 bytes and tags below 8. Assumes nothing.
use Prim.Native.Nat.{ℕ, zero, suc, ◌+◌, ◌<◌}
use mathlib.Core.Path.{◌≡◌, refl, sym, subst}
use mathlib.Core.Bool.{Bool, true, false, ◌&&◌}
use mathlib.Core.List.{List, []}
use native.Mathlib.Omega.{arith}
use lib.ListN.{length, get_or, drop}
use lib.Dec.{eqb, leb}
use borrow.Author.Tests.{eqb-false, leb-true}
use Rattle.ground.specs.Pick.{look}
use Rattle.ground.specs.Lists.{Bytes}
use Rattle.pattern.specs.Pat.{Pat}
use Rattle.pattern.specs.Pat.Pat.{Empty, Byte, Any, Set, Tag, Seq, Alt, Star, Plus, Opt}
use Rattle.pattern.specs.Sets.{Scanned, listing, wrong, scan, fresh, allows, octets, mask_of}
use Rattle.pattern.specs.Reader.{Res, ok, form, deep, Lvl, alts, seq, piece, atom, and_then, stops, barred, on_byte, set_read, set_from, set_at, on_set, on_dot, tagged, on_mark, escaped, on_esc, single, alt_tail, seq_tail, opt?, plus?, repeated, closed, grouped, atom_or, step, read_in, left, read}
use Rattle.pattern.proofs.Masks.{octet_byte, octets_long}
use Rattle.pattern.proofs.Laws.{same_default, in_text, false_in}

abbrev pub Sane : Pat → Type 0
Sane Empty = Unit {0}
Sane (Byte b) = b < 256
Sane Any = Unit {0}
Sane (Set s) = (length s ≡ 32) × Bytes s
Sane (Tag t) = t < 8
Sane (Seq p q) = Sane p × Sane q
Sane (Alt p q) = Sane p × Sane q
Sane (Star p) = Sane p
Sane (Plus p) = Sane p
Sane (Opt p) = Sane p

abbrev pub Sanely : Res → Type 0
Sanely (ok e p) = Sane p
Sanely (form q) = Unit {0}
Sanely (deep q) = Unit {0}

then_sane : (r : Res) (f : ℕ → Pat → Res) → Sanely r → ((e : ℕ) (p : Pat) → Sane p → Sanely (f e p)) → Sanely (and_then r f)
then_sane (ok e p) f h g = g e p h
then_sane (form q) f h g = tt
then_sane (deep q) f h g = tt

octets_bytes : (f : ℕ → Bool) (k b : ℕ) → Bytes (octets f k b)
unfolding octets
octets_bytes f zero b = tt
octets_bytes f (suc k) b = (octet_byte f 8 b (omega arith), octets_bytes f k (b + 8))

set_sane : (caret : Bool) (z : Scanned) → Sanely (set_read caret z)
unfolding mask_of
set_sane caret (listing e xs) = (octets_long (allows caret xs) 32 0, octets_bytes (allows caret xs) 32 0)
set_sane caret (wrong q) = tt

module _ (s : List ℕ) (bs : (i : ℕ) → get_or s i 0 < 256) where
  byte_at : (i : ℕ) → i < length s → look s i < 256
  byte_at i h = subst (λ (n : ℕ). n < 256) (same_default s 0 256 i h) (bs i)

  from_sane : (i : ℕ) (b : Bool) → Sanely (set_from b s i)
  from_sane i true = set_sane true (scan (drop (i + 2) s) (i + 2) fresh [])
  from_sane i false = set_sane false (scan (drop (i + 1) s) (i + 1) fresh [])

  set_at_sane : (i : ℕ) → Sanely (set_at s i)
  unfolding set_at
  set_at_sane i = from_sane i (eqb (look s (i + 1)) 94)

  byte_sane : (i : ℕ) (b : Bool) → barred (look s i) ≡ b → Sanely (on_byte b i (look s i))
  byte_sane i true e = tt
  byte_sane i false e = byte_at i (false_in s i barred refl e)

  bracket_sane : (i : ℕ) (b : Bool) → Sanely (on_set b s i (look s i))
  bracket_sane i true = set_at_sane i
  bracket_sane i false = byte_sane i _ refl

  dot_sane : (i : ℕ) (b : Bool) → Sanely (on_dot b s i (look s i))
  dot_sane i true = tt
  dot_sane i false = bracket_sane i (eqb (look s i) 91)

  tag_sane : (i t : ℕ) (a b : Bool) → leb 48 t ≡ a → leb t 55 ≡ b → Sanely (tagged (a && b) i t)
  tag_sane i t true true x y = let u = leb-true 48 t x in let v = leb-true t 55 y in omega arith
  tag_sane i t true false x y = tt
  tag_sane i t false b x y = tt

  mark_sane : (i : ℕ) (b : Bool) → Sanely (on_mark b s i (look s i))
  mark_sane i true = tag_sane i (look s (i + 1)) _ _ refl refl
  mark_sane i false = dot_sane i (eqb (look s i) 46)

  escaped_sane : (i : ℕ) (b : Bool) → eqb (look s (i + 1)) 256 ≡ b → Sanely (escaped b i (look s (i + 1)))
  escaped_sane i true e = tt
  escaped_sane i false e = byte_at (i + 1) (in_text s (i + 1) (eqb-false _ _ e))

  esc_sane : (i : ℕ) (b : Bool) → Sanely (on_esc b s i (look s i))
  esc_sane i true = escaped_sane i _ refl
  esc_sane i false = mark_sane i (eqb (look s i) 64)

  single_sane : (i : ℕ) → Sanely (single s i)
  unfolding single
  single_sane i = esc_sane i (eqb (look s i) 92)

  module _ (on : Lvl → ℕ → ℕ → Res) (ih : (l : Lvl) (d i : ℕ) → Sanely (on l d i)) where
    alt_sane : (d e : ℕ) (p : Pat) (b : Bool) → Sane p → Sanely (alt_tail b (on alts d) e p)
    alt_sane d e p true h = then_sane (on alts d (e + 1)) (λ e' q. ok e' (Alt p q)) (ih alts d (e + 1)) (λ e' q g. (h, g))
    alt_sane d e p false h = h

    seq_sane : (d i : ℕ) (b : Bool) → Sanely (seq_tail b (on piece d) (on seq d) i)
    seq_sane d i true = tt
    seq_sane d i false =
        then_sane (on piece d i) (λ e p. and_then (on seq d e) (λ e' q. ok e' (Seq p q))) (ih piece d i)
        (λ e p h. then_sane (on seq d e) (λ e' q. ok e' (Seq p q)) (ih seq d e) (λ e' q g. (h, g)))

    repeat_sane : (c e : ℕ) (p : Pat) (x y z : Bool) → eqb c 43 ≡ y → eqb c 63 ≡ z → Sane p → Sanely (repeated x c e p)
    repeat_sane c e p true y z g k h = h
    repeat_sane c e p false true z g k h = subst (λ (t : Bool). Sanely (plus? t c e p)) (sym g) h
    repeat_sane c e p false false true g k h = subst (λ (t : Bool). Sanely (plus? t c e p)) (sym g) (subst (λ (t : Bool). Sanely (opt? t e p)) (sym k) h)
    repeat_sane c e p false false false g k h = subst (λ (t : Bool). Sanely (plus? t c e p)) (sym g) (subst (λ (t : Bool). Sanely (opt? t e p)) (sym k) h)

    closed_sane : (e : ℕ) (p : Pat) (b : Bool) → Sane p → Sanely (closed b e p)
    closed_sane e p true h = h
    closed_sane e p false h = tt

    group_sane : (d i : ℕ) (b : Bool) → Sanely (grouped b (on alts) s d i)
    group_sane d i true = tt
    group_sane d i false = then_sane (on alts (d + 1) (i + 1)) (λ e p. closed (eqb (look s e) 41) e p) (ih alts (d + 1) (i + 1)) (λ e p h. closed_sane e p (eqb (look s e) 41) h)

    atom_sane : (d i : ℕ) (b : Bool) → Sanely (atom_or b (on alts) s d i)
    atom_sane d i true = group_sane d i (eqb d 16)
    atom_sane d i false = single_sane i

    step_sane : (l : Lvl) (d i : ℕ) → Sanely (step on s l d i)
    step_sane alts d i = then_sane (on seq d i) (λ e p. alt_tail (eqb (look s e) 124) (on alts d) e p) (ih seq d i) (λ e p h. alt_sane d e p (eqb (look s e) 124) h)
    step_sane seq d i = seq_sane d i (stops (look s i))
    step_sane piece d i = then_sane (on atom d i) (λ e p. repeated (eqb (look s e) 42) (look s e) e p) (ih atom d i) (λ e p h. repeat_sane (look s e) e p (eqb (look s e) 42) _ _ refl refl h)
    step_sane atom d i = atom_sane d i (eqb (look s i) 40)

  within_sane : (k : ℕ) (l : Lvl) (d i : ℕ) → Sanely (read_in k s l d i)
  unfolding read_in
  within_sane zero l d i = tt
  within_sane (suc k) l d i = step_sane (read_in k s) (within_sane k) l d i

  read_sanely : (l : Lvl) (d i : ℕ) → Sanely (read s l d i)
  unfolding read
  read_sanely l d i = within_sane (suc (left s l i)) l d i

  pub read_sane : (l : Lvl) (d i e : ℕ) (p : Pat) → read s l d i ≡ ok e p → Sane p
  read_sane l d i e p h = subst Sanely h (read_sanely l d i)
