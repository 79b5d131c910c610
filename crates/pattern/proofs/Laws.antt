-- Laws of reading. Assumes nothing.
use Prim.Native.Nat.{ℕ, zero, suc, ◌+◌, ◌-◌, ◌≤◌, ◌<◌}
use mathlib.Core.Path.{◌≡◌, refl, sym, ap, subst, ◌∙◌}
use mathlib.Core.List.{List, [], ◌∷◌}
use mathlib.Core.Bool.{Bool, true, false}
use native.Mathlib.Omega.{arith}
use native.Mathlib.Nat.{not-suc-le-zero}
use lib.ListN.{length, get_or, drop, length-drop}
use lib.Dec.{eqb}
use borrow.Author.Tests.{eqb-true, eqb-false, eq-eqb, ne_eqb, le-leb}
use Rattle.ground.specs.Pick.{look}
use Rattle.ground.proofs.Tests.{true_false}
use Rattle.ground.proofs.Picks.{same_inside, in_list, test_in}
use Rattle.pattern.specs.Pat.{Pat, size}
use Rattle.pattern.specs.Pat.Pat.{Empty, Byte, Any, Tag, Seq, Alt}
use Rattle.pattern.specs.Sets.{Item, Step, fresh, ready, held, quote, dash, dash_quote, name, shut, bad, set_on, Scanned, listing, wrong, onward, scan}
use Rattle.pattern.specs.Reader.{Res, ok, form, deep, Lvl, alts, seq, piece, atom, and_then, stops, barred, on_byte, set_read, set_from, set_at, on_set, on_dot, tagged, is_tag, on_mark, escaped, on_esc, single, alt_tail, seq_tail, opt?, plus?, repeated, closed, grouped, atom_or, step, read_in, left, read}

-- the byte at a place, whatever stands for the end
pub same_default : (s : List ℕ) (a b i : ℕ) → i < length s → get_or s i a ≡ get_or s i b
same_default s a b i h = same_inside s i a b h

-- a byte stands within the text
pub in_text : (s : List ℕ) (i : ℕ) → (look s i ≡ 256 → ⊥) → i < length s
in_text s i h = in_list s i h

-- What a reading at i gives: it goes on, stays in the text, and has a record for each byte at most.
abbrev pub adv : Lvl → ℕ
adv alts = 0
adv seq = 0
adv piece = 1
adv atom = 1

pub record Went (s : List ℕ) (l : Lvl) (i e : ℕ) (p : Pat) : Type 0 where
  pub on : i + adv l ≤ e
  pub inside : e ≤ length s
  pub small : i + size p ≤ e

abbrev pub Good : List ℕ → Lvl → ℕ → Res → Type 0
Good s l i (ok e p) = Went s l i e p
Good s l i (form q) = (i ≤ q) × (q ≤ length s)
Good s l i (deep q) = (i ≤ q) × (q ≤ length s)

-- the same, one level up or of a later start
pub and_then_good : (s : List ℕ) (l l' : Lvl) (i i' : ℕ) (r : Res) (f : ℕ → Pat → Res) → i ≤ i' → Good s l i' r → ((e : ℕ) (p : Pat) → r ≡ ok e p → Went s l i' e p → Good s l' i (f e p)) → Good s l' i (and_then r f)
and_then_good s l l' i i' (ok e p) f h g t = t e p refl g
and_then_good s l l' i i' (form q) f h g t = (omega arith, g.1)
and_then_good s l l' i i' (deep q) f h g t = (omega arith, g.1)

-- a test of the byte at a place that is not 256
pub byte_in : (s : List ℕ) (i n : ℕ) → n < 256 → eqb (look s i) n ≡ true → i < length s
byte_in s i n h t = in_text s i (λ e. go (sym (eqb-true (look s i) n t) ∙ e))
  where
    go : n ≡ 256 → ⊥
    go q = omega arith

-- a test that 256 passes fails only within the text
pub false_in : (s : List ℕ) (i : ℕ) (f : ℕ → Bool) → f 256 ≡ true → f (look s i) ≡ false → i < length s
false_in s i f y n = test_in s i f y n

byte_good : (s : List ℕ) (i : ℕ) (b : Bool) → barred (look s i) ≡ b → i ≤ length s → Good s atom i (on_byte b i (look s i))
byte_good s i true e h = (omega arith, h)
byte_good s i false e h = let l = false_in s i barred refl e in record { on = omega arith; inside = omega arith; small = omega arith }

-- a set goes on, and stays in the text
abbrev pub Scans : ℕ → ℕ → Scanned → Type 0
Scans n i (listing e xs) = (i < e) × (e ≤ n)
Scans n i (wrong q) = (i ≤ q) × (q ≤ n)

scans_on : (n i : ℕ) (f : ℕ → Step → List Item → Scanned) (st : Step) (xs : List Item) → i < n → ((st : Step) (xs : List Item) → Scans n (i + 1) (f (i + 1) st xs)) → Scans n i (onward st f i xs)
scans_on n i f st xs h g = go st
  where
    later : (r : Scanned) → Scans n (i + 1) r → Scans n i r
    later (listing e ys) t = omega arith
    later (wrong q) t = omega arith

    go : (st : Step) → Scans n i (onward st f i xs)
    go shut = omega arith
    go bad = omega arith
    go fresh = later (f (i + 1) fresh xs) (g fresh xs)
    go ready = later (f (i + 1) ready xs) (g ready xs)
    go (held c) = later (f (i + 1) (held c) xs) (g (held c) xs)
    go quote = later (f (i + 1) quote xs) (g quote xs)
    go (dash c) = later (f (i + 1) (dash c) xs) (g (dash c) xs)
    go (dash_quote c) = later (f (i + 1) (dash_quote c) xs) (g (dash_quote c) xs)
    go (name w) = later (f (i + 1) (name w) xs) (g (name w) xs)

pub scans : (n : ℕ) (w : List ℕ) (i : ℕ) → i + length w ≡ n → (st : Step) (xs : List Item) → Scans n i (scan w i st xs)
unfolding scan
scans n [] i h st xs = omega arith
scans n (c ∷ w) i h st xs = scans_on n i (scan w) (set_on st c) _ (omega arith) (λ st xs. scans n w (i + 1) (omega arith) st xs)

read_scans : (s : List ℕ) (i j : ℕ) (caret : Bool) (r : Scanned) → i < j → Scans (length s) j r → Good s atom i (set_read caret r)
read_scans s i j caret (listing e xs) h t = record { on = omega arith; inside = omega arith; small = omega arith }
read_scans s i j caret (wrong q) h t = omega arith

from_good : (s : List ℕ) (i j : ℕ) (caret : Bool) → i < j → j ≤ length s → Good s atom i (set_read caret (scan (drop j s) j fresh []))
from_good s i j caret h l = read_scans s i j caret (scan (drop j s) j fresh []) h (scans (length s) (drop j s) j (let e = length-drop j s in omega arith) fresh [])

set_good : (s : List ℕ) (i : ℕ) (b : Bool) → eqb (look s (i + 1)) 94 ≡ b → i < length s → Good s atom i (set_from b s i)
set_good s i true e h = let l = byte_in s (i + 1) 94 (omega arith) e in from_good s i (i + 2) true (omega arith) (omega arith)
set_good s i false e h = from_good s i (i + 1) false (omega arith) (omega arith)

pub set_at_good : (s : List ℕ) (i : ℕ) → i < length s → Good s atom i (set_at s i)
unfolding set_at
set_at_good s i h = set_good s i _ refl h

bracket_good : (s : List ℕ) (i : ℕ) (b : Bool) → eqb (look s i) 91 ≡ b → i ≤ length s → Good s atom i (on_set b s i (look s i))
bracket_good s i true e h = set_at_good s i (byte_in s i 91 (omega arith) e)
bracket_good s i false e h = byte_good s i _ refl h

dot_good : (s : List ℕ) (i : ℕ) (b : Bool) → eqb (look s i) 46 ≡ b → i ≤ length s → Good s atom i (on_dot b s i (look s i))
dot_good s i true e h = let l = byte_in s i 46 (omega arith) e in record { on = omega arith; inside = omega arith; small = omega arith }
dot_good s i false e h = bracket_good s i _ refl h

tagged_good : (s : List ℕ) (i : ℕ) (b : Bool) → i < length s → is_tag (look s (i + 1)) ≡ b → Good s atom i (tagged b i (look s (i + 1)))
tagged_good s i true h e = let l = in_text s (i + 1) (λ x. true_false (sym e ∙ ap is_tag x)) in record { on = omega arith; inside = omega arith; small = omega arith }
tagged_good s i false h e = omega arith

mark_good : (s : List ℕ) (i : ℕ) (b : Bool) → eqb (look s i) 64 ≡ b → i ≤ length s → Good s atom i (on_mark b s i (look s i))
mark_good s i true e h = tagged_good s i _ (byte_in s i 64 (omega arith) e) refl
mark_good s i false e h = dot_good s i _ refl h

escaped_good : (s : List ℕ) (i : ℕ) (b : Bool) → i < length s → eqb (look s (i + 1)) 256 ≡ b → Good s atom i (escaped b i (look s (i + 1)))
escaped_good s i true h e = omega arith
escaped_good s i false h e = let l = in_text s (i + 1) (eqb-false _ _ e) in record { on = omega arith; inside = omega arith; small = omega arith }

esc_good : (s : List ℕ) (i : ℕ) (b : Bool) → eqb (look s i) 92 ≡ b → i ≤ length s → Good s atom i (on_esc b s i (look s i))
esc_good s i true e h = escaped_good s i _ (byte_in s i 92 (omega arith) e) refl
esc_good s i false e h = mark_good s i _ refl h

single_good : (s : List ℕ) (i : ℕ) → i ≤ length s → Good s atom i (single s i)
unfolding single
single_good s i h = esc_good s i _ refl h

module _ (s : List ℕ) (on : Lvl → ℕ → ℕ → Res) (goods : (l : Lvl) (d i : ℕ) → i ≤ length s → Good s l i (on l d i)) where
  alt_tail_good : (d i e : ℕ) (p : Pat) (b : Bool) → eqb (look s e) 124 ≡ b → Went s seq i e p → Good s alts i (alt_tail b (on alts d) e p)
  alt_tail_good d i e p true t w =
      let l = byte_in s e 124 (omega arith) t in
      and_then_good s alts alts i (e + 1) (on alts d (e + 1)) _ (omega (arith, w.on)) (goods alts d (e + 1) (omega arith))
      (λ e' q x v. record { on = omega arith; inside = omega arith; small = omega arith })
  alt_tail_good d i e p false t w = record { on = omega arith; inside = omega arith; small = omega arith }

  seq_tail_good : (d i : ℕ) (b : Bool) → stops (look s i) ≡ b → i ≤ length s → Good s seq i (seq_tail b (on piece d) (on seq d) i)
  seq_tail_good d i true t h = record { on = omega arith; inside = omega arith; small = omega arith }
  seq_tail_good d i false t h =
      and_then_good s piece seq i i (on piece d i) _ (omega arith) (goods piece d i h)
      (λ e p x w. and_then_good s seq seq i e (on seq d e) _ (omega arith) (goods seq d e w.inside)
      (λ e' q y v. record { on = omega arith; inside = omega arith; small = omega arith }))

  opt_good : (i e : ℕ) (p : Pat) (b : Bool) → eqb (look s e) 63 ≡ b → Went s atom i e p → Good s piece i (opt? b e p)
  opt_good i e p true t w = let l = byte_in s e 63 (omega arith) t in record { on = omega arith; inside = omega arith; small = omega arith }
  opt_good i e p false t w = record { on = omega arith; inside = omega arith; small = omega arith }

  plus_good : (i e : ℕ) (p : Pat) (b : Bool) → eqb (look s e) 43 ≡ b → Went s atom i e p → Good s piece i (plus? b (look s e) e p)
  plus_good i e p true t w = let l = byte_in s e 43 (omega arith) t in record { on = omega arith; inside = omega arith; small = omega arith }
  plus_good i e p false t w = opt_good i e p _ refl w

  repeated_good : (i e : ℕ) (p : Pat) (b : Bool) → eqb (look s e) 42 ≡ b → Went s atom i e p → Good s piece i (repeated b (look s e) e p)
  repeated_good i e p true t w = let l = byte_in s e 42 (omega arith) t in record { on = omega arith; inside = omega arith; small = omega arith }
  repeated_good i e p false t w = plus_good i e p _ refl w

  closed_good : (i e : ℕ) (p : Pat) (b : Bool) → eqb (look s e) 41 ≡ b → Went s alts (i + 1) e p → Good s atom i (closed b e p)
  closed_good i e p true t w = let l = byte_in s e 41 (omega arith) t in record { on = omega arith; inside = omega arith; small = omega arith }
  closed_good i e p false t w = omega arith

  grouped_good : (d i : ℕ) (b : Bool) → i < length s → Good s atom i (grouped b (on alts) s d i)
  grouped_good d i true h = omega arith
  grouped_good d i false h =
      and_then_good s alts atom i (i + 1) (on alts (d + 1) (i + 1)) _ (omega arith) (goods alts (d + 1) (i + 1) (omega arith))
      (λ e p x w. closed_good i e p _ refl w)

  atom_or_good : (d i : ℕ) (b : Bool) → eqb (look s i) 40 ≡ b → i ≤ length s → Good s atom i (atom_or b (on alts) s d i)
  atom_or_good d i true t h = grouped_good d i (eqb d 16) (byte_in s i 40 (omega arith) t)
  atom_or_good d i false t h = single_good s i h

  step_good : (l : Lvl) (d i : ℕ) → i ≤ length s → Good s l i (step on s l d i)
  step_good alts d i h = and_then_good s seq alts i i (on seq d i) _ (omega arith) (goods seq d i h) (λ e p x w. alt_tail_good d i e p _ refl w)
  step_good seq d i h = seq_tail_good d i _ refl h
  step_good piece d i h = and_then_good s atom piece i i (on atom d i) _ (omega arith) (goods atom d i h) (λ e p x w. repeated_good i e p _ refl w)
  step_good atom d i h = atom_or_good d i _ refl h

read_in_good : (k : ℕ) (s : List ℕ) (l : Lvl) (d i : ℕ) → i ≤ length s → Good s l i (read_in k s l d i)
unfolding read_in
read_in_good zero s l d i h = omega arith
read_in_good (suc k) s l d i h = step_good s (read_in k s) (read_in_good k s) l d i h

pub read_good : (s : List ℕ) (l : Lvl) (d i : ℕ) → i ≤ length s → Good s l i (read s l d i)
unfolding read
read_good s l d i h = read_in_good (suc (left s l i)) s l d i h

-- Reading does not depend on the number of steps, once there are enough.
and_then_same : (r r' : Res) (f f' : ℕ → Pat → Res) → r ≡ r' → ((e : ℕ) (p : Pat) → r ≡ ok e p → f e p ≡ f' e p) → and_then r f ≡ and_then r' f'
and_then_same (ok e p) r' f f' h g = g e p refl ∙ ap (λ r. and_then r f') h
and_then_same (form q) r' f f' h g = ap (λ r. and_then r f') h
and_then_same (deep q) r' f f' h g = ap (λ r. and_then r f') h

pub went : (s : List ℕ) (l : Lvl) (i e : ℕ) (p : Pat) (r : Res) → Good s l i r → r ≡ ok e p → Went s l i e p
went s l i e p r g h = subst (Good s l i) h g

module _ (s : List ℕ) (n : ℕ) (f g : Lvl → ℕ → ℕ → Res) (goods : (l : Lvl) (d i : ℕ) → i ≤ length s → Good s l i (f l d i))
    (same : (l : Lvl) (d i : ℕ) → i ≤ length s → left s l i < n → f l d i ≡ g l d i) where
  alt_tail_same : (d i e : ℕ) (p : Pat) (b : Bool) → left s alts i ≤ n → eqb (look s e) 124 ≡ b → i ≤ e → alt_tail b (f alts d) e p ≡ alt_tail b (g alts d) e p
  alt_tail_same d i e p true m t w = let l = byte_in s e 124 (omega arith) t in ap (λ r. and_then r (λ e' q. ok e' (Alt p q))) (same alts d (e + 1) (omega arith) (omega arith))
  alt_tail_same d i e p false m t w = refl

  seq_tail_same : (d i : ℕ) (b : Bool) → i ≤ length s → left s seq i ≤ n → stops (look s i) ≡ b → seq_tail b (f piece d) (f seq d) i ≡ seq_tail b (g piece d) (g seq d) i
  seq_tail_same d i true h m t = refl
  seq_tail_same d i false h m t =
      and_then_same (f piece d i) (g piece d i) _ _ (same piece d i h (omega arith))
      (λ e p x. let w = went s piece i e p (f piece d i) (goods piece d i h) x in
      ap (λ r. and_then r (λ e' q. ok e' (Seq p q))) (same seq d e w.inside (omega arith)))

  grouped_same : (d i : ℕ) (b : Bool) → i < length s → left s atom i ≤ n → grouped b (f alts) s d i ≡ grouped b (g alts) s d i
  grouped_same d i true h m = refl
  grouped_same d i false h m = ap (λ r. and_then r (λ e p. closed (eqb (look s e) 41) e p)) (same alts (d + 1) (i + 1) (omega arith) (omega arith))

  atom_or_same : (d i : ℕ) (b : Bool) → eqb (look s i) 40 ≡ b → left s atom i ≤ n → atom_or b (f alts) s d i ≡ atom_or b (g alts) s d i
  atom_or_same d i true t m = grouped_same d i (eqb d 16) (byte_in s i 40 (omega arith) t) m
  atom_or_same d i false t m = refl

  step_same : (l : Lvl) (d i : ℕ) → i ≤ length s → left s l i ≤ n → step f s l d i ≡ step g s l d i
  step_same alts d i h m =
      and_then_same (f seq d i) (g seq d i) _ _ (same seq d i h (omega arith))
      (λ e p x. let w = went s seq i e p (f seq d i) (goods seq d i h) x in alt_tail_same d i e p (eqb (look s e) 124) m refl (omega (arith, w.on)))
  step_same seq d i h m = seq_tail_same d i (stops (look s i)) h m refl
  step_same piece d i h m = ap (λ r. and_then r (λ e p. repeated (eqb (look s e) 42) (look s e) e p)) (same atom d i h (omega arith))
  step_same atom d i h m = atom_or_same d i (eqb (look s i) 40) refl m

read_in_same : (k m : ℕ) (s : List ℕ) (l : Lvl) (d i : ℕ) → i ≤ length s → left s l i < k → left s l i < m → read_in k s l d i ≡ read_in m s l d i
unfolding read_in
read_in_same zero m s l d i h a b = absurd (not-suc-le-zero a)
read_in_same (suc k) zero s l d i h a b = absurd (not-suc-le-zero b)
read_in_same (suc k) (suc m) s l d i h a b =
    step_same s (left s l i) (read_in k s) (read_in m s) (read_in_good k s)
    (λ l' d' i' h' v. read_in_same k m s l' d' i' h' (omega arith) (omega arith)) l d i h (omega arith)

-- The equation of reading.
pub read_step : (s : List ℕ) (l : Lvl) (d i : ℕ) → i ≤ length s → read s l d i ≡ step (read s) s l d i
unfolding read read_in
read_step s l d i h =
    step_same s (left s l i) (read_in (left s l i) s) (read s) (read_in_good (left s l i) s)
    (λ l' d' i' h' v. read_in_same (left s l i) (suc (left s l' i')) s l' d' i' h' v (omega arith)) l d i h (omega arith)

-- The cases of an atom that is no group.
module _ (s : List ℕ) (i : ℕ) where
  pub single_escaped : look s i ≡ 92 → (look s (i + 1) ≡ 256 → ⊥) → single s i ≡ ok (i + 2) (Byte (look s (i + 1)))
  unfolding single
  single_escaped a b = simp (eq-eqb _ _ a, ne_eqb _ _ b)

  marked : look s i ≡ 64 → single s i ≡ tagged (is_tag (look s (i + 1))) i (look s (i + 1))
  unfolding single
  marked a = ap (λ c. on_esc (eqb c 92) s i c) a

  pub single_tag : look s i ≡ 64 → 48 ≤ look s (i + 1) → look s (i + 1) ≤ 55 → single s i ≡ ok (i + 2) (Tag (look s (i + 1) - 48))
  single_tag a b d = marked a ∙ simp (le-leb _ _ b, le-leb _ _ d)

  pub single_dot : look s i ≡ 46 → single s i ≡ ok (i + 1) Any
  unfolding single
  single_dot a = rw a

  pub single_set : look s i ≡ 91 → single s i ≡ set_at s i
  unfolding single
  single_set a = ap (λ c. on_esc (eqb c 92) s i c) a

  module _ (a : look s i ≡ 92 → ⊥) (b : look s i ≡ 64 → ⊥) (d : look s i ≡ 46 → ⊥) (g : look s i ≡ 91 → ⊥) where
    pub single_plain : barred (look s i) ≡ false → single s i ≡ ok (i + 1) (Byte (look s i))
    unfolding single
    single_plain h = simp (ne_eqb _ _ a, ne_eqb _ _ b, ne_eqb _ _ d, ne_eqb _ _ g, h)

-- Reading, case by case.
then_ok : (r : Res) (f : ℕ → Pat → Res) (e : ℕ) (p : Pat) → r ≡ ok e p → and_then r f ≡ f e p
then_ok r f e p h = ap (λ r. and_then r f) h

module _ (s : List ℕ) (d i : ℕ) (h : i ≤ length s) where
  pub alts_step : read s alts d i ≡ and_then (read s seq d i) (λ e p. alt_tail (eqb (look s e) 124) (read s alts d) e p)
  alts_step = read_step s alts d i h

  pub alts_one : (e : ℕ) (p : Pat) → read s seq d i ≡ ok e p → (look s e ≡ 124 → ⊥) → read s alts d i ≡ ok e p
  alts_one e p q no_bar = alts_step ∙ then_ok _ (λ e p. alt_tail (eqb (look s e) 124) (read s alts d) e p) e p q ∙ ap (λ b. alt_tail b (read s alts d) e p) (ne_eqb _ _ no_bar)

  pub alts_more : (e : ℕ) (p : Pat) → read s seq d i ≡ ok e p → look s e ≡ 124 → read s alts d i ≡ and_then (read s alts d (e + 1)) (λ e' q. ok e' (Alt p q))
  alts_more e p q is_bar = alts_step ∙ then_ok _ (λ e p. alt_tail (eqb (look s e) 124) (read s alts d) e p) e p q ∙ ap (λ b. alt_tail b (read s alts d) e p) (eq-eqb _ _ is_bar)

  pub seq_none : stops (look s i) ≡ true → read s seq d i ≡ ok i Empty
  seq_none t = read_step s seq d i h ∙ ap (λ b. seq_tail b (read s piece d) (read s seq d) i) t

  pub seq_some : stops (look s i) ≡ false → read s seq d i ≡ and_then (read s piece d i) (λ e p. and_then (read s seq d e) (λ e' q. ok e' (Seq p q)))
  seq_some t = read_step s seq d i h ∙ ap (λ b. seq_tail b (read s piece d) (read s seq d) i) t

  pub piece_step : read s piece d i ≡ and_then (read s atom d i) (λ e p. repeated (eqb (look s e) 42) (look s e) e p)
  piece_step = read_step s piece d i h

  pub piece_ok : (e : ℕ) (p : Pat) → read s atom d i ≡ ok e p → read s piece d i ≡ repeated (eqb (look s e) 42) (look s e) e p
  piece_ok e p q = piece_step ∙ then_ok _ (λ e p. repeated (eqb (look s e) 42) (look s e) e p) e p q

  pub atom_lone : (look s i ≡ 40 → ⊥) → read s atom d i ≡ single s i
  atom_lone n = read_step s atom d i h ∙ ap (λ b. atom_or b (read s alts) s d i) (ne_eqb _ _ n)

  pub atom_deep : look s i ≡ 40 → d ≡ 16 → read s atom d i ≡ deep i
  atom_deep o f = read_step s atom d i h ∙ ap (λ b. atom_or b (read s alts) s d i) (eq-eqb _ _ o) ∙ ap (λ b. grouped b (read s alts) s d i) (eq-eqb _ _ f)

  pub atom_group : look s i ≡ 40 → (d ≡ 16 → ⊥) → read s atom d i ≡ and_then (read s alts (d + 1) (i + 1)) (λ e p. closed (eqb (look s e) 41) e p)
  atom_group o f = read_step s atom d i h ∙ ap (λ b. atom_or b (read s alts) s d i) (eq-eqb _ _ o) ∙ ap (λ b. grouped b (read s alts) s d i) (ne_eqb _ _ f)

  pub atom_closed : (e : ℕ) (p : Pat) → look s i ≡ 40 → (d ≡ 16 → ⊥) → read s alts (d + 1) (i + 1) ≡ ok e p → read s atom d i ≡ closed (eqb (look s e) 41) e p
  atom_closed e p o f q = atom_group o f ∙ then_ok _ (λ e p. closed (eqb (look s e) 41) e p) e p q

pub byte_of : (s : List ℕ) (i n : ℕ) → n < 256 → look s i ≡ n → i < length s
byte_of s i n h e = byte_in s i n h (eq-eqb (look s i) n e)
