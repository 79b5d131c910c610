-- What the reading functions answer, step by step. Assumes nothing.
use Prim.Native.Nat.{ℕ, ◌+◌, ◌*◌, ◌≤◌}
use mathlib.Core.Path.{◌≡◌, refl, sym, ap, subst, ◌∙◌}
use mathlib.Core.List.{List, []}
use mathlib.Core.Bool.{Bool, true, false, ◌||◌}
use native.Mathlib.Omega.{arith}
use Rattle.std.specs.Prelude.{Result, Ok, Err}
use lib.ListN.{length}
use lib.Dec.{eqb}
use borrow.Author.Tests.{eq-eqb, ne_eqb}
use Rattle.ground.specs.Pick.{look}
use Rattle.pattern.specs.Pat.{Pat, size}
use Rattle.pattern.specs.Pat.Pat.{Empty, Byte, Any, Set, Tag, Seq, Alt, Star, Plus, Opt}
use Rattle.pattern.specs.Sets as sets
use Rattle.pattern.specs.Sets.{allows, mask_of}
use Rattle.pattern.specs.Atoms.{Stands, bits_of, pat_of}
use Rattle.pattern.specs.declared.reading.Atom.{Atom}
use Rattle.pattern.specs.declared.reading.Atom.TheVariants as one
use Rattle.pattern.specs.Reader.{Res, ok, form, deep, Lvl, alts, seq, piece, atom, and_then, stops, repeating, single, set_read, set_from, set_at, opt?, plus?, repeated, closed, read}
use Rattle.pattern.specs.Standing.{seen, boxed, boxed_from}
use Rattle.pattern.specs.Measured.{Read, measured, sum_of, seq_sum, alt_sum, rep_sum, width}
use Rattle.pattern.specs.declared.reading.Sum.{Sum}
use Rattle.pattern.specs.declared.Fault.{Fault}
use Rattle.pattern.specs.declared.Fault.TheVariants.{Form, Deep}
use Rattle.pattern.proofs.Laws.{adv, went, read_good, alts_step, alts_one, alts_more, seq_none, seq_some, piece_step, piece_ok, atom_lone, atom_deep, atom_group, atom_closed}
use Rattle.pattern.proofs.Sums.{alike}
use Rattle.ground.proofs.Tests.{true_false}

-- what an answer that went well says of the reading
pub record Inv (r : Res) (e : ℕ) (m : Sum) : Type 0 where
  pub pat : Pat
  pub is : r ≡ ok e pat
  pub summed : sum_of pat ≡ m

pub inv : (r : Res) {e : ℕ} {m : Sum} → Ok (e, m) ≡ measured r → Inv r e m
unfolding measured
inv (ok e p) {e = e'} {m = m} h = let z : ◌≡◌ {A = ℕ × Sum} (e', m) (e, sum_of p) = cc in record { pat = p; is = ap (λ n. ok n p) (sym (ap (λ x. x.0) z)); summed = sym (ap (λ x. x.1) z) }
inv (form q) h = cc
inv (deep q) h = cc

pub refused_then : (r : Res) (g : ℕ → Pat → Res) {f : Fault} → Err f ≡ measured r → Err f ≡ measured (and_then r g)
unfolding measured
refused_then (ok e p) g h = cc
refused_then (form q) g h = h
refused_then (deep q) g h = h

either_no : (a b : Bool) → ◌||◌ a b ≡ false → (a ≡ false) × (b ≡ false)
either_no true b e = absurd (true_false e)
either_no false b e = (refl, e)

pub once : (c e : ℕ) (p : Pat) → repeating c ≡ false → repeated (eqb c 42) c e p ≡ ok e p
once c e p r =
    let a = either_no (eqb c 42) (◌||◌ (eqb c 43) (eqb c 63)) r in
    let b = either_no (eqb c 43) (eqb c 63) a.1 in
    ap (λ x. repeated x c e p) a.0 ∙ ap (λ x. plus? x c e p) b.0 ∙ ap (λ x. opt? x e p) b.1

-- a record is 34 bytes at most
width_size : (p : Pat) → width p ≤ 34 * size p
width_size Empty = omega arith
width_size (Byte b) = omega arith
width_size Any = omega arith
width_size (Set s) = omega arith
width_size (Tag t) = omega arith
width_size (Seq p q) = let a = width_size p in let b = width_size q in omega arith
width_size (Alt p q) = let a = width_size p in let b = width_size q in omega arith
width_size (Star p) = let a = width_size p in omega arith
width_size (Plus p) = let a = width_size p in omega arith
width_size (Opt p) = let a = width_size p in omega arith

-- an answer from a reading
pub told : (r : Res) (e : ℕ) (m : Sum) (p : Pat) → r ≡ ok e p → sum_of p ≡ m → Ok (e, m) ≡ measured r
unfolding measured
told r e m p h a = sym (ap measured h ∙ ap (λ k. Ok (e, k)) a)

-- measures that come before those of an answer
abbrev pub added : Sum → Read → Read
added k (Ok x) = Ok (x.0, seq_sum k x.1)
added k (Err f) = Err f

-- an answer whose measures are equal part by part
measures : (e : ℕ) {k m : Sum} → k ≡ m → ◌≡◌ {A = Read} (Ok (e, k)) (Ok (e, m))
measures e h = ap (λ k. Ok (e, k)) h

added_twice : (k m : Sum) (r : Read) → added k (added m r) ≡ added (seq_sum k m) r
added_twice k m (Ok x) = measures x.0 (alike (omega arith) (omega arith) (omega arith))
added_twice k m (Err f) = refl

pub none_after : (k : Sum) → k ≡ seq_sum k (sum_of Empty)
none_after k = alike (omega arith) (omega arith) (omega arith)

then_seq : (p : Pat) (m : Sum) (r : Res) → sum_of p ≡ m → measured (and_then r (λ e q. ok e (Seq p q))) ≡ added m (measured r)
unfolding measured
then_seq p m (ok e q) h = measures e (ap (λ k. seq_sum k (sum_of q)) h)
then_seq p m (form q) h = refl
then_seq p m (deep q) h = refl

then_alt : (p : Pat) (m : Sum) (r : Res) → sum_of p ≡ m → measured (and_then r (λ e q. ok e (Alt p q))) ≡ added (rep_sum m) (measured r)
unfolding measured
then_alt p m (ok e q) h = measures e (ap (λ k. alt_sum k (sum_of q)) h ∙ alike (omega arith) (omega arith) (omega arith))
then_alt p m (form q) h = refl
then_alt p m (deep q) h = refl

-- a loop that reads a level from i on has come to j with the measures k: the answer is the answer from j, with k before its own
pub record Passed (s : List ℕ) (l : Lvl) (d i : ℕ) (k : Sum) (j : ℕ) : Type 0 where
  pub within : j ≤ length s
  pub small : i + k.size ≤ j
  pub narrow : k.width ≤ 34 * k.size
  pub same : measured (read s l d i) ≡ added k (measured (read s l d j))

module _ {s : List ℕ} {l : Lvl} {d i : ℕ} {k : Sum} {j : ℕ} (a : Passed s l d i k j) where
  pub pass_refused : {f : Fault} → Err f ≡ measured (read s l d j) → Err f ≡ measured (read s l d i)
  pass_refused q = ap (added k) q ∙ sym a.same

  pub pass_done : {e : ℕ} {m k' : Sum} → Ok (e, m) ≡ measured (read s l d j) → k' ≡ seq_sum k m → Ok (e, k') ≡ measured (read s l d i)
  pass_done {e = e} q z = measures e z ∙ ap (added k) q ∙ sym a.same

  pub pass_on : {e : ℕ} (m : Sum) {k' : Sum} → measured (read s l d j) ≡ added m (measured (read s l d e)) → e ≤ length s → j + m.size ≤ e → m.width ≤ 34 * m.size → k' ≡ seq_sum k m → Passed s l d i k' e
  pass_on {e = e} m q h b w z = subst (λ (x : Sum). Passed s l d i x e) (sym z) (record {
    within = h;
    small = let g = a.small in omega arith;
    narrow = let g = a.narrow in omega arith;
    same = a.same ∙ ap (added k) q ∙ added_twice k m (measured (read s l d e));
  })

module _ (s : List ℕ) (d i : ℕ) (h : i ≤ length s) where
  -- how far a reading went
  pub far : (l : Lvl) {e : ℕ} {m : Sum} → Ok (e, m) ≡ measured (read s l d i) → (i + adv l ≤ e) × (e ≤ length s) × (i + m.size ≤ e) × (m.width ≤ 34 * m.size)
  far l {e = e} {m = m} q =
      let v = inv (read s l d i) q in
      let w = went s l i e v.pat (read s l d i) (read_good s l d i h) v.is in
      (w.on, w.inside, subst (λ (k : Sum). i + k.size ≤ e) v.summed w.small, subst (λ (k : Sum). k.width ≤ 34 * k.size) v.summed (width_size v.pat))

  -- alternatives
  pub alts_refused : {f : Fault} → Err f ≡ measured (read s seq d i) → Err f ≡ measured (read s alts d i)
  alts_refused q = refused_then (read s seq d i) _ q ∙ sym (ap measured (alts_step s d i h))

  module _ {e : ℕ} {m : Sum} (q : Ok (e, m) ≡ measured (read s seq d i)) where
    pub alts_alone : (look s e ≡ 124 → ⊥) → Ok (e, m) ≡ measured (read s alts d i)
    alts_alone no_bar = let v = inv (read s seq d i) q in told _ e m v.pat (alts_one s d i h e v.pat v.is no_bar) v.summed

    module _ (is_bar : look s e ≡ 124) where
      more : read s alts d i ≡ and_then (read s alts d (e + 1)) (λ e' p. ok e' (Alt (inv (read s seq d i) q).pat p))
      more = let v = inv (read s seq d i) q in alts_more s d i h e v.pat v.is is_bar

      pub alts_before : measured (read s alts d i) ≡ added (rep_sum m) (measured (read s alts d (e + 1)))
      alts_before = ap measured more ∙ then_alt (inv (read s seq d i) q).pat m (read s alts d (e + 1)) (inv (read s seq d i) q).summed

  -- sequences
  pub seq_empty : stops (look s i) ≡ true → Ok (i, sum_of Empty) ≡ measured (read s seq d i)
  seq_empty t = told _ i (sum_of Empty) Empty (seq_none s d i h t) refl

  module _ (go : stops (look s i) ≡ false) where
    pub seq_refused : {f : Fault} → Err f ≡ measured (read s piece d i) → Err f ≡ measured (read s seq d i)
    seq_refused q = refused_then (read s piece d i) _ q ∙ sym (ap measured (seq_some s d i h go))

    module _ {e : ℕ} {m : Sum} (q : Ok (e, m) ≡ measured (read s piece d i)) where
      on : read s seq d i ≡ and_then (read s seq d e) (λ e' p. ok e' (Seq (inv (read s piece d i) q).pat p))
      on = let v = inv (read s piece d i) q in seq_some s d i h go ∙ ap (λ r. and_then r (λ e p. and_then (read s seq d e) (λ e' q. ok e' (Seq p q)))) v.is

      pub seq_before : measured (read s seq d i) ≡ added m (measured (read s seq d e))
      seq_before = ap measured on ∙ then_seq (inv (read s piece d i) q).pat m (read s seq d e) (inv (read s piece d i) q).summed

  -- repetition
  pub piece_refused : {f : Fault} → Err f ≡ measured (read s atom d i) → Err f ≡ measured (read s piece d i)
  piece_refused q = refused_then (read s atom d i) _ q ∙ sym (ap measured (piece_step s d i h))

  module _ {e : ℕ} {m : Sum} (q : Ok (e, m) ≡ measured (read s atom d i)) where
    pub piece_again : (k : Sum) → k ≡ rep_sum m → repeating (look s e) ≡ true → Ok (e + 1, k) ≡ measured (read s piece d i)
    piece_again k u r = let v = inv (read s atom d i) q in by (look s e) v.pat (ap rep_sum v.summed ∙ sym u) r _ _ _ refl refl refl ∙ sym (ap measured (piece_ok s d i h e v.pat v.is))
      where
        by : (c : ℕ) (p : Pat) → rep_sum (sum_of p) ≡ k → repeating c ≡ true → (x y z : Bool) → eqb c 42 ≡ x → eqb c 43 ≡ y → eqb c 63 ≡ z → Ok (e + 1, k) ≡ measured (repeated (eqb c 42) c e p)
        by c p a r true y z f g k = told _ _ _ (Star p) (ap (λ x. repeated x c e p) f) a
        by c p a r false true z f g k = told _ _ _ (Plus p) (ap (λ x. repeated x c e p) f ∙ ap (λ x. plus? x c e p) g) a
        by c p a r false false true f g k = told _ _ _ (Opt p) (ap (λ x. repeated x c e p) f ∙ ap (λ x. plus? x c e p) g ∙ ap (λ x. opt? x e p) k) a
        by c p a r false false false f g k = absurd (true_false (sym r ∙ ap (λ x. ◌||◌ x (◌||◌ (eqb c 43) (eqb c 63))) f ∙ ap (λ x. ◌||◌ x (eqb c 63)) g ∙ k))

    pub piece_once : repeating (look s e) ≡ false → Ok (e, m) ≡ measured (read s piece d i)
    piece_once r = let v = inv (read s atom d i) q in told _ e m v.pat (piece_ok s d i h e v.pat v.is ∙ once (look s e) e v.pat r) v.summed

  -- atoms
  pub atom_lonely : {a : Read} → (look s i ≡ 40 → ⊥) → a ≡ measured (single s i) → a ≡ measured (read s atom d i)
  atom_lonely x q = q ∙ sym (ap measured (atom_lone s d i h x))

  pub lone_sum : (e : ℕ) (a : Atom) (k : Sum) → Stands s i e a → k ≡ sum_of (pat_of [] a) → Ok (e, k) ≡ measured (single s i)
  lone_sum e a k h z = told _ e k (pat_of (bits_of (set_at s i)) a) h.is (by a ∙ sym z)
    where
      by : (a : Atom) → sum_of (pat_of (bits_of (set_at s i)) a) ≡ sum_of (pat_of [] a)
      by (one.Byte b) = refl
      by one.Any = refl
      by (one.Tag t) = refl
      by one.Set = refl

  module _ (o : look s i ≡ 40) where
    pub atom_too_deep : d ≡ 16 → Err (Deep i) ≡ measured (read s atom d i)
    unfolding measured
    atom_too_deep f = sym (ap measured (atom_deep s d i h o f))

    module _ (f : d ≡ 16 → ⊥) where
      pub atom_refused : {f : Fault} → Err f ≡ measured (read s alts (d + 1) (i + 1)) → Err f ≡ measured (read s atom d i)
      atom_refused q = refused_then (read s alts (d + 1) (i + 1)) _ q ∙ sym (ap measured (atom_group s d i h o f))

      module _ {e : ℕ} {m : Sum} (q : Ok (e, m) ≡ measured (read s alts (d + 1) (i + 1))) where
        pub atom_unclosed : (look s e ≡ 41 → ⊥) → Err (Form e) ≡ measured (read s atom d i)
        unfolding measured
        atom_unclosed x = let v = inv (read s alts (d + 1) (i + 1)) q in sym (ap measured (atom_closed s d i h e v.pat o f v.is ∙ ap (λ b. closed b e v.pat) (ne_eqb _ _ x)))

        pub atom_done : look s e ≡ 41 → Ok (e + 1, m) ≡ measured (read s atom d i)
        atom_done x = let v = inv (read s alts (d + 1) (i + 1)) q in told _ _ m v.pat (atom_closed s d i h e v.pat o f v.is ∙ ap (λ b. closed b e v.pat) (eq-eqb _ _ x)) v.summed

-- a set ends where its reading did
read_at : (caret : Bool) (z : sets.Scanned) (e : ℕ) → Ok e ≡ seen z → set_read caret z ≡ ok e (Set (bits_of (set_read caret z)))
unfolding seen
read_at caret (sets.listing e' xs) e h = ap (λ n. ok n (Set (mask_of (allows caret xs)))) (ends h)
  where
    ends : ◌≡◌ {A = Result ℕ ℕ} (Ok e) (Ok e') → e' ≡ e
    ends z = cc
read_at caret (sets.wrong q) e h = cc

read_wrong : (caret : Bool) (z : sets.Scanned) (q : ℕ) → Err q ≡ seen z → set_read caret z ≡ form q
unfolding seen
read_wrong caret (sets.listing e xs) q h = cc
read_wrong caret (sets.wrong q') q h = ap form (same h)
  where
    same : ◌≡◌ {A = Result ℕ ℕ} (Err q) (Err q') → q' ≡ q
    same y = cc

from_box : (s : List ℕ) (i : ℕ) (t : Bool) → set_from t s i ≡ set_read t (boxed_from t s i)
from_box s i true = refl
from_box s i false = refl

pub set_boxed : (s : List ℕ) (i : ℕ) → set_at s i ≡ set_read (eqb (look s (i + 1)) 94) (boxed s i)
unfolding boxed set_at
set_boxed s i = from_box s i (eqb (look s (i + 1)) 94)

pub set_ends : (s : List ℕ) (i e : ℕ) → Ok e ≡ seen (boxed s i) → set_at s i ≡ ok e (Set (bits_of (set_at s i)))
set_ends s i e h =
    let b = set_boxed s i in b ∙ read_at (eqb (look s (i + 1)) 94) (boxed s i) e h ∙ ap (λ r. ok e (Set (bits_of r))) (sym b)

pub set_wrong : (s : List ℕ) (i q : ℕ) → Err q ≡ seen (boxed s i) → set_at s i ≡ form q
set_wrong s i q h = set_boxed s i ∙ read_wrong (eqb (look s (i + 1)) 94) (boxed s i) q h
