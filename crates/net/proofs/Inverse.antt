-- Reading and writing an automaton file are inverse. Assumes nothing.
use mathlib.Core.Path.{◌≡◌, refl, sym, ap, ap₂, ◌∙◌, subst}
use mathlib.Core.Bool.{true}
use mathlib.Core.List.{List, [], ◌∷◌, ◌++◌, append_assoc, append-nil}
use Prim.Native.Nat.{ℕ, ◌+◌, ◌≤◌, ◌<◌}
use native.Mathlib.Omega.{arith}
use lib.ListN.{length, get_or, take, drop, length-append}
use lib.Seq.{get_or-append-add, get_or-append_seam, get_or_at, drop-append-add, take_at}
use borrow.Author.Tests.{lt-ltb, le-ltb, le-leb, ne_eqb}
use Rattle.ground.specs.Pick.{pick}
use Rattle.ground.specs.Lists.{each, Every, Bytes}
use Rattle.net.specs.Rec.{Rec, range, mask, fork, tag, end, Net}
use Rattle.net.specs.File.{rec_bytes, file_of, Fits, Legal}
use Rattle.ground.proofs.Lists.{peel_to}
use Rattle.ground.proofs.Every.{bytes_at, every_append}
use Rattle.net.specs.Items.{rec_at, size, got, known, in_range, item_at, counts, head_of, net, prepend, after_item, recs_from, after_head, net_of, NetFault, refused, NetRead, code_of}
use Rattle.net.proofs.Reading.{at_range, at_mask, at_fork, at_tag, at_end}
use Rattle.net.proofs.Whole.{number_pos, reads_from, HeadTaken, head_taken, net_head, placed, item_got}
use Rattle.net.proofs.Inside.{placed_legal}

-- ---- what reads is what is written

module _ (s : List ℕ) (bytes : Bytes s) where
  head_there : (t c : ℕ) → HeadTaken s t c → s ≡ 16 ∷ 1 ∷ t ∷ c ∷ drop 4 s
  head_there t c h =
      let l = h.long in
      peel_to s 0 1 0 (omega arith) (omega arith)
      ∙ ap₂ ◌∷◌ h.kind (peel_to s 1 2 0 (omega arith) (omega arith)
      ∙ ap₂ ◌∷◌ h.edition (peel_to s 2 3 0 (omega arith) (omega arith)
      ∙ ap₂ ◌∷◌ (sym h.tags_there) (peel_to s 3 4 0 (omega arith) (omega arith)
      ∙ ap (λ (y : ℕ). y ∷ drop 4 s) (sym h.count_there))))

  pub written : (tags : ℕ) (A : Net) → net_of s ≡ net tags A → (s ≡ file_of tags A) × Legal tags A
  written tags A n =
      let h = net_head s tags A n in
      let c = length A in
      let r = reads_from s tags c c 4 h.fine in (
        head_there tags c (head_taken s tags c h.head) ∙ ap (λ (y : List ℕ). 16 ∷ 1 ∷ tags ∷ c ∷ y) (r.bytes ∙ ap (each rec_bytes) (sym h.recs)),
        subst (Legal tags) (sym h.recs) (placed_legal (placed s tags c h.head h.fine (bytes_at s bytes))),
      )

-- ---- what is written reads back

module _ (pre : List ℕ) where
  byte_in : (ys : List ℕ) (j : ℕ) → get_or (pre ++ ys) (length pre + j) 0 ≡ get_or ys j 0
  byte_in ys j = get_or-append-add pre ys j 0

  room : (ys : List ℕ) (j : ℕ) → j ≤ length ys → length pre + j ≤ length (pre ++ ys)
  room ys j h = rw (length-append pre ys) (omega arith)

  module _ (tags count k : ℕ) (ys : List ℕ) (x : Rec) where
    item_in : known k ≡ true → size k ≤ length (k ∷ ys) → rec_at (pre ++ (k ∷ ys)) (length pre) ≡ x → in_range tags count x ≡ true → item_at (pre ++ (k ∷ ys)) (length pre) tags count ≡ got x (length pre + size k)
    item_in n w h r = item_got (pre ++ (k ∷ ys)) (length pre) tags count k x (get_or-append_seam pre k ys 0) n (omega (arith, room (k ∷ ys) 1 (omega arith))) (room (k ∷ ys) (size k) w) h r

  item_back : (tags count : ℕ) (x : Rec) (rest : List ℕ) → Fits tags count x → item_at (pre ++ (rec_bytes x ++ rest)) (length pre) tags count ≡ got x (length pre + length (rec_bytes x))
  item_back tags count (range lo hi n) rest f =
      let ys = lo ∷ hi ∷ n ∷ rest in
      item_in tags count 17 ys (range lo hi n) refl (omega arith)
      (at_range (pre ++ (17 ∷ ys)) (length pre) (get_or-append_seam pre 17 ys 0) ∙ rw (byte_in (17 ∷ ys) 1, byte_in (17 ∷ ys) 2, byte_in (17 ∷ ys) 3))
      (rw (le-leb _ _ f.0, lt-ltb _ _ f.2))
  item_back tags count (mask bits n) rest f =
      let ys = bits ++ (n ∷ rest) in
      let l : length (18 ∷ (bits ++ (n ∷ []))) ≡ 34 = rw (length-append bits (n ∷ [])) (omega (arith, f.0)) in
      let w : size 18 ≤ length (18 ∷ ys) = rw (length-append bits (n ∷ rest)) (omega (arith, f.0)) in
      rw (append_assoc bits (n ∷ []) rest, l)
      (item_in tags count 18 ys (mask bits n) refl w
      (at_mask (pre ++ (18 ∷ ys)) (length pre) (get_or-append_seam pre 18 ys 0)
      ∙ ap₂ mask (ap (take 32) (drop-append-add pre (18 ∷ ys) 1) ∙ take_at bits (n ∷ rest) 32 f.0) (byte_in (18 ∷ ys) 33 ∙ get_or_at bits n rest 0 32 f.0))
      (rw (lt-ltb _ _ f.2)))
  item_back tags count (fork a b) rest f =
      let ys = a ∷ b ∷ rest in
      item_in tags count 19 ys (fork a b) refl (omega arith)
      (at_fork (pre ++ (19 ∷ ys)) (length pre) (get_or-append_seam pre 19 ys 0) ∙ rw (byte_in (19 ∷ ys) 1, byte_in (19 ∷ ys) 2))
      (rw (lt-ltb _ _ f.0, lt-ltb _ _ f.1))
  item_back tags count (tag t n) rest f =
      let ys = t ∷ n ∷ rest in
      item_in tags count 20 ys (tag t n) refl (omega arith)
      (at_tag (pre ++ (20 ∷ ys)) (length pre) (get_or-append_seam pre 20 ys 0) ∙ rw (byte_in (20 ∷ ys) 1, byte_in (20 ∷ ys) 2))
      (rw (lt-ltb _ _ f.0, lt-ltb _ _ f.1))
  item_back tags count (end a) rest f =
      let ys = a ∷ rest in
      item_in tags count 21 ys (end a) refl (omega arith)
      (at_end (pre ++ (21 ∷ ys)) (length pre) (get_or-append_seam pre 21 ys 0) ∙ rw (byte_in (21 ∷ ys) 1))
      (rw (le-leb _ _ f))

module _ (tags count : ℕ) where
  back : (A : Net) (pre : List ℕ) → Every (Fits tags count) A → recs_from (length A) (pre ++ each rec_bytes A) (length pre) tags count ≡ net tags A
  unfolding recs_from after_item prepend pick
  back [] pre f = rw (le-ltb (length pre) (length (pre ++ [])) (rw (append-nil pre) (omega arith)))
  back (x ∷ A) pre f =
      let on : recs_from (length A) (pre ++ (rec_bytes x ++ each rec_bytes A)) (length pre + length (rec_bytes x)) tags count ≡ net tags A =
      rw (← append_assoc pre (rec_bytes x) (each rec_bytes A), ← length-append pre (rec_bytes x)) (back A (pre ++ rec_bytes x) f.1) in
      rw (item_back pre tags count x (each rec_bytes A) f.0, on)

module _ {tags : ℕ} {A : Net} (l : Legal tags A) where
  head_back : head_of (file_of tags A) ≡ counts tags (length A)
  unfolding head_of pick
  head_back =
      let s = file_of tags A in
      rw (ne_eqb (length s) 0 (λ e. omega arith), le-ltb (length s) 4 (omega arith), le-leb tags 8 l.few_tags, le-leb 1 (length A) l.some, le-leb (length A) 64 l.few)

  pub read_back : net_of (file_of tags A) ≡ net tags A
  unfolding net_of after_head
  read_back = rw head_back (back tags (length A) A (16 ∷ 1 ∷ tags ∷ length A ∷ []) l.fits)

-- ---- legal files, said from the writing side

rec_are_bytes : (tags count : ℕ) → tags ≤ 8 → count ≤ 64 → (x : Rec) → Fits tags count x → Bytes (rec_bytes x)
rec_are_bytes tags count t c (range lo hi n) f = (omega arith, (omega (arith, f.0, f.1), (omega (arith, f.1), (omega (arith, f.2), tt))))
rec_are_bytes tags count t c (mask bits n) f = (omega arith, every_append (λ (b : ℕ). b < 256) bits (n ∷ []) f.1 (omega (arith, f.2), tt))
rec_are_bytes tags count t c (fork a b) f = (omega arith, (omega (arith, f.0), (omega (arith, f.1), tt)))
rec_are_bytes tags count t c (tag u n) f = (omega arith, (omega (arith, f.0), (omega (arith, f.1), tt)))
rec_are_bytes tags count t c (end a) f = (omega arith, (omega (arith, f), tt))

recs_are_bytes : (tags count : ℕ) → tags ≤ 8 → count ≤ 64 → (A : Net) → Every (Fits tags count) A → Bytes (each rec_bytes A)
recs_are_bytes tags count t c [] f = tt
recs_are_bytes tags count t c (x ∷ A) f =
    every_append (λ (b : ℕ). b < 256) (rec_bytes x) (each rec_bytes A) (rec_are_bytes tags count t c x f.0) (recs_are_bytes tags count t c A f.1)

pub file_bytes : {tags : ℕ} {A : Net} → Legal tags A → Bytes (file_of tags A)
file_bytes {tags} {A} l =
    (omega arith, (omega arith, (omega (arith, l.few_tags), (omega (arith, l.few), recs_are_bytes tags (length A) l.few_tags l.few A l.fits))))

module _ (s : List ℕ) where
  -- what is refused is no legal net's file
  pub never_written : (f : NetFault) → net_of s ≡ refused f → (tags : ℕ) (A : Net) → Legal tags A → s ≡ file_of tags A → ⊥
  never_written f e tags A l w =
      let r : net_of s ≡ net tags A = rw w (read_back l) in
      let z : ◌≡◌ {A = ℕ} 0 1 = cc in
      omega arith

  by_net : (n : NetRead) → net_of s ≡ n → Bytes s → code_of n ≡ 0 → (tags : ℕ) × (A : Net) × (s ≡ file_of tags A) × Legal tags A
  unfolding code_of
  by_net (refused f) e b c = absurd (omega (arith, number_pos f))
  by_net (net tags A) e b c = let w = written s b tags A e in (tags, A, w.0, w.1)

  -- what is taken is
  pub check_legal : Bytes s → code_of (net_of s) ≡ 0 → (tags : ℕ) × (A : Net) × (s ≡ file_of tags A) × Legal tags A
  check_legal b c = by_net (net_of s) refl b c
