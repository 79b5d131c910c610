-- What is known of a file whose items the reader takes: each record, its bytes, and the file. Assumes nothing.
use mathlib.Core.Path.{◌≡◌, refl, sym, ap, ap₂, ◌∙◌, subst}
use mathlib.Core.Bool.{Bool, true, false, ◌&&◌, false≢true}
use mathlib.Core.List.{List, [], ◌∷◌, ◌++◌, append_assoc}
use Prim.Native.Nat.{ℕ, zero, suc, ◌+◌, ◌≤◌, ◌<◌}
use native.Mathlib.Omega.{arith}
use lib.Dec.{ltb, leb, eqb}
use lib.ListN.{length, get_or, take, drop, take-append-drop, length-drop, length-map, drop_of_length-le}
use lib.Seq.{drop-drop, get_or-take, get_or-drop, length-take-le}
use borrow.Author.Tests.{lt-leb, le-ltb, ltb-true, ltb-false, leb-true, eqb-true, eqb-false, not-false}
use Rattle.ground.specs.Pick.{pick}
use Rattle.ground.specs.Lists.{each, Every, Bytes}
use Rattle.net.specs.Rec.{Rec, Net}
use Rattle.net.specs.File.{rec_bytes, Fits}
use Rattle.ground.proofs.Every.{every_at, every_from}
use Rattle.ground.proofs.Lists.{peel_to}
use Rattle.net.specs.Items.{rec_at, net_at, size, starts, NetFault, net_kind, net_short, net_field, net_extra, number, ItemRead, got, stop, known, in_range, body_at, item_at, HeadRead, counts, bad, head_of, NetRead, net, refused, prepend, after_item, recs_from, after_head, net_of, code_of, Placed}
use Rattle.net.proofs.Reading.{at_range, at_mask, at_fork, at_tag, at_end}

pub number_pos : (f : NetFault) → 0 < number f
unfolding number
number_pos net_kind = omega arith
number_pos net_short = omega arith
number_pos net_field = omega arith
number_pos net_extra = omega arith

and_both : (p q : Bool) → p && q ≡ true → (p ≡ true) × (q ≡ true)
and_both true true e = (refl, refl)
and_both true false e = (refl, e)
and_both false q e = absurd (false≢true e)

-- ---- the kinds

pub data Kind (k : ℕ) : Type 0 where
  is_range : k ≡ 17 → Kind k
  is_mask : k ≡ 18 → Kind k
  is_fork : k ≡ 19 → Kind k
  is_tag : k ≡ 20 → Kind k
  is_end : k ≡ 21 → Kind k

pub kind_of : (k : ℕ) → known k ≡ true → Kind k
kind_of k h =
    let b = and_both (leb 17 k) (leb k 21) h in
    let low : 17 ≤ k = leb-true 17 k b.0 in
    let high : k ≤ 21 = leb-true k 21 b.1 in
    by (eqb k 17) refl (eqb k 18) refl (eqb k 19) refl (eqb k 20) refl low high
  where
    by : (a : Bool) → eqb k 17 ≡ a → (b : Bool) → eqb k 18 ≡ b → (c : Bool) → eqb k 19 ≡ c → (d : Bool) → eqb k 20 ≡ d → 17 ≤ k → k ≤ 21 → Kind k
    by true p b q c r d s l h = is_range (eqb-true k 17 p)
    by false p true q c r d s l h = is_mask (eqb-true k 18 q)
    by false p false q true r d s l h = is_fork (eqb-true k 19 r)
    by false p false q false r true s l h = is_tag (eqb-true k 20 s)
    by false p false q false r false s l h = is_end (omega (arith, eqb-false k 17 p, eqb-false k 18 q, eqb-false k 19 r, eqb-false k 20 s))

pub kind_known : {k : ℕ} → Kind k → known k ≡ true
kind_known (is_range e) = rw e
kind_known (is_mask e) = rw e
kind_known (is_fork e) = rw e
kind_known (is_tag e) = rw e
kind_known (is_end e) = rw e

-- ---- an item that is taken

pub record Taken (s : List ℕ) (at tags count : ℕ) (x : Rec) (after : ℕ) : Type 0 where
  pub here : x ≡ rec_at s at
  pub next : after ≡ at + size (get_or s at 0)
  pub kind : Kind (get_or s at 0)
  pub whole : at + size (get_or s at 0) ≤ length s
  pub ranged : in_range tags count (rec_at s at) ≡ true

module _ (s : List ℕ) (at tags count : ℕ) where
  IfTaken : ItemRead → Type 0
  IfTaken (got x after) = Taken s at tags count x after
  IfTaken (stop f) = Unit {0}

  on : (b : Bool) (x y : ItemRead) → (b ≡ true → IfTaken x) → (b ≡ false → IfTaken y) → IfTaken (pick b x y)
  unfolding pick
  on true x y f g = f refl
  on false x y f g = g refl

  all_taken : IfTaken (item_at s at tags count)
  unfolding item_at body_at IfTaken
  all_taken =
      on _ _ _ (λ _. tt) (λ _.
      on _ _ _ (λ _. tt) (λ k.
      on _ _ _ (λ _. tt) (λ w.
      on _ _ _ (λ _. tt) (λ r. record {
        here = refl;
        next = refl;
        kind = kind_of _ (not-false _ k);
        whole = ltb-false _ _ w;
        ranged = not-false _ r;
      }))))

  pub taken : (x : Rec) (after : ℕ) → item_at s at tags count ≡ got x after → Taken s at tags count x after
  unfolding IfTaken
  taken x after e = subst IfTaken e all_taken

pub item_got : (s : List ℕ) (at tags count k : ℕ) (x : Rec) → get_or s at 0 ≡ k → known k ≡ true → at < length s → at + size k ≤ length s → rec_at s at ≡ x → in_range tags count x ≡ true → item_at s at tags count ≡ got x (at + size k)
unfolding item_at body_at pick
item_got s at tags count k x e n m w h r = rw (lt-leb _ _ m, e, n, le-ltb _ _ w, h, r)

-- ---- its bytes, and that its fields are in range

module _ (s : List ℕ) (at : ℕ) where
  pub rec_there : Kind (get_or s at 0) → at + size (get_or s at 0) ≤ length s → drop at s ≡ rec_bytes (rec_at s at) ++ drop (at + size (get_or s at 0)) s
  rec_there (is_range k) w =
      let l : at + 4 ≤ length s = rw k at w in
      rw (at_range s at k, k)
      (peel_to s at (at + 1) 0 refl (omega arith)
      ∙ ap₂ ◌∷◌ k (peel_to s (at + 1) (at + 2) 0 (omega arith) (omega arith)
      ∙ ap (λ (t : List ℕ). get_or s (at + 1) 0 ∷ t) (peel_to s (at + 2) (at + 3) 0 (omega arith) (omega arith)
      ∙ ap (λ (t : List ℕ). get_or s (at + 2) 0 ∷ t) (peel_to s (at + 3) (at + 4) 0 (omega arith) (omega arith)))))
  rec_there (is_mask k) w =
      let l : at + 34 ≤ length s = rw k at w in
      rw (at_mask s at k, k)
      (peel_to s at (at + 1) 0 refl (omega arith)
      ∙ ap₂ ◌∷◌ k (sym (take-append-drop 32 (drop (at + 1) s))
      ∙ ap (λ (t : List ℕ). take 32 (drop (at + 1) s) ++ t)
      (drop-drop 32 (at + 1) s ∙ ap (λ (n : ℕ). drop n s) (let e : at + 1 + 32 ≡ at + 33 = omega arith in e) ∙ peel_to s (at + 33) (at + 34) 0 (omega arith) (omega arith))
      ∙ sym (append_assoc (take 32 (drop (at + 1) s)) (get_or s (at + 33) 0 ∷ []) (drop (at + 34) s))))
  rec_there (is_fork k) w =
      let l : at + 3 ≤ length s = rw k at w in
      rw (at_fork s at k, k)
      (peel_to s at (at + 1) 0 refl (omega arith)
      ∙ ap₂ ◌∷◌ k (peel_to s (at + 1) (at + 2) 0 (omega arith) (omega arith)
      ∙ ap (λ (t : List ℕ). get_or s (at + 1) 0 ∷ t) (peel_to s (at + 2) (at + 3) 0 (omega arith) (omega arith))))
  rec_there (is_tag k) w =
      let l : at + 3 ≤ length s = rw k at w in
      rw (at_tag s at k, k)
      (peel_to s at (at + 1) 0 refl (omega arith)
      ∙ ap₂ ◌∷◌ k (peel_to s (at + 1) (at + 2) 0 (omega arith) (omega arith)
      ∙ ap (λ (t : List ℕ). get_or s (at + 1) 0 ∷ t) (peel_to s (at + 2) (at + 3) 0 (omega arith) (omega arith))))
  rec_there (is_end k) w =
      let l : at + 2 ≤ length s = rw k at w in
      rw (at_end s at k, k)
      (peel_to s at (at + 1) 0 refl (omega arith)
      ∙ ap₂ ◌∷◌ k (peel_to s (at + 1) (at + 2) 0 (omega arith) (omega arith)))

  module _ (bytes : (i : ℕ) → get_or s i 0 < 256) where
    pub part_bytes : (n b : ℕ) → b + n ≤ length s → Bytes (take n (drop b s))
    part_bytes n b h =
        let l : length (take n (drop b s)) ≡ n = length-take-le n (drop b s) (rw (length-drop b s) (omega arith)) in
        every_from _ (take n (drop b s)) 0 (λ i k. rw (get_or-take n (drop b s) i 0 (omega arith), get_or-drop b s i 0) (bytes (b + i)))

    pub rec_fits : (tags count : ℕ) → Kind (get_or s at 0) → at + size (get_or s at 0) ≤ length s → in_range tags count (rec_at s at) ≡ true → Fits tags count (rec_at s at)
    rec_fits tags count (is_range k) w r =
        let b = and_both _ _ (rw (at_range s at k) at r) in
        rw (at_range s at k) (leb-true _ _ b.0, omega (arith, bytes (at + 2)), ltb-true _ _ b.1)
    rec_fits tags count (is_mask k) w r =
        let l : at + 34 ≤ length s = rw k at w in
        rw (at_mask s at k)
        (length-take-le 32 (drop (at + 1) s) (rw (length-drop (at + 1) s) (omega arith)), part_bytes 32 (at + 1) (omega arith), ltb-true _ _ (rw (at_mask s at k) at r))
    rec_fits tags count (is_fork k) w r =
        let b = and_both _ _ (rw (at_fork s at k) at r) in
        rw (at_fork s at k) (ltb-true _ _ b.0, ltb-true _ _ b.1)
    rec_fits tags count (is_tag k) w r =
        let b = and_both _ _ (rw (at_tag s at k) at r) in
        rw (at_tag s at k) (ltb-true _ _ b.0, ltb-true _ _ b.1)
    rec_fits tags count (is_end k) w r = rw (at_end s at k) (leb-true _ _ (rw (at_end s at k) at r))

-- ---- the records from a place on

module _ (s : List ℕ) (tags count : ℕ) where
  pub starts_length : (k at : ℕ) → length (starts k s at) ≡ k
  unfolding starts
  starts_length zero at = refl
  starts_length (suc k) at = ap suc (starts_length k (at + size (get_or s at 0)))

  -- a record whose kind byte stands there is whole and in range
  pub record Stands (at : ℕ) : Type 0 where
    pub kind : Kind (get_or s at 0)
    pub whole : at + size (get_or s at 0) ≤ length s
    pub ranged : in_range tags count (rec_at s at) ≡ true

  -- k records from a place on, to the end of the file
  pub record Reads (k at : ℕ) : Type 0 where
    pub reads : recs_from k s at tags count ≡ net tags (net_at s (starts k s at))
    pub stand : Every Stands (starts k s at)
    pub bytes : drop at s ≡ each rec_bytes (net_at s (starts k s at))

  pub code_prepend : (x : Rec) (n : NetRead) → code_of (prepend x n) ≡ code_of n
  unfolding code_of prepend
  code_prepend x (net t A) = refl
  code_prepend x (refused f) = refl

  reads_none : (at : ℕ) (b : Bool) → ltb at (length s) ≡ b → code_of (recs_from 0 s at tags count) ≡ 0 → Reads 0 at
  unfolding recs_from code_of starts net_at pick
  reads_none at true e c = absurd (omega (arith, number_pos net_extra, rw e at c))
  reads_none at false e c = record {
    reads = rw e;
    stand = tt;
    bytes = drop_of_length-le s (ltb-false _ _ e);
  }

  module _ (k at : ℕ) (more : (p : ℕ) → code_of (recs_from k s p tags count) ≡ 0 → Reads k p) where
    reads_more : (i : ItemRead) → item_at s at tags count ≡ i → code_of (recs_from (suc k) s at tags count) ≡ 0 → Reads (suc k) at
    unfolding recs_from after_item code_of starts net_at prepend
    reads_more (stop f) e c = absurd (omega (arith, number_pos f, rw e at c))
    reads_more (got x p) e c =
        let t = taken s at tags count x p e in
        let r = more (at + size (get_or s at 0)) (rw (← t.next) (sym (code_prepend x (recs_from k s p tags count)) ∙ rw e at c)) in
        record {
          reads = rw (e, t.next, t.here, r.reads);
          stand = (record { kind = t.kind; whole = t.whole; ranged = t.ranged }, r.stand);
          bytes = rec_there s at t.kind t.whole ∙ ap (λ (l : List ℕ). rec_bytes (rec_at s at) ++ l) r.bytes;
        }

  pub reads_from : (k at : ℕ) → code_of (recs_from k s at tags count) ≡ 0 → Reads k at
  reads_from zero at c = reads_none at (ltb at (length s)) refl c
  reads_from (suc k) at c = reads_more k at (reads_from k) (item_at s at tags count) refl c

-- ---- the HEAD

pub record HeadTaken (s : List ℕ) (tags count : ℕ) : Type 0 where
  pub long : 4 ≤ length s
  pub kind : get_or s 0 0 ≡ 16
  pub edition : get_or s 1 0 ≡ 1
  pub tags_there : tags ≡ get_or s 2 0
  pub count_there : count ≡ get_or s 3 0
  pub few_tags : tags ≤ 8
  pub some : 1 ≤ count
  pub few : count ≤ 64

module _ (s : List ℕ) where
  IfHead : HeadRead → Type 0
  IfHead (counts tags count) = HeadTaken s tags count
  IfHead (bad f) = Unit {0}

  on_head : (b : Bool) (x y : HeadRead) → (b ≡ true → IfHead x) → (b ≡ false → IfHead y) → IfHead (pick b x y)
  unfolding pick
  on_head true x y f g = f refl
  on_head false x y f g = g refl

  all_heads : IfHead (head_of s)
  unfolding head_of IfHead
  all_heads =
      on_head _ _ _ (λ _. tt) (λ _.
      on_head _ _ _ (λ _. tt) (λ k.
      on_head _ _ _ (λ _. tt) (λ l.
      on_head _ _ _ (λ _. tt) (λ r.
      let a = and_both _ _ (not-false _ r) in
      let b = and_both _ _ a.1 in
      let c = and_both _ _ b.1 in
      record {
        long = ltb-false _ _ l;
        kind = eqb-true _ _ (not-false _ k);
        edition = eqb-true _ _ a.0;
        tags_there = refl;
        count_there = refl;
        few_tags = leb-true _ _ b.0;
        some = leb-true _ _ c.0;
        few = leb-true _ _ c.1;
      }))))

  pub head_taken : (tags count : ℕ) → head_of s ≡ counts tags count → HeadTaken s tags count
  unfolding IfHead
  head_taken tags count e = subst IfHead e all_heads

-- ---- the file

pub net_tags : {t u : ℕ} {A B : Net} → net t A ≡ net u B → t ≡ u
net_tags e = cc

pub net_recs : {t u : ℕ} {A B : Net} → net t A ≡ net u B → A ≡ B
net_recs e = cc

-- a file that reads as a net has its HEAD, and its records stand one after the other
pub record Held (s : List ℕ) (tags : ℕ) (A : Net) : Type 0 where
  pub head : head_of s ≡ counts tags (length A)
  pub fine : code_of (recs_from (length A) s 4 tags (length A)) ≡ 0
  pub recs : A ≡ net_at s (starts (length A) s 4)

module _ (s : List ℕ) (tags : ℕ) (A : Net) where
  by_head : (h : HeadRead) → head_of s ≡ h → net_of s ≡ net tags A → Held s tags A
  unfolding net_of after_head code_of net_at
  by_head (bad f) e n = let z : refused f ≡ net tags A = rw e at n in let o : ◌≡◌ {A = ℕ} 0 1 = cc in absurd (omega arith)
  by_head (counts t c) e n =
      let m : recs_from c s 4 t c ≡ net tags A = rw e at n in
      let fine : code_of (recs_from c s 4 t c) ≡ 0 = rw m in
      let same : net t (net_at s (starts c s 4)) ≡ net tags A = sym (reads_from s t c c 4 fine).reads ∙ m in
      let l : length A ≡ c = ap length (sym (net_recs same)) ∙ length-map (starts c s 4) (rec_at s) ∙ starts_length s t c c 4 in
      record {
        head = e ∙ ap₂ counts (net_tags same) (sym l);
        fine = rw (l, ← net_tags same) fine;
        recs = rw l (sym (net_recs same));
      }

  pub net_head : net_of s ≡ net tags A → Held s tags A
  net_head n = by_head (head_of s) refl n

module _ (s : List ℕ) (tags count : ℕ) (head : head_of s ≡ counts tags count) (fine : code_of (recs_from count s 4 tags count) ≡ 0) where
  r : Reads s tags count count 4
  r = reads_from s tags count count 4 fine

  len : length (starts count s 4) ≡ count
  len = starts_length s tags count count 4

  pub placed : ((i : ℕ) → get_or s i 0 < 256) → Placed s tags (starts count s 4)
  unfolding net_of after_head
  placed bytes =
      let h = head_taken s tags count head in
      record {
        reads = rw (head, r.reads);
        follow = ap (λ (n : ℕ). starts n s 4) (sym len);
        few_tags = h.few_tags;
        some = rw len h.some;
        few = rw len h.few;
        whole = λ i l. (every_at (Stands s tags count) (starts count s 4) r.stand 0 i l).whole;
        inside = λ i l. rw len (let t = every_at (Stands s tags count) (starts count s 4) r.stand 0 i l in rec_fits s (get_or (starts count s 4) i 0) bytes tags count t.kind t.whole t.ranged);
      }
