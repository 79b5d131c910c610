-- The pass over a file that keeps the places of its records. Assumes nothing.
use mathlib.Core.Path.{◌≡◌, refl, sym, ap, ap₂, ◌∙◌}
use mathlib.Core.List.{List, [], ◌∷◌, ◌++◌, append-nil, append_assoc}
use Prim.Native.Nat.{ℕ, suc, ◌+◌, ◌-◌, ◌≤◌, ◌<◌}
use native.Mathlib.Omega.{arith}
use native.Mathlib.Numerals.{add-one}
use lib.ListN.{length, get_or, take, drop, set, replicate, length-set, length-replicate}
use lib.Seq.{take-suc-set, take_all, take_at, length-take-le}
use borrow.Author.Tests.{lt-ltb, le-ltb}
use Rattle.std.specs.Prelude.{Result, Ok, Err}
use Rattle.std.proofs.lemmas.List.{drop-replicate}
use Rattle.std.proofs.lemmas.Slice.{drop-append-drop}
use Rattle.answers.specs.Refusals as refusals
use Rattle.answers.specs.declared.Refusal.{Refusal}
use Rattle.answers.specs.declared.Refusal.TheVariants.{NetExtra}
use Rattle.ground.specs.Pick.{pick}
use Rattle.net.specs.Rec.{Rec}
use Rattle.net.specs.Items.{starts, NetFault, number, ItemRead, got, stop, item_at, HeadRead, counts, bad, head_of, prepend, after_item, recs_from, after_head, net_of, code_of}
use Rattle.net.specs.Calls.{refusal, head_shown, item_shown, shown, Laid}
use Rattle.net.specs.declared.Item.{Item}
use Rattle.net.proofs.Reading.{refusal_number}
use Rattle.net.proofs.Whole.{taken, placed, head_taken, code_prepend}

-- ---- what the reader hands on, taken back

head_counts : (h : HeadRead) (t c : ℕ) → Ok (t, c) ≡ head_shown h → h ≡ counts t c
unfolding head_shown
head_counts (counts t' c') t c e = let z : (t', c') ≡ (t, c) = cc in ap₂ counts (ap (λ (v : ℕ × ℕ). v.0) z) (ap (λ (v : ℕ × ℕ). v.1) z)
head_counts (bad f) t c e = cc

pub shown_got : (at : ℕ) (i : ItemRead) (y : Item) (p : ℕ) → Ok (y, p) ≡ shown at i → (x : Rec) × (i ≡ got x p)
unfolding shown
shown_got at (got x q) y p e = let z : (item_shown at x, q) ≡ (y, p) = cc in (x, ap (got x) (ap (λ (v : Item × ℕ). v.1) z))
shown_got at (stop f) y p e = absurd (cc)

pub shown_stop : (at : ℕ) (i : ItemRead) (e : Refusal) → Err e ≡ shown at i → (f : NetFault) × (i ≡ stop f) × (e ≡ refusal f)
unfolding shown
shown_stop at (got x q) e p = absurd (cc)
shown_stop at (stop f) e p = (f, refl, cc)

-- ---- a refused file

pub head_refused : (s : List ℕ) (e : Refusal) → Err e ≡ head_shown (head_of s) → refusals.code_of e ≡ code_of (net_of s)
unfolding net_of after_head head_shown code_of
head_refused s e p = by (head_of s) refl
  where
    by : (h : HeadRead) → head_of s ≡ h → refusals.code_of e ≡ code_of (after_head h (λ (t c : ℕ). recs_from c s 4 t c))
    by (counts t c) q = let z : ◌≡◌ {A = Result (ℕ × ℕ) Refusal} (Err e) (Ok (t, c)) = rw q at p in absurd (cc)
    by (bad f) q = let z : ◌≡◌ {A = Result (ℕ × ℕ) Refusal} (Err e) (Err (refusal f)) = rw q at p in let w : e ≡ refusal f = cc in rw w (refusal_number f)

-- ---- the pass

-- with i records passed, their places in the first i of found, and the next record at a place
pub record Filling (s : List ℕ) (t c n : ℕ) (found : List ℕ) (at i : ℕ) : Type 0 where
  pub counted : n ≡ c
  pub head : head_of s ≡ counts t c
  pub long : length found ≡ n
  pub code : code_of (recs_from (n - i) s at t c) ≡ code_of (net_of s)
  pub so_far : take i found ++ starts (n - i) s at ≡ starts n s 4

module _ (s : List ℕ) (t c : ℕ) where
  pub fill_begins : (n : ℕ) → Ok (t, c) ≡ head_shown (head_of s) → n ≡ c → (found : List ℕ) → length found ≡ n → Filling s t c n found 4 0
  unfolding net_of after_head
  fill_begins n e m found l =
      let z : n - 0 ≡ n = omega arith in
      let h = head_counts _ t c e in
      record {
        counted = m;
        head = h;
        long = l;
        code = rw (z, m, h);
        so_far = rw z;
      }

  module _ (n : ℕ) (found : List ℕ) (at i : ℕ) (f : Filling s t c n found at i) where
    module _ (l : i < n) where
      down : n - i ≡ suc (n - (i + 1))
      down = omega arith

      stopped : (u : NetFault) → item_at s at t c ≡ stop u → code_of (net_of s) ≡ number u
      unfolding recs_from after_item code_of
      stopped u e = sym f.code ∙ rw (down, e)

      pub fill_stop : (e : Refusal) → Err e ≡ shown at (item_at s at t c) → refusals.code_of e ≡ code_of (net_of s)
      fill_stop e p =
          let b = shown_stop at (item_at s at t c) e p in
          ap refusals.code_of b.2 ∙ refusal_number b.0 ∙ sym (stopped b.0 b.1)

      module _ (x : Rec) (p : ℕ) (e : item_at s at t c ≡ got x p) where
        code_on : code_of (recs_from (n - (i + 1)) s p t c) ≡ code_of (net_of s)
        unfolding recs_from after_item
        code_on =
            let here : code_of (recs_from (n - i) s at t c) ≡ code_of (prepend x (recs_from (n - (i + 1)) s p t c)) = rw (down, e) in
            sym (here ∙ code_prepend s t c x (recs_from (n - (i + 1)) s p t c)) ∙ f.code

        so_on : take (i + 1) (set found i at) ++ starts (n - (i + 1)) s p ≡ starts n s 4
        unfolding starts
        so_on =
            let here : starts (n - i) s at ≡ at ∷ starts (n - (i + 1)) s p = rw (down, (taken s at t c x p e).next) in
            ap (λ (k : ℕ). take k (set found i at) ++ starts (n - (i + 1)) s p) (add-one i)
            ∙ ap (λ (y : List ℕ). y ++ starts (n - (i + 1)) s p) (take-suc-set found i at (omega (arith, f.long)))
            ∙ append_assoc (take i found) (at ∷ []) (starts (n - (i + 1)) s p)
            ∙ ap (λ (y : List ℕ). take i found ++ y) (sym here) ∙ f.so_far

        pub fill_on : Filling s t c n (set found i at) p (i + 1)
        fill_on = record {
          counted = f.counted;
          head = f.head;
          long = length-set found i at ∙ f.long;
          code = code_on;
          so_far = so_on;
        }

    module _ (all : i ≡ n) where
      up : n - i ≡ 0
      up = omega arith

      pub fill_extra : at < length s → refusals.code_of NetExtra ≡ code_of (net_of s)
      unfolding recs_from code_of number pick
      fill_extra h = let here : code_of (recs_from (n - i) s at t c) ≡ 8 = rw (up, lt-ltb _ _ h) in sym here ∙ f.code

      done : length s ≤ at → code_of (net_of s) ≡ 0
      unfolding recs_from code_of pick
      done h = sym f.code ∙ rw (up, le-ltb _ _ h)

      fine : length s ≤ at → code_of (recs_from c s 4 t c) ≡ 0
      unfolding net_of after_head
      fine h = rw f.head at (done h)

      found_all : found ≡ starts c s 4
      unfolding starts
      found_all =
          let none : starts (n - i) s at ≡ [] = rw up in
          sym (take_all i found (omega (arith, f.long))) ∙ sym (append-nil (take i found))
          ∙ ap (λ (y : List ℕ). take i found ++ y) (sym none) ∙ f.so_far ∙ ap (λ (k : ℕ). starts k s 4) f.counted

      -- the array is the places and its zeros past them
      pub fill_ends : length s ≤ at → ((j : ℕ) → get_or s j 0 < 256) → Laid s record { tags = t; count = n; at = found ++ drop n (replicate 64 0) }
      fill_ends h bytes =
          let part : take n (found ++ drop n (replicate 64 0)) ≡ found = take_at found (drop n (replicate 64 0)) n f.long in
          record {
            counted = ap length part ∙ f.long;
            placed = rw (part, found_all) (placed s t c f.head (fine h) bytes);
            rest = drop-append-drop n (replicate 64 0) found n (omega arith) f.long ∙ drop-replicate n 64 0;
          }

-- a legal HEAD's places have room in the array
pub head_few : (s : List ℕ) (t c n : ℕ) → Ok (t, c) ≡ head_shown (head_of s) → n ≡ c → n ≤ 64
head_few s t c n e m = omega (arith, (head_taken s t c (head_counts _ t c e)).few)

pub head_room : (s : List ℕ) (t c n : ℕ) → Ok (t, c) ≡ head_shown (head_of s) → n ≡ c → length (take n (replicate {A = ℕ} 64 0)) ≡ n
head_room s t c n e m = length-take-le n (replicate 64 0) (rw (length-replicate {A = ℕ} 64 0) (head_few s t c n e m))
