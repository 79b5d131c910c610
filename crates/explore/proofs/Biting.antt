-- What a byte does at a record, and over a list. Assumes nothing.
use mathlib.Core.Path.{◌≡◌, refl, sym, ap, ◌∙◌, subst}
use mathlib.Core.Bool.{Bool, true, false, ◌&&◌, cond}
use mathlib.Core.List.{List, [], ◌∷◌, ◌++◌, foldl, append-nil}
use Prim.Native.Nat.{ℕ, zero, suc, ◌+◌, ◌*◌, ◌<◌}
use native.Mathlib.Omega.{arith}
use lib.Dec.{eqb, leb}
use lib.ListN.{length, get_or, set, replicate, length-set}
use lib.Seq.{get_or-set_same}
use Rattle.std.specs.Prelude.{Some, None}
use Rattle.std.proofs.lemmas.Option.{none-some, same_Some}
use Rattle.ground.proofs.Lists.{each_append}
use Rattle.net.specs.Rec.{Rec, range, mask, fork, tag, end, Net, rec, bit}
use Rattle.paths.specs.Ways.{Move, eat}
use Rattle.ground.specs.Lists.{each}
use Rattle.paths.specs.Search.{Thread}
use Rattle.paths.specs.Situation.{bite, on_byte}
use Rattle.paths.specs.Registers.{Tags, tagged, step}
use Rattle.paths.specs.Marks.{Marked, marking, marked_close}
use Rattle.paths.proofs.Marking.{marked_right}
use Rattle.net.specs.Items.{net_at}
use Rattle.net.proofs.Inside.{net_length}
use Rattle.explore.specs.Items.{Inside, Formed, lands}
use Rattle.explore.specs.States.{Below, thread_of}
use Rattle.explore.specs.Slots.{thread_at, threads_at, slot, Fit}
use Rattle.explore.specs.Visit.{Ready, Means}
use Rattle.explore.specs.declared.Entry.{Entry}
use Rattle.explore.proofs.Reading.{net_inside}
use Rattle.explore.proofs.Bits.{foldl_append}
use Rattle.explore.proofs.Memory.{threads_snoc, slot_first}
use Rattle.explore.proofs.Going.{new_means}

abbrev pick : ℕ → ℕ → Bool → List (Move × ℕ)
pick b n k = cond {A = List (Move × ℕ)} k ((eat b, n) ∷ []) []

pick_some : (b n x : ℕ) (k : Bool) → Some x ≡ lands (pick b n k) → (pick b n k ≡ (eat b, x) ∷ []) × (n ≡ x)
pick_some b n x true e = let q = same_Some n x (sym e) in (ap (λ v. (eat b, v) ∷ []) q, q)
pick_some b n x false e = absurd (none-some x (sym e))

pick_none : (b n : ℕ) (k : Bool) → None ≡ lands (pick b n k) → pick b n k ≡ []
pick_none b n true e = absurd (none-some n e)
pick_none b n false e = refl

pub bite_some : (N b x : ℕ) (c : Rec) → Inside N c → Some x ≡ lands (bite b c) → (bite b c ≡ (eat b, x) ∷ []) × (x < N)
bite_some N b x (range lo hi n) i e = let s = pick_some b n x (leb lo b && leb b hi) e in (s.0, subst (λ v. v < N) s.1 i)
bite_some N b x (mask bits n) i e = let s = pick_some b n x (eqb (bit bits b) 1) e in (s.0, subst (λ v. v < N) s.1 i)
bite_some N b x (fork p q) i e = absurd (none-some x (sym e))
bite_some N b x (tag t n) i e = absurd (none-some x (sym e))
bite_some N b x (end a) i e = absurd (none-some x (sym e))

pub bite_none : (b : ℕ) (c : Rec) → None ≡ lands (bite b c) → bite b c ≡ []
bite_none b (range lo hi n) e = pick_none b n (leb lo b && leb b hi) e
bite_none b (mask bits n) e = pick_none b n (eqb (bit bits b) 1) e
bite_none b (fork p q) e = refl
bite_none b (tag t n) e = refl
bite_none b (end a) e = refl

module _ (k : ℕ) (A : Net) (b : ℕ) (e : Entry) where
  pub eats_none : bite b (rec A e.on) ≡ [] → on_byte (tagged k) A b (thread_of e) ≡ []
  unfolding on_byte thread_of
  eats_none q = rw q

  pub eats_one : {x : ℕ} → bite b (rec A e.on) ≡ (eat b, x) ∷ [] → (a : Entry) → a.on ≡ x → a.had ≡ e.had → on_byte (tagged k) A b (thread_of e) ≡ thread_of a ∷ []
  unfolding on_byte thread_of
  eats_one q a p1 p2 = rw (q, p1, p2)

pub ate_in : {F offs : List ℕ} (w : Formed F offs) (b r x : ℕ) → r < length offs → Some x ≡ lands (bite b (rec (net_at F offs) r)) → x < length offs
ate_in {F} {offs} w b r x on z = (bite_some (length offs) b x (rec (net_at F offs) r) (net_inside w r on) z).1

-- the two ways through `consume`
module _ {F offs : List ℕ} (w : Formed F offs) (k b : ℕ) (e : Entry) (on : e.on < length offs) (M : List Bool) (l : List ℕ) (c : ℕ) where
  pub ate_none : None ≡ lands (bite b (rec (net_at F offs) e.on)) → (m : Marked Tags) → Means M l c m → Means M l c (foldl (marking (tagged k) (net_at F offs) (suc (length (net_at F offs)))) m (on_byte (tagged k) (net_at F offs) b (thread_of e)))
  ate_none z m h = let q = eats_none k (net_at F offs) b e (bite_none b (rec (net_at F offs) e.on) z) in rw q h

  module _ (x : ℕ) (z : Some x ≡ lands (bite b (rec (net_at F offs) e.on))) (a : Entry) (p1 : a.on ≡ x) (p2 : a.had ≡ e.had) where
    pub ate_one : (M1 : List Bool) (l1 : List ℕ) (c1 : ℕ) → ((m : Marked Tags) → Means M l c m → Means M1 l1 c1 (marking (tagged k) (net_at F offs) (length offs + 1) m (thread_of a)))
        → (m : Marked Tags) → Means M l c m → Means M1 l1 c1 (foldl (marking (tagged k) (net_at F offs) (suc (length (net_at F offs)))) m (on_byte (tagged k) (net_at F offs) b (thread_of e)))
    ate_one M1 l1 c1 ih m h =
        let q = eats_one k (net_at F offs) b e (bite_some (length offs) b x (rec (net_at F offs) e.on) (net_inside w e.on on) z).0 a p1 p2 in
        let n : suc (length (net_at F offs)) ≡ length offs + 1 = omega (arith, net_length F offs) in
        rw (q, n) (ih m h)

-- over a list
-- one thread more
pub means_more : (k : ℕ) (A : Net) (b : ℕ) (l : List ℕ) (i : ℕ) (e : Entry) → thread_of e ≡ thread_at l (2 + 9 * i) → {M : List Bool} {w : List ℕ} {n : ℕ}
    → Means M w n (foldl (marking (tagged k) A (suc (length A))) (foldl (marking (tagged k) A (suc (length A))) (record { marks = []; list = [] }) (each (on_byte (tagged k) A b) (threads_at l 2 i))) (on_byte (tagged k) A b (thread_of e)))
    → Means M w n (foldl (marking (tagged k) A (suc (length A))) (record { marks = []; list = [] }) (each (on_byte (tagged k) A b) (threads_at l 2 (i + 1))))
means_more k A b l i e at {M} {w} {n} h = subst (λ v. Means M w n v) (sym (ap (λ v. foldl g z (each f v)) (threads_snoc l 2 i) ∙ ap (foldl g z) split ∙ foldl_append g z (each f (threads_at l 2 i)) (f (thread_of e)))) h
  where
    g : Marked Tags → Thread Tags → Marked Tags
    g = marking (tagged k) A (suc (length A))

    z : Marked Tags
    z = record { marks = []; list = [] }

    f : Thread Tags → List (Thread Tags)
    f = on_byte (tagged k) A b

    split : each f (threads_at l 2 i ++ (thread_at l (2 + 9 * i) ∷ [])) ≡ each f (threads_at l 2 i) ++ f (thread_of e)
    split = each_append f (threads_at l 2 i) (thread_at l (2 + 9 * i) ∷ []) ∙ ap (λ v. each f (threads_at l 2 i) ++ v) (append-nil (f (thread_at l (2 + 9 * i))) ∙ ap f (sym at))

below_thread : (N : ℕ) (w : List ℕ) (a n i : ℕ) → i < n → Below N (threads_at w a n) → (thread_at w (a + 9 * i)).on < N
unfolding threads_at
below_thread N w a zero i b h = absurd (omega arith)
below_thread N w a (suc n) zero b h = let z : a ≡ a + 9 * 0 = omega arith in subst (λ v. (thread_at w v).on < N) z h.0
below_thread N w a (suc n) (suc i) b h = let z : a + 9 + 9 * i ≡ a + 9 * suc i = omega arith in subst (λ v. (thread_at w v).on < N) z (below_thread N w (a + 9) n i (omega arith) h.1)

pub below_at : (N : ℕ) (w : List ℕ) (i : ℕ) (e : Entry) → i < get_or w 0 0 → Below N (slot w 0) → thread_of e ≡ thread_at w (2 + 9 * i) → e.on < N
unfolding slot thread_of
below_at N w i e b h at = subst (λ v. v.on < N) (sym at) (below_thread N w 2 (get_or w 0 0) i b h)

-- no thread yet
pub means_none : (k : ℕ) (A : Net) (b : ℕ) (l w : List ℕ) → Means (replicate 64 false) w 0 (foldl (marking (tagged k) A (suc (length A))) (record { marks = []; list = [] }) (each (on_byte (tagged k) A b) (threads_at l 2 0)))
unfolding threads_at
means_none k A b l w = new_means w

-- the end of `sweep`
pub swept : (k : ℕ) (A : Net) (b : ℕ) (s : List ℕ) (M : List Bool) (l : List ℕ) (c i : ℕ) → i ≡ get_or s 0 0
    → Means M l c (foldl (marking (tagged k) A (suc (length A))) (record { marks = []; list = [] }) (each (on_byte (tagged k) A b) (threads_at s 2 i)))
    → threads_at l 2 c ≡ step A k b (slot s 0)
unfolding slot step marked_close
swept k A b s M l c i z h =
    h.list
    ∙ ap (λ j. (foldl (marking (tagged k) A (suc (length A))) (record { marks = []; list = [] }) (each (on_byte (tagged k) A b) (threads_at s 2 j))).list) z
    ∙ ap (λ v. v.list) (marked_right (tagged k) A (each (on_byte (tagged k) A b) (threads_at s 2 (get_or s 0 0))))

-- the list of `visit`, with its count
pub counted_fit : (N : ℕ) (M : List Bool) (w : List ℕ) (n : ℕ) → Ready N M w n → Fit N (set w 0 n)
counted_fit N M w n h =
    record {
      size = length-set w 0 n ∙ h.size;
      few = omega (arith, get_or-set_same w 0 n 0 (omega (arith, h.size)), h.room, h.few);
      below = rw (slot_first w n h.size) h.below;
    }
