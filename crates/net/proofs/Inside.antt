-- Where the bytes of a placed record stand, and what record it is. Assumes nothing.
use mathlib.Core.Path.{◌≡◌, refl, sym, subst}
use mathlib.Core.Bool.{Bool, true, false, cond}
use mathlib.Core.List.{List, [], ◌∷◌, map}
use Prim.Native.Nat.{ℕ, zero, suc, ◌+◌, ◌≤◌, ◌<◌}
use native.Mathlib.Omega.{arith}
use lib.Dec.{eqb}
use lib.ListN.{length, get_or, length-map}
use Rattle.net.specs.Rec.{mask, rec}
use Rattle.net.specs.File.{Fits, Legal}
use Rattle.ground.specs.Lists.{Every}
use Rattle.ground.proofs.Every.{every_at, every_from}
use Rattle.net.specs.Items.{rec_at, net_at, size, starts, got, item_at, Placed}
use Rattle.net.proofs.Whole.{Stands, kind_known, reads_from, net_head, item_got}

get_or_map : {A B : Type 0} (f : A → B) (l : List A) (i : ℕ) (d : A) (e : B) → i < length l → get_or (map f l) i e ≡ f (get_or l i d)
get_or_map f [] i d e h = absurd (omega arith)
get_or_map f (x ∷ l) zero d e h = refl
get_or_map f (x ∷ l) (suc i) d e h = get_or_map f l i d e (omega arith)

pub net_length : (s offs : List ℕ) → length (net_at s offs) ≡ length offs
unfolding net_at
net_length s offs = length-map offs (rec_at s)

pub rec_net : (s offs : List ℕ) (r : ℕ) → r < length offs → rec (net_at s offs) r ≡ rec_at s (get_or offs r 0)
unfolding net_at
rec_net s offs r h = get_or_map (rec_at s) offs r 0 (mask [] 0) h

size_two : (k : ℕ) → 2 ≤ size k
size_two k = by (eqb k 17) (eqb k 18) (eqb k 21)
  where
    by : (a b c : Bool) → 2 ≤ cond a 4 (cond b 34 (cond c 2 3))
    by true b c = omega arith
    by false true c = omega arith
    by false false true = omega arith
    by false false false = omega arith

module _ {s : List ℕ} {tags : ℕ} {offs : List ℕ} (w : Placed s tags offs) where
  module _ (r : ℕ) (b : r < length offs) where
    pub kind_in : get_or offs r 0 + 1 < length s
    kind_in = omega (arith, w.whole r b, size_two (get_or s (get_or offs r 0) 0))

    pub body_in : (k : ℕ) → get_or s (get_or offs r 0) 0 ≡ k → get_or offs r 0 + size k ≤ length s
    body_in k e = rw e at (w.whole r b)

    pub rec_inside : Fits tags (length offs) (rec (net_at s offs) r)
    rec_inside = rw (rec_net s offs r b) (w.inside r b)

  pub placed_stands : Every (Stands s tags (length offs)) offs
  placed_stands =
      let l = net_length s offs in
      let h = net_head s tags (net_at s offs) w.reads in
      let r : Every (Stands s tags (length offs)) (starts (length offs) s 4) = rw l at (reads_from s tags (length (net_at s offs)) (length (net_at s offs)) 4 h.fine).stand in
      subst (Every (Stands s tags (length offs))) (sym w.follow) r

  module _ (r : ℕ) (b : r < length offs) where
    pub stands : Stands s tags (length offs) (get_or offs r 0)
    stands = every_at (Stands s tags (length offs)) offs placed_stands 0 r b

    pub item_there : item_at s (get_or offs r 0) tags (length offs) ≡ got (rec_at s (get_or offs r 0)) (get_or offs r 0 + size (get_or s (get_or offs r 0) 0))
    item_there =
        let t = stands in
        item_got s (get_or offs r 0) tags (length offs) (get_or s (get_or offs r 0) 0) (rec_at s (get_or offs r 0)) refl (kind_known t.kind) (omega (arith, kind_in r b)) t.whole refl t.ranged

  pub placed_legal : Legal tags (net_at s offs)
  placed_legal =
      let l = net_length s offs in
      record {
        few_tags = w.few_tags;
        some = rw l w.some;
        few = rw l w.few;
        fits = rw l (every_from (Fits tags (length offs)) (net_at s offs) (mask [] 0) (λ r b. rec_inside r (omega arith)));
      }
