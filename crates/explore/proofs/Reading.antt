-- What is asked of the record at an offset, by its kind. Assumes nothing.
use mathlib.Core.Path.{◌≡◌, refl, sym, ap, ◌∙◌}
use mathlib.Core.Bool.{Bool, true, false, cond, ◌&&◌}
use mathlib.Core.List.{List, [], ◌∷◌}
use Prim.Native.Nat.{ℕ, ◌+◌, ◌/◌, ◌%◌, ◌^◌, ◌<◌}
use native.Mathlib.Omega.{arith}
use lib.Dec.{eqb, leb}
use lib.ListN.{length, get_or, take, drop}
use lib.Seq.{get_or-take, get_or-drop}
use Rattle.std.specs.Prelude.{Option, Some, None}
use Rattle.std.proofs.lemmas.Bool.Decides.{nat_tests}
use Rattle.net.specs.Rec.{Rec, range, mask, fork, tag, end, rec, bit}
use Rattle.paths.specs.Ways.{eat}
use Rattle.paths.specs.Situation.{bite}
use Rattle.net.specs.Items.{rec_at, net_at}
use Rattle.explore.specs.Items.{Inside, Formed, lands}
use Rattle.net.proofs.Inside.{rec_net}
use Rattle.explore.specs.Onward.{onward_of, closing_of}
use Rattle.explore.specs.declared.Onward.TheVariants.{Stay, Both, Store}

-- what a function says of the record at a place
module _ {X : Type 0} (g : Rec → X) (f offs : List ℕ) (r : ℕ) (b : r < length offs) where
  by_kind : (at : ℕ) → at ≡ get_or offs r 0
      → g (rec (net_at f offs) r) ≡ cond (eqb (get_or f at 0) 17) (g (range (get_or f (at + 1) 0) (get_or f (at + 2) 0) (get_or f (at + 3) 0)))
      (cond (eqb (get_or f at 0) 18) (g (mask (take 32 (drop (at + 1) f)) (get_or f (at + 33) 0)))
      (cond (eqb (get_or f at 0) 19) (g (fork (get_or f (at + 1) 0) (get_or f (at + 2) 0)))
      (cond (eqb (get_or f at 0) 20) (g (tag (get_or f (at + 1) 0) (get_or f (at + 2) 0))) (g (end (get_or f (at + 1) 0))))))
  unfolding rec_at
  by_kind at e =
      ap g (rec_net f offs r b) ∙ ap (λ a. g (rec_at f a)) (sym e)
      ∙ by (eqb (get_or f at 0) 17) (eqb (get_or f at 0) 18) (eqb (get_or f at 0) 19) (eqb (get_or f at 0) 20) _ _ _ _ _
    where
      by : (p q s t : Bool) (u v w x y : Rec) → g (cond p u (cond q v (cond s w (cond t x y)))) ≡ cond p (g u) (cond q (g v) (cond s (g w) (cond t (g x) (g y))))
      by true q s t u v w x y = refl
      by false true s t u v w x y = refl
      by false false true t u v w x y = refl
      by false false false true u v w x y = refl
      by false false false false u v w x y = refl

module _ (f offs : List ℕ) (r : ℕ) (b : r < length offs) where
  pub onward_is : onward_of (rec (net_at f offs) r) ≡ cond (eqb (get_or f (get_or offs r 0) 0) 19) (Both (get_or f (get_or offs r 0 + 1) 0) (get_or f (get_or offs r 0 + 2) 0))
      (cond (eqb (get_or f (get_or offs r 0) 0) 20) (Store (get_or f (get_or offs r 0 + 1) 0) (get_or f (get_or offs r 0 + 2) 0)) Stay)
  onward_is = by_kind onward_of f offs r b (get_or offs r 0) refl ∙ grind (arith, nat_tests)

  pub closing_is : closing_of (rec (net_at f offs) r) ≡ cond (leb 17 (get_or f (get_or offs r 0) 0) && leb (get_or f (get_or offs r 0) 0) 20) None (Some (get_or f (get_or offs r 0 + 1) 0))
  closing_is = by_kind closing_of f offs r b (get_or offs r 0) refl ∙ grind (arith, nat_tests)

  landing : (b n : ℕ) (p : Bool) → lands (cond p ((eat b, n) ∷ []) []) ≡ cond p (Some n) None
  landing b n true = refl
  landing b n false = refl

  pub bite_is : (c : ℕ) → c < 256 → lands (bite c (rec (net_at f offs) r)) ≡ cond (eqb (get_or f (get_or offs r 0) 0) 17)
      (cond (leb (get_or f (get_or offs r 0 + 1) 0) c && leb c (get_or f (get_or offs r 0 + 2) 0)) (Some (get_or f (get_or offs r 0 + 3) 0)) None)
      (cond (eqb (get_or f (get_or offs r 0) 0) 18) (cond (eqb (get_or f (get_or offs r 0 + 1 + c / 8) 0 / 2 ^ (c % 8) % 2) 1) (Some (get_or f (get_or offs r 0 + 33) 0)) None) None)
  bite_is c small =
      let a = get_or offs r 0 in
      let s : c / 8 < 32 = omega arith in
      let w : get_or (take 32 (drop (a + 1) f)) (c / 8) 0 ≡ get_or f (a + 1 + c / 8) 0 = get_or-take 32 (drop (a + 1) f) (c / 8) 0 s ∙ get_or-drop (a + 1) f (c / 8) 0 in
      let p = landing c (get_or f (a + 3) 0) (leb (get_or f (a + 1) 0) c && leb c (get_or f (a + 2) 0)) in
      let q = landing c (get_or f (a + 33) 0) (eqb (bit (take 32 (drop (a + 1) f)) c) 1) ∙ ap (λ v. cond (eqb (v / 2 ^ (c % 8) % 2) 1) (Some (get_or f (a + 33) 0)) None) w in
      by_kind (λ x. lands (bite c x)) f offs r b a refl ∙ (λ i. cond (eqb (get_or f a 0) 17) (p i) (cond (eqb (get_or f a 0) 18) (q i) (cond (eqb (get_or f a 0) 19) None (cond (eqb (get_or f a 0) 20) None None)))) ∙ rest (eqb (get_or f a 0) 17) (eqb (get_or f a 0) 18) (eqb (get_or f a 0) 19) (eqb (get_or f a 0) 20) _ _
    where
      rest : (p q s t : Bool) (x y : Option ℕ) → cond p x (cond q y (cond s None (cond t None None))) ≡ cond p x (cond q y None)
      rest true q s t x y = refl
      rest false true s t x y = refl
      rest false false true t x y = refl
      rest false false false true x y = refl
      rest false false false false x y = refl

-- its numbers are in range
pub net_inside : {f offs : List ℕ} (w : Formed f offs) (r : ℕ) → r < length offs → Inside (length offs) (rec (net_at f offs) r)
net_inside {f} {offs} w r b = rw (rec_net f offs r b) (w.inside r b)
