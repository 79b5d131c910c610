-- Bytes written one part after another. Assumes nothing.
use Rattle.std.proofs.Common.{◌≡◌, ℕ, ◌+◌, ◌<◌, ◌≤◌, List, [], ◌∷◌, ◌++◌, length, get_or, drop, refl, sym, ap, ◌∙◌, subst, arith, add-one, length-append}
use lib.ListN.{set}
use lib.Seq.{set_out, drop-cons}
use Rattle.std.proofs.lemmas.List.Edits.{sets}
use Rattle.ground.specs.Lists.{Wrote}
use Rattle.ground.proofs.Stores.{sets_append}
use Rattle.ground.proofs.Stores as stores
use Rattle.build.specs.Writing.{Writes}
use Rattle.build.specs.declared.Pen.{Pen}

pub writes_then : {p p' p'' : Pen} {xs ys : List ℕ} → Writes p p' xs → Writes p' p'' ys → Writes p p'' (xs ++ ys)
writes_then {xs = xs} {ys} v w = record { same = w.same ∙ v.same; wrote = stores.wrote_then xs ys v.wrote w.wrote }

pub writes_as : {p p' : Pen} {xs ys : List ℕ} → Writes p p' xs → xs ≡ ys → Writes p p' ys
writes_as {p} {p'} w e = subst (Writes p p') e w

-- what the pen lent is given back as the pen left it
pub handed : {p p' : Pen} {bs x : List ℕ} → Writes p p' bs → (p.out.ghost_name ≡ p'.out.ghost_name → x ≡ p'.out.now) → Wrote p.out.now x p.at p'.at bs
handed {p} {p'} {bs} w h = subst (λ v. Wrote p.out.now v p.at p'.at bs) (sym (h (sym w.same))) w.wrote

-- what is left to write, and what will then have been written
pub record Left (p₀ : Pen) (all : List ℕ) (p : Pen) (bs : List ℕ) : Type 0 where
  pub same : p.out.ghost_name ≡ p₀.out.ghost_name
  pub out : sets p.out.now p.at bs ≡ sets p₀.out.now p₀.at all
  pub end : p.at + length bs ≡ p₀.at + length all

pub left_all : (p : Pen) (all : List ℕ) → Left p all p all
left_all p all = record { same = refl; out = refl; end = refl }

module _ {p₀ : Pen} {all : List ℕ} {p : Pen} where
  pub left_on : {bs xs ys : List ℕ} → Left p₀ all p bs → bs ≡ xs ++ ys → {p' : Pen} → Writes p p' xs → Left p₀ all p' ys
  left_on {bs} {xs} {ys} h e v =
      let w = v.wrote in
      record {
        same = v.same ∙ h.same;
        out = (λ k. sets (w.held k) (w.on k) ys) ∙ sets_append xs ys p.out.now p.at ∙ ap (sets p.out.now p.at) (sym e) ∙ h.out;
        end = omega (arith, h.end, w.on, ap length e, length-append xs ys);
      }

  pub left_none : {bs : List ℕ} → Left p₀ all p bs → bs ≡ [] → Writes p₀ p all
  left_none {bs} h e = record { same = h.same; wrote = record { held = ap (sets p.out.now p.at) (sym e) ∙ h.out; on = omega (arith, h.end, ap length e) } }

  pub left_last : {bs : List ℕ} → Left p₀ all p bs → {p' : Pen} → Writes p p' bs → Writes p₀ p' all
  left_last {bs} h v = let w = v.wrote in record { same = v.same ∙ h.same; wrote = record { held = w.held ∙ h.out; on = omega (arith, h.end, w.on) } }

pub byte_here : (l : List ℕ) (i : ℕ) → i < length l → drop i l ≡ (get_or l i 0 ∷ []) ++ drop (i + 1) l
byte_here l i b = drop-cons l i 0 b ∙ ap (λ v. get_or l i 0 ∷ drop v l) (sym (add-one i))

-- one byte, where there is room and where there is none
pub wrote_one : (o : List ℕ) (at v : ℕ) → Wrote o (set o at v) at (at + 1) (v ∷ [])
wrote_one o at v = record { held = refl; on = refl }

pub wrote_past : (o : List ℕ) (at v : ℕ) → length o ≤ at → Wrote o o at (at + 1) (v ∷ [])
wrote_past o at v h = record { held = sym (set_out o at v h); on = refl }
