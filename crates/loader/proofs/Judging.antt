-- The loader's judgement: how it is made, and that there is one. Assumes nothing.
use mathlib.Core.Path.{◌≡◌, refl, sym, ap, ap₂, ◌∙◌, subst}
use mathlib.Core.Bool.{Bool, true, false}
use mathlib.Core.List.{List}
use Prim.Native.Nat.{ℕ}
use native.Mathlib.Omega.{arith}
use Rattle.std.specs.Prelude.{Result}
use Rattle.answers.specs.Refusals.{number_of}
use Rattle.answers.specs.declared.Refusal.{Refusal}
use Rattle.answers.proofs.Refusals.{number_one}
use Rattle.loader.specs.declared.Judgement.{Judgement}
use Rattle.card.specs.Table.{Table, bytes_of, Formed}
use Rattle.card.specs.Run.{Line, Stuck}
use Rattle.card.specs.Judged.{Judged, taken, malformed, empty_read}
use Rattle.card.specs.Decode.{table_at}
use Rattle.card.proofs.Decoded.{bytes_one, reads_as}
use Rattle.card.specs.Places.{noted}
use Rattle.card.specs.FormOk.{FormOk}
use Rattle.card.proofs.Situations.{noted_at}
use Rattle.ground.specs.Pick.{pick}
use lib.ListN.{get_or, replicate}
use borrow.Author.Tests.{ne_eqb}
use Rattle.loader.specs.Flow.{EmptyRead, Ready}
use Rattle.loader.specs.Judges.{places_for, Judges}
use Rattle.loader.proofs.Situated.{table_long}

-- ---- how it is made

module _ {s : List ℕ} (formed : Formed (table_at s)) (written : s ≡ bytes_of (table_at s)) where
  pub judge_loud : EmptyRead (table_at s) → Judged s 14
  judge_loud e = empty_read (table_at s) formed written e.0 e.1.0 e.1.1

  pub judge_quiet : (EmptyRead (table_at s) → ⊥) → Judged s 0
  judge_quiet none = taken (table_at s) formed written (λ w l k. none (w, (l, k)))

-- ---- with the places of the situations

placed_not : (s : List ℕ) (c : ℕ) → (c ≡ 13 → ⊥) → noted (replicate 96 0) s ≡ places_for c s
unfolding pick places_for
placed_not s c n = sym (ap (λ (b : Bool). pick b (replicate 96 0) (noted (replicate 96 0) s)) (ne_eqb c 13 n))

module _ {s : List ℕ} where
  pub judges_malformed : {b : Bool} → FormOk s b → b ≡ false → Judges s 13 (replicate 96 0)
  unfolding pick places_for
  judges_malformed f e = record { judged = malformed (f.wrong e); placed = refl }

  module _ {b : Bool} (f : FormOk s b) (e : b ≡ true) {p : List ℕ} (n : p ≡ noted (replicate 96 0) s) where
    pub judges_ready : Ready s p
    judges_ready = record {
      formed = (f.right e).0;
      placed = λ q l.
          ap (λ (x : List ℕ). get_or x q 0) n
          ∙ noted_at (replicate 96 0) s q l (let m = (f.right e).0.most in omega (arith, table_long s));
    }

    pub judges_loud : EmptyRead (table_at s) → Judges s 14 p
    judges_loud k = record { judged = judge_loud (f.right e).0 (f.right e).1 k; placed = n ∙ placed_not s 14 (λ z. omega arith) }

    pub judges_quiet : (EmptyRead (table_at s) → ⊥) → Judges s 0 p
    judges_quiet k = record { judged = judge_quiet (f.right e).0 (f.right e).1 k; placed = n ∙ placed_not s 0 (λ z. omega arith) }

-- ---- what it says of the table

pub not_stuck : {s : List ℕ} → Judged s 0 → (T : Table) → Formed T → s ≡ bytes_of T → (w : List ℕ) → Line w → Stuck T w → ⊥
not_stuck {s} j T f e w l k = by 0 refl j
  where
    by : (c : ℕ) → c ≡ 0 → Judged s c → ⊥
    by _ z (taken U g d n) = n w l (subst (λ (X : Table). Stuck X w) (bytes_one T U f g (sym e ∙ d)) k)
    by _ z (malformed n) = omega arith
    by _ z (empty_read U g d v m h) = omega arith

pub is_formed : {s : List ℕ} → Judged s 0 → Formed (table_at s) × (s ≡ bytes_of (table_at s))
is_formed {s} j = by 0 refl j
  where
    by : (c : ℕ) → c ≡ 0 → Judged s c → Formed (table_at s) × (s ≡ bytes_of (table_at s))
    by _ z (taken U g d n) = let e = reads_as s U g d in (subst Formed e g, d ∙ ap bytes_of e)
    by _ z (malformed n) = absurd (omega arith)
    by _ z (empty_read U g d v m h) = absurd (omega arith)

-- the places of a table that is taken
pub is_ready : {s p : List ℕ} → Judges s 0 p → Ready s p
is_ready {s} j = record {
  formed = (is_formed j.judged).0;
  placed = λ q l.
      ap (λ (x : List ℕ). get_or x q 0) (j.placed ∙ sym (placed_not s 0 (λ z. omega arith)))
      ∙ noted_at (replicate 96 0) s q l (let m = (is_formed j.judged).0.most in omega (arith, table_long s));
}

-- ---- there is one

pub judged_one : {s : List ℕ} {a b : ℕ} → Judged s a → Judged s b → a ≡ b
judged_one (taken T f d n) (taken U g e m) = refl
judged_one (taken T f d n) (malformed m) = absurd (m T f d)
judged_one (taken T f d n) (empty_read U g e w l k) = absurd (n w l (subst (λ (X : Table). Stuck X w) (bytes_one U T g f (sym e ∙ d)) k))
judged_one (malformed n) (taken U g e m) = absurd (n U g e)
judged_one (malformed n) (malformed m) = refl
judged_one (malformed n) (empty_read U g e w l k) = absurd (n U g e)
judged_one (empty_read T f d w l k) (taken U g e m) = absurd (m w l (subst (λ (X : Table). Stuck X w) (bytes_one T U f g (sym d ∙ e)) k))
judged_one (empty_read T f d w l k) (malformed m) = absurd (m T f d)
judged_one (empty_read T f d w l k) (empty_read U g e v m h) = refl

pub judges_one : {s p u : List ℕ} {a b : ℕ} → Judges s a p → Judges s b u → (a ≡ b) × (p ≡ u)
judges_one {s} j k =
    let e = judged_one j.judged k.judged in
    (e, j.placed ∙ ap (λ (c : ℕ). places_for c s) e ∙ sym k.placed)

-- a second judgement that meets the promise of `judge` is equal
pub judge_one : (s : List ℕ) (a b : Judgement) → Judges s (number_of a.verdict) a.places → Judges s (number_of b.verdict) b.places → a ≡ b
judge_one s a b j k =
    let o = judges_one j k in
    ap₂ (λ (x : Result (Unit {0}) Refusal) (y : List ℕ). record { verdict = x; places = y }) (number_one a.verdict b.verdict o.0) o.1
