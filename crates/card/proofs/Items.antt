-- What an item that the form pass goes past has said, and that such an item is gone past. Assumes nothing.
use Prim.Native.Nat.{ℕ, ◌+◌, ◌-◌, ◌<◌, ◌≤◌}
use native.Mathlib.Omega.{arith}
use mathlib.Core.Path.{◌≡◌, refl, sym, ap, ◌∙◌, subst}
use mathlib.Core.Bool.{false}
use mathlib.Core.List.{List}
use lib.ListN.{length, get_or}
use lib.Dec.{eqb}
use borrow.Author.Tests.{eq-eqb, eqb-true, eqb-false, leb-false, lt-leb, le-ltb, ltb-false}
use Rattle.ground.specs.Pick.{pick}
use Rattle.card.specs.Table.{Field}
use Rattle.card.specs.declared.form.Head.{Head}
use Rattle.card.specs.declared.form.Cursor.{Cursor}
use Rattle.std.proofs.Common.{Result, Ok, Err}
use Rattle.card.specs.declared.form.Kind.{Kind}
use Rattle.card.specs.declared.form.Kind.TheVariants.{Short, Rows}
use Rattle.card.specs.declared.form.Kind.TheVariants as kinds
use Rattle.card.specs.Form.{kind_fault, fault_of, if_fine, sit_step, row_step, move_step, set_step, body_step, step_form}
use Rattle.ground.proofs.Picks.{by_test}
use Rattle.card.proofs.Fields.{fields_told, fields_made}
use Rattle.card.proofs.Allowed.{Allowed, kind_told, kind_move, kind_set, kind_row, kind_sit, step_sit, step_row, step_move, step_set}

-- ---- the items, as the pass takes them

pub record SitHere (s : List ℕ) (h : Head) (f : Cursor) : Type 0 where
  pub kind : get_or s f.at 0 ≡ 0x22
  pub fits : f.at + 10 ≤ length s
  pub closed : f.lo ≡ 256
  pub more : f.begun < h.sits
  pub fields : (t : ℕ) → t < 8 → Field h.tags h.regs (get_or s (f.at + 1) 0) t (get_or s (f.at + 2 + t) 0)

pub record RowHere (s : List ℕ) (h : Head) (f : Cursor) : Type 0 where
  pub kind : get_or s f.at 0 ≡ 0x23
  pub fits : f.at + 4 ≤ length s
  pub begun : 0 < f.begun
  pub unclosed : f.lo ≡ 256 → ⊥
  pub up : get_or s (f.at + 1) 0 ≤ get_or s (f.at + 2) 0
  pub leads : get_or s (f.at + 3) 0 < h.sits
  pub joins : get_or s (f.at + 1) 0 ≡ f.lo

pub record MoveHere (s : List ℕ) (h : Head) (f : Cursor) : Type 0 where
  pub kind : get_or s f.at 0 ≡ 0x24
  pub fits : f.at + 3 ≤ length s
  pub begun : 0 < f.begun
  pub after : 0 < f.lo
  pub rises : f.low ≤ get_or s (f.at + 1) 0
  pub to : get_or s (f.at + 1) 0 < h.regs
  pub from : get_or s (f.at + 2) 0 < h.regs

pub record SetHere (s : List ℕ) (h : Head) (f : Cursor) : Type 0 where
  pub kind : get_or s f.at 0 ≡ 0x25
  pub fits : f.at + 2 ≤ length s
  pub after : 0 < f.lo
  pub rises : f.low ≤ get_or s (f.at + 1) 0
  pub to : get_or s (f.at + 1) 0 < h.regs

abbrev pub sit_past : Cursor → Cursor
sit_past f = record { at = f.at + 10; begun = f.begun + 1; lo = 0; low = 0 }

abbrev pub row_past : List ℕ → Cursor → Cursor
row_past s f = record { at = f.at + 4; begun = f.begun; lo = get_or s (f.at + 2) 0 + 1; low = 0 }

abbrev pub move_past : List ℕ → Cursor → Cursor
move_past s f = record { at = f.at + 3; begun = f.begun; lo = f.lo; low = get_or s (f.at + 1) 0 + 1 }

abbrev pub set_past : List ℕ → Cursor → Cursor
set_past s f = record { at = f.at + 2; begun = f.begun; lo = f.lo; low = get_or s (f.at + 1) 0 + 1 }

pub data Past (s : List ℕ) (h : Head) (f : Cursor) : Cursor → Type 0 where
  sat : SitHere s h f → Past s h f (sit_past f)
  rowed : RowHere s h f → Past s h f (row_past s f)
  moved : MoveHere s h f → Past s h f (move_past s f)
  put : SetHere s h f → Past s h f (set_past s f)

-- ---- what is gone past

module _ (s : List ℕ) (h : Head) (f : Cursor) where
  Told : Result Cursor Kind → Type 0
  Told (Ok g) = Past s h f g
  Told (Err kind) = Unit {0}

  bad : (kind : Kind) → Told (Err kind)
  unfolding Told
  bad kind = tt

  on : (g : Cursor) → Past s h f g → Told (Ok g)
  unfolding Told
  on g p = p

  module _ (a : Allowed (get_or s f.at 0) f.begun f.lo h.sits) where
    sit_told : get_or s f.at 0 ≡ 0x22 → Told (sit_step s h f)
    unfolding sit_step
    sit_told k =
        by_test Told _ _ _ (λ _. bad Short) (λ l. by_test Told _ _ _ (λ e.
        on _ (sat (record {
          kind = k;
          fits = let m = ltb-false (length s - f.at) 10 l in omega arith;
          closed = (a.sit k).0;
          more = (a.sit k).1;
          fields = fields_told s (f.at + 2) (get_or s (f.at + 1) 0) h.tags h.regs e;
        }))) (λ _. bad kinds.Field))

    row_told : get_or s f.at 0 ≡ 0x23 → Told (row_step s h f)
    unfolding row_step
    row_told k =
        by_test Told _ _ _ (λ _. bad Short) (λ l. by_test Told _ _ _ (λ _. bad kinds.Field) (λ u. by_test Told _ _ _ (λ _. bad kinds.Field) (λ n.
        by_test Told _ _ _ (λ j.
        on _ (rowed (record {
          kind = k;
          fits = let m = ltb-false (length s - f.at) 4 l in omega arith;
          begun = (a.row k).0;
          unclosed = (a.row k).1;
          up = ltb-false _ _ u;
          leads = leb-false _ _ n;
          joins = eqb-true _ _ j;
        }))) (λ _. bad Rows))))

    move_told : get_or s f.at 0 ≡ 0x24 → Told (move_step s h f)
    unfolding move_step
    move_told k =
        by_test Told _ _ _ (λ _. bad Short) (λ l. by_test Told _ _ _ (λ _. bad kinds.Field) (λ r. by_test Told _ _ _ (λ _. bad kinds.Field) (λ t.
        by_test Told _ _ _ (λ _. bad kinds.Field) (λ m.
        on _ (moved (record {
          kind = k;
          fits = let m = ltb-false (length s - f.at) 3 l in omega arith;
          begun = (a.move k).0;
          after = (a.move k).1;
          rises = ltb-false _ _ r;
          to = leb-false _ _ t;
          from = leb-false _ _ m;
        }))))))

    set_told : get_or s f.at 0 ≡ 0x25 → Told (set_step s h f)
    unfolding set_step
    set_told k =
        by_test Told _ _ _ (λ _. bad Short) (λ l. by_test Told _ _ _ (λ _. bad kinds.Field) (λ r. by_test Told _ _ _ (λ _. bad kinds.Field) (λ t.
        on _ (put (record {
          kind = k;
          fits = let m = ltb-false (length s - f.at) 2 l in omega arith;
          after = a.set k;
          rises = ltb-false _ _ r;
          to = leb-false _ _ t;
        })))))

    body_told : Told (body_step s h f)
    unfolding body_step
    body_told =
        by_test Told _ _ _ (λ k. sit_told (eqb-true _ _ k)) (λ x. by_test Told _ _ _ (λ k. row_told (eqb-true _ _ k)) (λ y.
        by_test Told _ _ _ (λ k. move_told (eqb-true _ _ k)) (λ z. set_told (last x y z))))
      where
        last : eqb (get_or s f.at 0) 0x22 ≡ false → eqb (get_or s f.at 0) 0x23 ≡ false → eqb (get_or s f.at 0) 0x24 ≡ false → get_or s f.at 0 ≡ 0x25
        last x y z =
            let x' = eqb-false (get_or s f.at 0) 0x22 x in
            let y' = eqb-false (get_or s f.at 0) 0x23 y in
            let z' = eqb-false (get_or s f.at 0) 0x24 z in
            omega (arith, a.least, a.most)

  step_told : Told (step_form s h f)
  unfolding step_form
  step_told = by (fault_of s h f) refl
    where
      by : (r : Result (Unit {0}) Kind) → fault_of s h f ≡ r → Told (if_fine r (body_step s h f))
      by (Ok u) e = body_told (kind_told _ _ _ _ e)
      by (Err k) e = bad k

  pub past_of : (g : Cursor) → step_form s h f ≡ Ok g → Past s h f g
  unfolding Told
  past_of g e = subst Told e step_told

  -- ---- and the other way

  sit_made : SitHere s h f → step_form s h f ≡ Ok (sit_past f)
  unfolding pick sit_step
  sit_made i =
      sym (step_sit s h f (ap (λ (k : ℕ). kind_fault k f.begun f.lo h.sits) i.kind ∙ kind_sit f.begun f.lo h.sits i.closed i.more) i.kind)
      ∙ simp (le-ltb (length s - f.at) 10 (omega (arith, i.fits)), fields_made s (f.at + 2) (get_or s (f.at + 1) 0) h.tags h.regs i.fields)

  row_made : RowHere s h f → step_form s h f ≡ Ok (row_past s f)
  unfolding pick row_step
  row_made i =
      sym (step_row s h f (ap (λ (k : ℕ). kind_fault k f.begun f.lo h.sits) i.kind ∙ kind_row f.begun f.lo h.sits i.begun i.unclosed) i.kind)
      ∙ simp (le-ltb (length s - f.at) 4 (omega (arith, i.fits)), le-ltb _ _ i.up, lt-leb _ _ i.leads, eq-eqb _ _ i.joins)

  move_made : MoveHere s h f → step_form s h f ≡ Ok (move_past s f)
  unfolding pick move_step
  move_made i =
      sym (step_move s h f (ap (λ (k : ℕ). kind_fault k f.begun f.lo h.sits) i.kind ∙ kind_move f.begun f.lo h.sits i.begun i.after) i.kind)
      ∙ simp (le-ltb (length s - f.at) 3 (omega (arith, i.fits)), le-ltb _ _ i.rises, lt-leb _ _ i.to, lt-leb _ _ i.from)

  set_made : SetHere s h f → step_form s h f ≡ Ok (set_past s f)
  unfolding pick set_step
  set_made i =
      sym (step_set s h f (ap (λ (k : ℕ). kind_fault k f.begun f.lo h.sits) i.kind ∙ kind_set f.begun f.lo h.sits i.after)
      (λ n. omega (arith, i.kind)) (λ n. omega (arith, i.kind)) (λ n. omega (arith, i.kind)))
      ∙ simp (le-ltb (length s - f.at) 2 (omega (arith, i.fits)), le-ltb _ _ i.rises, lt-leb _ _ i.to)

  pub step_past : (g : Cursor) → Past s h f g → step_form s h f ≡ Ok g
  step_past _ (sat i) = sit_made i
  step_past _ (rowed i) = row_made i
  step_past _ (moved i) = move_made i
  step_past _ (put i) = set_made i

  -- an item moves the place on, within the file
  pub past_on : (g : Cursor) → Past s h f g → (f.at < g.at) × (g.at ≤ length s)
  past_on _ (sat i) = (omega arith, i.fits)
  past_on _ (rowed i) = (omega arith, i.fits)
  past_on _ (moved i) = (omega arith, i.fits)
  past_on _ (put i) = (omega arith, i.fits)
