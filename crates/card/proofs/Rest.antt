-- The form pass takes a file exactly if it is what a formed table is written as: from each cursor on, what is left of a
-- table that is written there. Assumes nothing.
use Prim.Native.Nat.{ℕ, zero, suc, ◌+◌, ◌<◌, ◌≤◌}
use native.Mathlib.Omega.{arith}
use native.Mathlib.Numerals.{add-one}
use mathlib.Core.Path.{◌≡◌, refl, sym, ap, ◌∙◌, subst}
use mathlib.Core.Logic.{⊎_elim}
use mathlib.Core.Bool.{Bool, true, false}
use mathlib.Core.List.{List, [], ◌∷◌, ◌++◌, append_assoc}
use lib.ListN.{length, get_or, take, drop, take-append-drop, drop_of_length-le, length-drop, length-append, get_or-append}
use lib.Seq.{drop-drop, drop_at, get_or-take, get_or-drop, length-take-le}
use native.Mathlib.Nat.{eq-zero-or-pos}
use Rattle.ground.specs.Lists.{each}
use Rattle.ground.specs.Pick.{pick}
use Rattle.card.specs.Table.{Cmd, move, put, Row, Sit, cmd_bytes, row_bytes, sit_bytes, Rising, Sets, Upward, Field, FormedSits}
use Rattle.card.specs.declared.form.Head.{Head}
use Rattle.card.specs.declared.form.Cursor.{Cursor}
use Rattle.std.proofs.Common.{Result, Ok, Err}
use Rattle.card.specs.declared.form.Kind.{Kind}
use Rattle.card.specs.declared.form.Kind.TheVariants.{Short}
use Rattle.card.specs.declared.form.Fault.{Fault}
use Rattle.card.specs.Form.{step_form, begin, whole, end_form, onward, form_from}
use Rattle.ground.proofs.Tests.{lt_or_le}
use Rattle.ground.proofs.Lists.{two_there, three_there, four_there, first_here, byte_here, left_here, later_here}
use Rattle.card.proofs.Allowed.{whole_told, whole_made}
use Rattle.card.proofs.Items as items
use Rattle.card.proofs.Items.{SitHere, RowHere, MoveHere, SetHere, Past, past_of, step_past, past_on, sit_past, row_past, move_past, set_past}
use Rattle.card.proofs.Passing.{from_item, from_end}

-- what is left of a table where the pass stands: commands of the open list, rows of the open situation, situations
pub record Rest (h : Head) (f : Cursor) (b : List ℕ) : Type 0 where
  pub cmds : List Cmd
  pub rows : List Row
  pub sits : List Sit
  pub bytes : b ≡ each cmd_bytes cmds ++ (each row_bytes rows ++ each sit_bytes sits)
  pub rising : Rising h.regs f.low cmds
  pub sets : f.begun ≡ 0 → Sets cmds
  pub after : f.lo ≡ 0 → cmds ≡ []
  pub upward : Upward h.regs h.sits f.lo rows
  pub count : f.begun + length sits ≡ h.sits
  pub formed : FormedSits h.tags h.regs h.sits sits

-- no row follows the one to 255
pub closed_rows : (R N lo : ℕ) (l : List Row) → lo ≡ 256 → Upward R N lo l → l ≡ []
closed_rows R N lo [] e u = refl
closed_rows R N lo (r ∷ l) e u = absurd (omega arith)

-- ---- what a taken item leaves is what stood before it, less the item

module _ (s : List ℕ) (h : Head) (f : Cursor) (small : (i : ℕ) → get_or s i 0 < 256) where
  move_back : MoveHere s h f → Rest h (move_past s f) (drop (f.at + 3) s) → Rest h f (drop f.at s)
  move_back i r =
      record {
        cmds = move (get_or s (f.at + 1) 0) (get_or s (f.at + 2) 0) ∷ r.cmds;
        rows = r.rows;
        sits = r.sits;
        bytes =
            three_there s f.at i.fits
            ∙ ap (λ (k : ℕ). k ∷ get_or s (f.at + 1) 0 ∷ get_or s (f.at + 2) 0 ∷ drop (f.at + 3) s) i.kind
            ∙ ap (λ (x : List ℕ). 0x24 ∷ get_or s (f.at + 1) 0 ∷ get_or s (f.at + 2) 0 ∷ x) r.bytes;
        rising = (i.rises, i.to, i.from, subst (λ (n : ℕ). Rising h.regs n r.cmds) (add-one (get_or s (f.at + 1) 0)) r.rising);
        sets = λ z. absurd (omega (arith, i.begun));
        after = λ z. absurd (omega (arith, i.after));
        upward = r.upward;
        count = r.count;
        formed = r.formed;
      }

  set_back : SetHere s h f → Rest h (set_past s f) (drop (f.at + 2) s) → Rest h f (drop f.at s)
  set_back i r =
      record {
        cmds = put (get_or s (f.at + 1) 0) ∷ r.cmds;
        rows = r.rows;
        sits = r.sits;
        bytes =
            two_there s f.at i.fits
            ∙ ap (λ (k : ℕ). k ∷ get_or s (f.at + 1) 0 ∷ drop (f.at + 2) s) i.kind
            ∙ ap (λ (x : List ℕ). 0x25 ∷ get_or s (f.at + 1) 0 ∷ x) r.bytes;
        rising = (i.rises, i.to, subst (λ (n : ℕ). Rising h.regs n r.cmds) (add-one (get_or s (f.at + 1) 0)) r.rising);
        sets = r.sets;
        after = λ z. absurd (omega (arith, i.after));
        upward = r.upward;
        count = r.count;
        formed = r.formed;
      }

  row_back : RowHere s h f → Rest h (row_past s f) (drop (f.at + 4) s) → Rest h f (drop f.at s)
  row_back i r =
      let lo = get_or s (f.at + 1) 0 in
      let hi = get_or s (f.at + 2) 0 in
      let next = get_or s (f.at + 3) 0 in
      record {
        cmds = [];
        rows = record { lo = lo; hi = hi; next = next; cmds = r.cmds } ∷ r.rows;
        sits = r.sits;
        bytes =
            four_there s f.at i.fits
            ∙ ap (λ (k : ℕ). k ∷ lo ∷ hi ∷ next ∷ drop (f.at + 4) s) i.kind
            ∙ ap (λ (x : List ℕ). 0x23 ∷ lo ∷ hi ∷ next ∷ x) (r.bytes
            ∙ sym (append_assoc (each cmd_bytes r.cmds) (each row_bytes r.rows) (each sit_bytes r.sits)));
        rising = tt;
        sets = λ _. tt;
        after = λ _. refl;
        upward = (
          i.joins,
          i.up,
          omega (arith, small (f.at + 2)),
          i.leads,
          r.rising,
          subst (λ (n : ℕ). Upward h.regs h.sits n r.rows) (add-one hi) r.upward,
        );
        count = r.count;
        formed = r.formed;
      }

  sit_back : SitHere s h f → Rest h (sit_past f) (drop (f.at + 10) s) → Rest h f (drop f.at s)
  sit_back i r =
      let answer = get_or s (f.at + 1) 0 in
      let fields = take 8 (drop (f.at + 2) s) in
      let eight : length fields ≡ 8 = length-take-le 8 (drop (f.at + 2) s) (omega (arith, length-drop (f.at + 2) s, i.fits)) in
      let split : drop (f.at + 2) s ≡ fields ++ drop (f.at + 10) s
      = sym (take-append-drop 8 (drop (f.at + 2) s)) ∙ ap (λ (x : List ℕ). fields ++ x) (drop-drop 8 (f.at + 2) s
      ∙ ap (λ (n : ℕ). drop n s) (let e : f.at + 2 + 8 ≡ f.at + 10 = omega arith in e)) in
      let none = r.after refl in
      record {
        cmds = [];
        rows = [];
        sits = record { answer = answer; fields = fields; rows = r.rows } ∷ r.sits;
        bytes =
            two_there s f.at (omega (arith, i.fits))
            ∙ ap (λ (k : ℕ). k ∷ answer ∷ drop (f.at + 2) s) i.kind
            ∙ ap (λ (x : List ℕ). 0x22 ∷ answer ∷ x) (split
            ∙ ap (λ (x : List ℕ). fields ++ x) (r.bytes ∙ ap (λ (l : List Cmd). each cmd_bytes l ++ (each row_bytes r.rows ++ each sit_bytes r.sits)) none)
            ∙ sym (append_assoc fields (each row_bytes r.rows) (each sit_bytes r.sits)));
        rising = tt;
        sets = λ _. tt;
        after = λ _. refl;
        upward = i.closed;
        count = omega (arith, r.count);
        formed = (
          record {
            answer = omega (arith, small (f.at + 1));
            eight = eight;
            fields = λ t l. subst (Field h.tags h.regs answer t) (sym (get_or-take 8 (drop (f.at + 2) s) t 0 l ∙ get_or-drop (f.at + 2) s t 0)) (i.fields t l);
            rows = r.upward;
          },
          r.formed,
        );
      }

  item_back : (g : Cursor) → Past s h f g → Rest h g (drop g.at s) → Rest h f (drop f.at s)
  item_back _ (items.sat i) r = sit_back i r
  item_back _ (items.rowed i) r = row_back i r
  item_back _ (items.moved i) r = move_back i r
  item_back _ (items.put i) r = set_back i r

-- ---- a file that passes

module _ (s : List ℕ) (h : Head) (small : (i : ℕ) → get_or s i 0 < 256) where
  end_told : (b : Bool) (e : Fault) → ◌≡◌ {A = Result (Unit {0}) Fault} (pick b (Ok tt) (Err e)) (Ok tt) → b ≡ true
  unfolding pick
  end_told true e z = refl
  end_told false e z = cc

  rest_end : (f : Cursor) → length s ≤ f.at → f.begun ≤ h.sits → end_form h f ≡ Ok tt → Rest h f (drop f.at s)
  unfolding end_form
  rest_end f l b e =
      let w = whole_told f.begun f.lo h.sits (end_told (whole f.begun f.lo h.sits) _ e) in
      record {
        cmds = [];
        rows = [];
        sits = [];
        bytes = drop_of_length-le s l;
        rising = tt;
        sets = λ _. tt;
        after = λ _. refl;
        upward = w.1;
        count = omega arith;
        formed = tt;
      }

  rest_item : (n : ℕ) (f : Cursor) (w : Result Cursor Kind) → step_form s h f ≡ w → onward f.at w (form_from n s h) ≡ Ok tt
      → ((g : Cursor) → Past s h f g → form_from n s h g ≡ Ok tt → Rest h g (drop g.at s)) → Rest h f (drop f.at s)
  rest_item n f (Ok g) e k more = let p = past_of s h f g e in item_back s h f small g p (more g p k)
  rest_item n f (Err kind) e k more = cc

  past_begun : (f g : Cursor) → Past s h f g → f.begun ≤ h.sits → g.begun ≤ h.sits
  past_begun f _ (items.sat i) b = omega (arith, i.more)
  past_begun f _ (items.rowed i) b = b
  past_begun f _ (items.moved i) b = b
  past_begun f _ (items.put i) b = b

  pub rest_of : (n : ℕ) (f : Cursor) → length s ≤ f.at + n → f.begun ≤ h.sits → form_from n s h f ≡ Ok tt → Rest h f (drop f.at s)
  rest_of zero f l b e = rest_end f (omega arith) b (sym (from_end s h 0 f (omega arith)) ∙ e)
  rest_of (suc n) f l b e =
      ⊎_elim
      (λ (a : f.at < length s). rest_item n f (step_form s h f) refl (sym (from_item s h n f _ a refl) ∙ e) (λ g p k.
      let m = past_on s h f g p in
      rest_of n g (omega arith) (past_begun f g p b) k))
      (λ (a : length s ≤ f.at). rest_end f a b (sym (from_end s h (suc n) f a) ∙ e))
      (lt_or_le f.at (length s))

-- ---- a file that says a table passes

module _ (s : List ℕ) (h : Head) where
  -- the end, or an item with what is left after it
  pub data Ahead (f : Cursor) : Type 0 where
    end : length s ≤ f.at → whole f.begun f.lo h.sits ≡ true → Ahead f
    item : (g : Cursor) → Past s h f g → Rest h g (drop g.at s) → Ahead f

  -- at the start no row is open
  pub Sane : Cursor → Type 0
  Sane f = f.begun ≡ 0 → f.lo ≡ 256

  pub begin_sane : Sane begin
  unfolding Sane
  begin_sane = λ _. refl

  module _ (f : Cursor) (sane : Sane f) where
    ahead : (cs : List Cmd) (rs : List Row) (ss : List Sit) → drop f.at s ≡ each cmd_bytes cs ++ (each row_bytes rs ++ each sit_bytes ss)
        → Rising h.regs f.low cs → (f.begun ≡ 0 → Sets cs) → (f.lo ≡ 0 → cs ≡ []) → Upward h.regs h.sits f.lo rs
        → f.begun + length ss ≡ h.sits → FormedSits h.tags h.regs h.sits ss → Ahead f
    unfolding Sane
    ahead [] [] [] e ri se af up co fo =
        let l = left_here s f.at e in
        end (omega arith) (whole_made f.begun f.lo h.sits (omega arith) up)
    ahead [] [] (x ∷ ss) e ri se af up co fo =
        let fs = later_here s f.at e 2 ∙ append_assoc x.fields (each row_bytes x.rows) (each sit_bytes ss) in
        let l = left_here s (f.at + 2) fs ∙ length-append x.fields (each row_bytes x.rows ++ each sit_bytes ss) in
        let ten : f.at + 10 ≡ f.at + 2 + 8 = omega arith in
        item _ (items.sat (record {
          kind = first_here s f.at e;
          fits = omega (arith, fo.0.eight, left_here s f.at e);
          closed = up;
          more = omega arith;
          fields = λ t m.
              subst (λ (a : ℕ). Field h.tags h.regs a t (get_or s (f.at + 2 + t) 0)) (sym (byte_here s f.at e 1))
              (subst (Field h.tags h.regs x.answer t)
              (sym (byte_here s (f.at + 2) fs t ∙ get_or-append x.fields _ 0 t (omega (arith, fo.0.eight))))
              (fo.0.fields t m));
        })) (record {
          cmds = [];
          rows = x.rows;
          sits = ss;
          bytes = ap (λ (n : ℕ). drop n s) ten ∙ later_here s (f.at + 2) fs 8 ∙ drop_at x.fields _ 8 fo.0.eight;
          rising = tt;
          sets = λ _. tt;
          after = λ _. refl;
          upward = fo.0.rows;
          count = omega arith;
          formed = fo.1;
        })
    ahead [] (r ∷ rs) ss e ri se af up co fo =
        let from = byte_here s f.at e 1 in
        let hi = byte_here s f.at e 2 in
        let next = byte_here s f.at e 3 in
        item _ (items.rowed (record {
          kind = first_here s f.at e;
          fits = omega (arith, left_here s f.at e);
          begun = ⊎_elim (λ z. absurd (let a = sane z in omega (arith, up.0, up.1, up.2))) (λ p. p) (eq-zero-or-pos f.begun);
          unclosed = λ a. omega (arith, up.0, up.1, up.2);
          up = omega (arith, up.1);
          leads = omega (arith, up.3);
          joins = from ∙ up.0;
        })) (record {
          cmds = r.cmds;
          rows = rs;
          sits = ss;
          bytes = later_here s f.at e 4 ∙ append_assoc (each cmd_bytes r.cmds) (each row_bytes rs) (each sit_bytes ss);
          rising = up.4;
          sets = λ z. absurd (let a = sane z in omega (arith, up.0, up.1, up.2));
          after = λ z. absurd (omega arith);
          upward = subst (λ (n : ℕ). Upward h.regs h.sits n rs) (let d : suc r.hi ≡ get_or s (f.at + 2) 0 + 1 = omega arith in d) up.5;
          count = co;
          formed = fo;
        })
    ahead (move t m ∷ cs) rs ss e ri se af up co fo =
        let to = byte_here s f.at e 1 in
        let from = byte_here s f.at e 2 in
        item _ (items.moved (record {
          kind = first_here s f.at e;
          fits = omega (arith, left_here s f.at e);
          begun = ⊎_elim (λ z. absurd (se z)) (λ p. p) (eq-zero-or-pos f.begun);
          after = ⊎_elim (λ z. absurd (let a = af z in let n : ◌≡◌ {A = ℕ} 0 1 = cc in omega arith)) (λ p. p) (eq-zero-or-pos f.lo);
          rises = omega (arith, ri.0);
          to = omega (arith, ri.1);
          from = omega (arith, ri.2);
        })) (record {
          cmds = cs;
          rows = rs;
          sits = ss;
          bytes = later_here s f.at e 3;
          rising = subst (λ (n : ℕ). Rising h.regs n cs) (let d : suc t ≡ get_or s (f.at + 1) 0 + 1 = omega arith in d) ri.3;
          sets = λ z. absurd (se z);
          after = λ z. absurd (let a = af z in let n : ◌≡◌ {A = ℕ} 0 1 = cc in omega arith);
          upward = up;
          count = co;
          formed = fo;
        })
    ahead (put t ∷ cs) rs ss e ri se af up co fo =
        let to = byte_here s f.at e 1 in
        item _ (items.put (record {
          kind = first_here s f.at e;
          fits = omega (arith, left_here s f.at e);
          after = ⊎_elim (λ z. absurd (let a = af z in let n : ◌≡◌ {A = ℕ} 0 1 = cc in omega arith)) (λ p. p) (eq-zero-or-pos f.lo);
          rises = omega (arith, ri.0);
          to = omega (arith, ri.1);
        })) (record {
          cmds = cs;
          rows = rs;
          sits = ss;
          bytes = later_here s f.at e 2;
          rising = subst (λ (n : ℕ). Rising h.regs n cs) (let d : suc t ≡ get_or s (f.at + 1) 0 + 1 = omega arith in d) ri.2;
          sets = λ z. se z;
          after = λ z. absurd (let a = af z in let n : ◌≡◌ {A = ℕ} 0 1 = cc in omega arith);
          upward = up;
          count = co;
          formed = fo;
        })

    rest_ahead : Rest h f (drop f.at s) → Ahead f
    rest_ahead r = ahead r.cmds r.rows r.sits r.bytes r.rising r.sets r.after r.upward r.count r.formed

  past_sane : (f g : Cursor) → Sane f → Past s h f g → Sane g
  unfolding Sane
  past_sane f _ sane (items.sat i) = λ z. absurd (omega arith)
  past_sane f _ sane (items.rowed i) = λ z. absurd (omega (arith, i.begun))
  past_sane f _ sane (items.moved i) = λ z. absurd (omega (arith, i.begun))
  past_sane f _ sane (items.put i) = sane

  fine_end : (f : Cursor) → whole f.begun f.lo h.sits ≡ true → end_form h f ≡ Ok tt
  unfolding pick end_form
  fine_end f w = ap (λ (b : Bool). pick b (Ok tt) (Err (record { kind = Short; at = f.at }))) w

  fine_none : (f : Cursor) → length s ≤ f.at + 0 → Ahead f → form_from 0 s h f ≡ Ok tt
  fine_none f l (end a w) = from_end s h 0 f a ∙ fine_end f w
  fine_none f l (item g p r) = absurd (let m = past_on s h f g p in omega arith)

  fine_ahead : (n : ℕ) (f : Cursor) → Ahead f → ((g : Cursor) → Past s h f g → Rest h g (drop g.at s) → form_from n s h g ≡ Ok tt) → form_from (suc n) s h f ≡ Ok tt
  fine_ahead n f (end a w) more = from_end s h (suc n) f a ∙ fine_end f w
  fine_ahead n f (item g p r) more = let m = past_on s h f g p in from_item s h n f (Ok g) (omega arith) (step_past s h f g p) ∙ more g p r

  pub rest_fine : (n : ℕ) (f : Cursor) → length s ≤ f.at + n → Sane f → Rest h f (drop f.at s) → form_from n s h f ≡ Ok tt
  rest_fine zero f l sane r = fine_none f l (rest_ahead f sane r)
  rest_fine (suc n) f l sane r =
      fine_ahead n f (rest_ahead f sane r) (λ g p t. let o = past_on s h f g p in rest_fine n g (omega arith) (past_sane f g sane p) t)
