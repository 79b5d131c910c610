-- The form pass while it goes: what is left to judge from the cursor is the verdict of the whole. Assumes nothing.
use Prim.Native.Nat.{ℕ, zero, suc, ◌+◌, ◌-◌, ◌<◌, ◌≤◌}
use native.Mathlib.Omega.{arith}
use mathlib.Core.Path.{◌≡◌, refl, sym, ap, ◌∙◌}
use mathlib.Core.Bool.{Bool}
use mathlib.Core.List.{List}
use lib.ListN.{length}
use borrow.Author.Tests.{lt-ltb, le-ltb}
use Rattle.ground.specs.Pick.{pick}
use Rattle.card.specs.declared.form.Head.{Head}
use Rattle.card.specs.declared.form.Cursor.{Cursor}
use Rattle.std.proofs.Common.{Result, Ok, Err}
use Rattle.card.specs.declared.form.Kind.{Kind}
use Rattle.card.specs.Form.{step_form, begin, end_form, onward, form_from}
use Rattle.card.proofs.Items.{past_of, past_on}

module _ (s : List ℕ) (h : Head) where
  -- one item, and the end
  pub from_item : (n : ℕ) (f : Cursor) (w : Result Cursor Kind) → f.at < length s → step_form s h f ≡ w → form_from (suc n) s h f ≡ onward f.at w (form_from n s h)
  unfolding pick form_from
  from_item n f w l e =
      ap (λ (b : Bool). pick b (onward f.at (step_form s h f) (form_from n s h)) (end_form h f)) (lt-ltb f.at (length s) l)
      ∙ ap (λ (x : Result Cursor Kind). onward f.at x (form_from n s h)) e

  pub from_end : (n : ℕ) (f : Cursor) → length s ≤ f.at → form_from n s h f ≡ end_form h f
  unfolding pick form_from
  from_end zero f l = refl
  from_end (suc n) f l = ap (λ (b : Bool). pick b (onward f.at (step_form s h f) (form_from n s h)) (end_form h f)) (le-ltb f.at (length s) l)

  pub record Passing (f : Cursor) : Type 0 where
    pub fuel : ℕ
    pub enough : length s ≤ f.at + fuel
    pub same : form_from fuel s h f ≡ form_from (length s) s h begin

  pub pass_begins : Passing begin
  pass_begins = record { fuel = length s; enough = omega arith; same = refl }

  module _ {f : Cursor} (p : Passing f) (l : f.at < length s) where
    opened : (w : Result Cursor Kind) → step_form s h f ≡ w → onward f.at w (form_from (p.fuel - 1) s h) ≡ form_from (length s) s h begin
    opened w e =
        sym (from_item (p.fuel - 1) f w l e)
        ∙ ap (λ (n : ℕ). form_from n s h f) (let d : suc (p.fuel - 1) ≡ p.fuel = omega (arith, p.enough) in d) ∙ p.same

    pub pass_moves : (g : Cursor) → step_form s h f ≡ Ok g → f.at < g.at
    pass_moves g e = (past_on s h f g (past_of s h f g e)).0

    pub pass_on : (g : Cursor) → step_form s h f ≡ Ok g → Passing g
    pass_on g e = record { fuel = p.fuel - 1; enough = omega (arith, p.enough, pass_moves g e); same = opened (Ok g) e }

    pub pass_bad : (kind : Kind) → step_form s h f ≡ Err kind → Err (record { kind = kind; at = f.at }) ≡ form_from (length s) s h begin
    pass_bad kind e = opened (Err kind) e

  pub pass_ends : {f : Cursor} → Passing f → length s ≤ f.at → end_form h f ≡ form_from (length s) s h begin
  pass_ends {f} p l = sym (from_end p.fuel f l) ∙ p.same
