-- Laws of what two places cut out of a line. Assumes nothing.
use Prim.Native.Nat.{ℕ, ◌+◌, ◌≤◌}
use native.Mathlib.Omega.{arith}
use mathlib.Core.Path.{◌≡◌, refl, sym, ap, ap₂, ◌∙◌}
use mathlib.Core.Bool.{Bool, true, false}
use mathlib.Core.List.{List}
use denote.Ref.{Bor}
use lib.IntN.{ℤ}
use lib.Dec.{ltb}
use mir.Syntax.{w16}
use mir.Val.{SFits, to_z, of_z}
use mir.ValLaws.{to_z-of_z}
use borrow.Author.Tests.{ltb-false}
use Rattle.ground.specs.Pick.{pick}
use Rattle.std.specs.Prelude.{Some, None, Ok, Err}
use Rattle.ground.specs.Place.{Place, place_of}
use Rattle.answers.specs.declared.Refusal.{Refusal}
use Rattle.answers.specs.declared.Refusal.TheVariants.{FieldBack, FieldPast}
use Rattle.field.specs.Field.{Cut, cut_of, code_of, bytes_of, start_of, Handed}

never : {P : Type 0} {k : Refusal} {a e : ℕ} → ◌≡◌ {A = Cut} (Err k) (Ok (a, e)) → P
never t = cc

same_part : {p q : ℕ × ℕ} → ◌≡◌ {A = Cut} (Ok p) (Ok q) → p ≡ q
same_part t = cc

ordered : (n a e : ℕ) {f u : ℕ} (back past : Bool) → ltb e a ≡ back → ltb n e ≡ past
    → ◌≡◌ {A = Cut} (pick back (Err FieldBack) (pick past (Err FieldPast) (Ok (a, e)))) (Ok (f, u)) → (f ≤ u) × (u ≤ n)
unfolding pick
ordered n a e true past b p t = never t
ordered n a e false true b p t = never t
ordered n a e {f} {u} false false b p t =
    let k = same_part t in
    let i : a ≡ f = ap (λ (p : ℕ × ℕ). p.0) k in
    let j : e ≡ u = ap (λ (p : ℕ × ℕ). p.1) k in
    let x = ltb-false e a b in
    let y = ltb-false n e p in
    (omega arith, omega arith)

-- a part lies in the line
pub within : (n : ℕ) (p q : Place) {a e : ℕ} → cut_of n p q ≡ Ok (a, e) → (a ≤ e) × (e ≤ n)
unfolding cut_of
within n None q t = never t
within n (Some a) None t = never t
within n (Some a) (Some e) t = ordered n a e (ltb e a) (ltb n e) refl refl t

-- a signed parameter that is passed on comes as the number of its bits
pub cut_passed : (n : ℕ) (from to : ℤ) {r : Cut} → SFits w16 from → SFits w16 to
    → r ≡ cut_of n (place_of (to_z w16 (of_z w16 from))) (place_of (to_z w16 (of_z w16 to))) → r ≡ cut_of n (place_of from) (place_of to)
cut_passed n from to f t e = e ∙ ap₂ (λ (v w : ℤ). cut_of n (place_of v) (place_of w)) (to_z-of_z w16 from f) (to_z-of_z w16 to t)

-- what is known of the two places where there is a part
pub cut_at : (n : ℕ) (v w : ℤ) {c : Cut} {a e : ℕ} → SFits w16 v → SFits w16 w → c ≡ cut_of n (place_of (to_z w16 (of_z w16 v))) (place_of (to_z w16 (of_z w16 w))) → c ≡ Ok (a, e)
    → cut_of n (place_of v) (place_of w) ≡ Ok (a, e)
cut_at n v w f t b p = sym (cut_passed n v w f t b) ∙ p

-- what is handed back, by what was cut
handed_by : (line : Bor (List ℕ)) {c d : Cut} {r : Bor (List ℕ)} → d ≡ c → Handed line c r → Handed line d r
handed_by line e h = rw e h

pub handed_part : (line : Bor (List ℕ)) {c : Cut} {r : Bor (List ℕ)} (a e : ℕ) → c ≡ Ok (a, e)
    → r.now ≡ bytes_of (Ok (a, e)) line.now → r.ref_ptr ≡ (line.ref_ptr.0, start_of (Ok (a, e)) + line.ref_ptr.1) → Handed line c r
handed_part line a e t b p = handed_by line t (record { bytes = b; begins = p })

pub handed_none : (line : Bor (List ℕ)) {c : Cut} {r : Bor (List ℕ)} (k : Refusal) → c ≡ Err k
    → r.now ≡ bytes_of (Err k) line.now → r.ref_ptr ≡ (line.ref_ptr.0, start_of (Err k) + line.ref_ptr.1) → Handed line c r
handed_none line k t b p = handed_by line t (record { bytes = b; begins = p })

-- a second result that meets the promise of `between`, or of `field_code`, is equal
pub one_cut : (n : ℕ) (from to : ℤ) {r s : Cut} → r ≡ cut_of n (place_of from) (place_of to) → s ≡ cut_of n (place_of from) (place_of to) → r ≡ s
one_cut n from to e f = e ∙ sym f

pub one_code : (n : ℕ) (from to : ℤ) {r s : ℕ} → r ≡ code_of (cut_of n (place_of from) (place_of to)) → s ≡ code_of (cut_of n (place_of from) (place_of to)) → r ≡ s
one_code n from to e f = e ∙ sym f

-- and of `field`: the same bytes at the same place of memory. All else of a reference is its ghost name, which no program sees
pub one_part : (line : Bor (List ℕ)) (c : Cut) {r s : Bor (List ℕ)} → Handed line c r → Handed line c s → (r.now ≡ s.now) × (r.ref_ptr ≡ s.ref_ptr)
one_part line c h k = (h.bytes ∙ sym k.bytes, h.begins ∙ sym k.begins)
