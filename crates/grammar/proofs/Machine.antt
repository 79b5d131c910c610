-- Pattern text byte by byte, with a count of the open groups: what stands between the grammar and the reader. Assumes nothing.
use Prim.Native.Nat.{ℕ, zero, suc}
use mathlib.Core.Path.{◌≡◌, refl, ap, subst, ◌∙◌}
use mathlib.Core.List.{List, [], ◌∷◌, ◌++◌}
use mathlib.Core.Bool.{Bool, true, false}
use native.Mathlib.Omega.{arith}
use lib.Dec.{eqb}
use borrow.Author.Tests.{ne_eqb}
use Rattle.ground.specs.Pick.{pick}
use Rattle.pattern.specs.Sets.{Step, fresh, ready, held, quote, dash, dash_quote, name, shut, bad, set_on}
use Rattle.pattern.specs.Reader.{stops, repeating, barred, is_tag}
use Rattle.pattern.specs.Grammar.{Ordinary}
use Rattle.ground.proofs.Tests.{either_no, no_either}
use Rattle.grammar.proofs.SetRun.{set_run, run_bad, Going, going_first}

-- k groups open; at: between atoms, and whether the last byte ended an atom that has no repetition; after `\`; after `@`; after `[`; in a set; no pattern goes on
pub data St : Type 0 where
  at : ℕ → Bool → St
  esc : ℕ → St
  mark : ℕ → St
  box : ℕ → St
  inset : ℕ → Step → St
  dead : St

abbrev pub closes : ℕ → St
closes zero = dead
closes (suc k) = at k true

abbrev pub again : Bool → ℕ → St
again true k = at k false
again false k = dead

abbrev pub tag_end : Bool → ℕ → St
tag_end true k = at k true
tag_end false k = dead

-- the set's own walk, from its end back to the pattern
abbrev pub into : ℕ → Step → St
into k fresh = inset k fresh
into k ready = inset k ready
into k (held c) = inset k (held c)
into k quote = inset k quote
into k (dash c) = inset k (dash c)
into k (dash_quote c) = inset k (dash_quote c)
into k (name w) = inset k (name w)
into k shut = at k true
into k bad = dead

abbrev pub box_on : Bool → ℕ → ℕ → St
box_on true k c = inset k fresh
box_on false k c = into k (set_on fresh c)

-- the tests in a fixed order
abbrev pub s8 : Bool → ℕ → St
s8 true k = dead
s8 false k = at k true

abbrev pub s7 : Bool → ℕ → ℕ → St
s7 true c k = box k
s7 false c k = s8 (barred c) k

abbrev pub s6 : Bool → ℕ → ℕ → St
s6 true c k = at k true
s6 false c k = s7 (eqb c 91) c k

abbrev pub s5 : Bool → ℕ → ℕ → St
s5 true c k = mark k
s5 false c k = s6 (eqb c 46) c k

abbrev pub s4 : Bool → ℕ → ℕ → St
s4 true c k = esc k
s4 false c k = s5 (eqb c 64) c k

abbrev pub s3 : Bool → ℕ → ℕ → St
s3 true c k = at (suc k) false
s3 false c k = s4 (eqb c 92) c k

abbrev pub s2 : Bool → ℕ → ℕ → St
s2 true c k = closes k
s2 false c k = s3 (eqb c 40) c k

abbrev pub s1 : Bool → ℕ → ℕ → St
s1 true c k = at k false
s1 false c k = s2 (eqb c 41) c k

abbrev pub s0 : Bool → Bool → ℕ → ℕ → St
s0 true b c k = again b k
s0 false b c k = s1 (eqb c 124) c k

abbrev pub on : St → ℕ → St
on (at k b) c = s0 (repeating c) b c k
on (esc k) c = at k true
on (mark k) c = tag_end (is_tag c) k
on (box k) c = box_on (eqb c 94) k c
on (inset k st) c = into k (set_on st c)
on dead c = dead

abbrev pub run : St → List ℕ → St
run x [] = x
run x (c ∷ w) = run (on x c) w

pub run_append : (x : St) (v w : List ℕ) → run x (v ++ w) ≡ run (run x v) w
run_append x [] w = refl
run_append x (c ∷ v) w = run_append (on x c) v w

pub run_dead : (w : List ℕ) → run dead w ≡ dead
run_dead [] = refl
run_dead (c ∷ w) = run_dead w

-- the machine at a byte, by the tests that a reader makes
module _ (c k : ℕ) (b : Bool) (r : repeating c ≡ false) (e₁ : eqb c 124 ≡ false) (e₂ : eqb c 41 ≡ false) (e₃ : eqb c 40 ≡ false) (e₄ : eqb c 92 ≡ false) (e₅ : eqb c 64 ≡ false) (e₆ : eqb c 46 ≡ false) (e₇ : eqb c 91 ≡ false) where
  pub on_last : on (at k b) c ≡ s8 (barred c) k
  on_last =
      ap (λ x. s0 x b c k) r ∙ ap (λ x. s1 x c k) e₁ ∙ ap (λ x. s2 x c k) e₂ ∙ ap (λ x. s3 x c k) e₃ ∙ ap (λ x. s4 x c k) e₄
      ∙ ap (λ x. s5 x c k) e₅ ∙ ap (λ x. s6 x c k) e₆ ∙ ap (λ x. s7 x c k) e₇

-- an ordinary byte passes all tests
pub record Passes (c : ℕ) : Type 0 where
  pub unbarred : barred c ≡ false
  pub unstopped : stops c ≡ false
  pub no_repeat : repeating c ≡ false
  pub no_bar : eqb c 124 ≡ false
  pub no_shut : eqb c 41 ≡ false
  pub no_open : eqb c 40 ≡ false
  pub no_esc : eqb c 92 ≡ false
  pub no_mark : eqb c 64 ≡ false
  pub no_dot : eqb c 46 ≡ false
  pub no_set : eqb c 91 ≡ false

pub passes : (c : ℕ) → Ordinary c → Passes c
passes c o =
    let t124 = either_no (eqb c 124) _ o.plain in
    let t42 = either_no (eqb c 42) _ t124.1 in
    let t43 = either_no (eqb c 43) _ t42.1 in
    let t63 = either_no (eqb c 63) _ t43.1 in
    let t40 = either_no (eqb c 40) _ t63.1 in
    let t41 = either_no (eqb c 41) _ t40.1 in
    let t91 = either_no (eqb c 91) _ t41.1 in
    let t93 = either_no (eqb c 93) _ t91.1 in
    let t46 = either_no (eqb c 46) _ t93.1 in
    let t64 = either_no (eqb c 64) _ t46.1 in
    let t92 = either_no (eqb c 92) _ t64.1 in
    let n : eqb c 256 ≡ false = ne_eqb c 256 (λ e. let h = o.byte in omega arith) in
    let st : stops c ≡ false = no_either (eqb c 124) _ t124.0 (no_either (eqb c 41) _ t41.0 n) in
    let re : repeating c ≡ false = no_either (eqb c 42) _ t42.0 (no_either (eqb c 43) _ t43.0 t63.0) in
    record {
      unbarred = no_either (stops c) _ st (no_either (repeating c) _ re t93.0);
      unstopped = st;
      no_repeat = re;
      no_bar = t124.0;
      no_shut = t41.0;
      no_open = t40.0;
      no_esc = t92.0;
      no_mark = t64.0;
      no_dot = t46.0;
      no_set = t91.0;
    }

pub ordinary : (c k : ℕ) (b : Bool) → Ordinary c → on (at k b) c ≡ at k true
ordinary c k b o =
    let p = passes c o in
    on_last c k b p.no_repeat p.no_bar p.no_shut p.no_open p.no_esc p.no_mark p.no_dot p.no_set ∙ ap (λ x. s8 x k) p.unbarred

-- the machine in a set is the set's walk
pub into_going : (k : ℕ) (st : Step) → Going st → into k st ≡ inset k st
into_going k fresh g = refl
into_going k ready g = refl
into_going k (held c) g = refl
into_going k quote g = refl
into_going k (dash c) g = refl
into_going k (dash_quote c) g = refl
into_going k (name w) g = refl
into_going k shut g = absurd g
into_going k bad g = absurd g

pub inset_run : (k : ℕ) (v : List ℕ) (st : Step) → Going (set_run st v) → run (inset k st) v ≡ inset k (set_run st v)
inset_run k [] st g = refl
inset_run k (c ∷ v) st g = ap (λ x. run x v) (into_going k (set_on st c) (going_first (set_on st c) v g)) ∙ inset_run k v (set_on st c) g

-- where it stands after `[` and the bytes v of a set without `^`
abbrev pub stand : ℕ → List ℕ → St
stand k [] = box k
stand k (c ∷ v) = inset k (set_run fresh (c ∷ v))

-- no item begins with `^`
pub no_caret : (c : ℕ) (v : List ℕ) → Going (set_run fresh (c ∷ v)) → eqb c 94 ≡ false
unfolding set_on pick
no_caret c v g = ne_eqb c 94 (λ e. subst Going (ap (λ n. set_run fresh (n ∷ v)) e ∙ run_bad v) g)

pub box_run : (k : ℕ) (v : List ℕ) → Going (set_run fresh v) → run (box k) v ≡ stand k v
box_run k [] g = refl
box_run k (c ∷ v) g =
    ap (λ x. run (box_on x k c) v) (no_caret c v g) ∙ ap (λ x. run x v) (into_going k (set_on fresh c) (going_first (set_on fresh c) v g)) ∙ inset_run k v (set_on fresh c) g
