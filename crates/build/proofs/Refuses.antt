-- REGISTERS and SITUATIONS are answered exactly as document 01 says, and a second result that keeps the promise is the same. Assumes nothing.
use mathlib.Core.Path.{◌≡◌, refl, sym, ap, ◌∙◌}
use mathlib.Core.Bool.{Bool, true, false}
use mathlib.Core.List.{List}
use Prim.Native.Nat.{ℕ, ◌≤◌}
use native.Mathlib.Omega.{arith}
use lib.Dec.{ltb}
use lib.ListN.{length}
use borrow.Author.Tests.{le-ltb, ltb-false}
use Rattle.std.specs.Prelude.{Result, Ok, Err}
use Rattle.answers.specs.declared.Refusal.{Refusal}
use Rattle.answers.proofs.Refusals.{code_one, code_above_ok}
use Rattle.ground.specs.Pick.{pick}
use Rattle.net.specs.Rec.{Net}
use Rattle.net.specs.Items.{NetRead, net, refused, NetFault, net_kind, net_short, net_field, net_extra, net_of, number}
use Rattle.paths.specs.Limits.{OverRegisters, OverSituations}
use Rattle.card.specs.Table.{bytes_of}
use Rattle.build.specs.Card.{table_of}
use Rattle.build.specs.Build.{over_registers, over_situations, Done, refuses, gives, makes, of_net, build_of, Answer, answered, Builds}
use Rattle.build.specs.declared.Built.{Built}
use Rattle.build.proofs.Verdict.{registers_true, registers_only, situations_true, situations_only}

-- the order of the answers 10, 11 and 12
module _ (tags : ℕ) (A : Net) (out : List ℕ) where
  by_order : (r s t : Bool) → Done
  by_order r s t = pick r (refuses 10 out) (pick s (refuses 11 out) (pick t (refuses 12 out) (gives tags A out)))

  order_10 : (r s t : Bool) → (by_order r s t).result.code ≡ 10 → r ≡ true
  unfolding by_order pick
  order_10 true s t e = refl
  order_10 false true t e = absurd (omega arith)
  order_10 false false true e = absurd (omega arith)
  order_10 false false false e = absurd (omega arith)

  order_11 : (r s t : Bool) → (by_order r s t).result.code ≡ 11 → (r ≡ false) × (s ≡ true)
  unfolding by_order pick
  order_11 true s t e = absurd (omega arith)
  order_11 false true t e = (refl, refl)
  order_11 false false true e = absurd (omega arith)
  order_11 false false false e = absurd (omega arith)

  as_ordered : makes tags A out ≡ by_order (over_registers A) (over_situations A) (ltb (length out) (length (bytes_of (table_of tags A))))
  unfolding makes by_order
  as_ordered = refl

  says_10 : over_registers A ≡ true → (makes tags A out).result.code ≡ 10
  unfolding makes pick
  says_10 e = rw e

  says_11 : over_registers A ≡ false → over_situations A ≡ true → (makes tags A out).result.code ≡ 11
  unfolding makes pick
  says_11 e f = rw (e, f)

not_true : {P : Type 0} (c : Bool) → (c ≡ true → P) → ¬ P → c ≡ false
not_true true h n = absurd (n (h refl))
not_true false h n = refl

not_false : {P : Type 0} (c : Bool) → c ≡ false → (P → c ≡ true) → ¬ P
not_false c e h p = let z = h p in cc

-- a legal file and enough work memory
module _ (file : List ℕ) (room : ℕ) (out : List ℕ) where
  build_makes : 65536 ≤ room → (tags : ℕ) (A : Net) → net_of file ≡ net tags A → build_of file room out ≡ makes tags A out
  unfolding build_of of_net pick
  build_makes b tags A e = rw (le-ltb room 65536 b, e)

  module _ (b : 65536 ≤ room) (tags : ℕ) (A : Net) (legal : net_of file ≡ net tags A) where
    pub registers_refused : OverRegisters A → (build_of file room out).result.code ≡ 10
    registers_refused o = ap (λ d. d.result.code) (build_makes b tags A legal) ∙ says_10 tags A out (registers_true A o)

    pub situations_refused : ¬ OverRegisters A → OverSituations A → (build_of file room out).result.code ≡ 11
    situations_refused n o = ap (λ d. d.result.code) (build_makes b tags A legal) ∙ says_11 tags A out (not_true (over_registers A) (registers_only A) n) (situations_true A o)

-- what an answer 10 or 11 comes from
pub record Cause (file : List ℕ) (room : ℕ) (P : ℕ → Net → Type 0) : Type 0 where
  pub enough : 65536 ≤ room
  pub tags : ℕ
  pub A : Net
  pub legal : net_of file ≡ net tags A
  pub why : P tags A

number_early : (f : NetFault) → (5 ≤ number f) × (number f ≤ 9)
unfolding number
number_early net_kind = (omega arith, omega arith)
number_early net_short = (omega arith, omega arith)
number_early net_field = (omega arith, omega arith)
number_early net_extra = (omega arith, omega arith)

module _ (file : List ℕ) (room : ℕ) (out : List ℕ) (c : ℕ) (late : (n : ℕ) → 5 ≤ n → n ≤ 9 → n ≡ c → ⊥) (P : ℕ → Net → Type 0) (why : (tags : ℕ) (A : Net) → (makes tags A out).result.code ≡ c → P tags A) where
  by_net : 65536 ≤ room → (n : NetRead) → net_of file ≡ n → (of_net n out).result.code ≡ c → Cause file room P
  unfolding of_net
  by_net b (net t B) q e = record { enough = b; tags = t; A = B; legal = q; why = why t B e }
  by_net b (refused f) q e = absurd (late (number f) (number_early f).0 (number_early f).1 e)

  by_room : (t : Bool) → ltb room 65536 ≡ t → (pick t (refuses 9 out) (of_net (net_of file) out)).result.code ≡ c → Cause file room P
  unfolding pick
  by_room true z e = absurd (late 9 (omega arith) (omega arith) e)
  by_room false z e = by_net (ltb-false room 65536 z) (net_of file) refl e

  past_net : (build_of file room out).result.code ≡ c → Cause file room P
  unfolding build_of
  past_net e = by_room (ltb room 65536) refl e

module _ (file : List ℕ) (room : ℕ) (out : List ℕ) where
  pub registers_only_so : (build_of file room out).result.code ≡ 10 → Cause file room (λ tags A. OverRegisters A)
  registers_only_so = past_net file room out 10 (λ n a b e. omega arith) (λ tags A. OverRegisters A) (λ tags A e. registers_only A (order_10 tags A out (over_registers A) (over_situations A) (ltb (length out) (length (bytes_of (table_of tags A)))) (ap (λ d. d.result.code) (sym (as_ordered tags A out)) ∙ e)))

  pub situations_only_so : (build_of file room out).result.code ≡ 11 → Cause file room (λ tags A. OverSituations A × (¬ OverRegisters A))
  situations_only_so =
      past_net file room out 11 (λ n a b e. omega arith) (λ tags A. OverSituations A × (¬ OverRegisters A))
      (λ tags A e.
      let r = order_11 tags A out (over_registers A) (over_situations A) (ltb (length out) (length (bytes_of (table_of tags A)))) (ap (λ d. d.result.code) (sym (as_ordered tags A out)) ∙ e) in
      (situations_only A r.1, not_false (over_registers A) r.0 (registers_true A)))

-- ---- what an OK comes from, and all that it then says

pub record Made (file : List ℕ) (room : ℕ) (out : List ℕ) : Type 0 where
  pub enough : 65536 ≤ room
  pub tags : ℕ
  pub A : Net
  pub legal : net_of file ≡ net tags A
  pub slim : ¬ OverRegisters A
  pub few : ¬ OverSituations A
  pub fits : length (bytes_of (table_of tags A)) ≤ length out
  pub whole : build_of file room out ≡ gives tags A out

module _ (tags : ℕ) (A : Net) (out : List ℕ) where
  order_0 : (r s t : Bool) → (by_order tags A out r s t).result.code ≡ 0 → (r ≡ false) × ((s ≡ false) × (t ≡ false))
  unfolding by_order pick
  order_0 true s t e = absurd (omega arith)
  order_0 false true t e = absurd (omega arith)
  order_0 false false true e = absurd (omega arith)
  order_0 false false false e = (refl, (refl, refl))

  says_all : over_registers A ≡ false → over_situations A ≡ false → ltb (length out) (length (bytes_of (table_of tags A))) ≡ false → makes tags A out ≡ gives tags A out
  unfolding makes pick
  says_all e f g = rw (e, f, g)

module _ (file : List ℕ) (room : ℕ) (out : List ℕ) where
  pub made_so : (build_of file room out).result.code ≡ 0 → Made file room out
  made_so e =
      let c = past_net file room out 0 (λ n a b q. omega arith) (λ tags A. (makes tags A out).result.code ≡ 0) (λ tags A q. q) e in
      let t = c.tags in
      let N = c.A in
      let r = order_0 t N out (over_registers N) (over_situations N) (ltb (length out) (length (bytes_of (table_of t N)))) (ap (λ d. d.result.code) (sym (as_ordered t N out)) ∙ c.why) in
      record {
        enough = c.enough;
        tags = t;
        A = N;
        legal = c.legal;
        slim = not_false (over_registers N) r.0 (registers_true N);
        few = not_false (over_situations N) r.1.0 (situations_true N);
        fits = ltb-false (length out) (length (bytes_of (table_of t N))) r.1.1;
        whole = build_makes file room out c.enough t N c.legal ∙ says_all t N out r.0 r.1.0 r.1.1;
      }

-- ---- a second result that keeps the promise

answered_one : (a b : Result Built Refusal) → answered a ≡ answered b → a ≡ b
answered_one (Ok a) (Ok b) p = ap (λ (c : Answer). Ok (record { length = c.length; situations = c.situations; registers = c.registers })) p
answered_one (Ok a) (Err f) p = absurd (omega (arith, ap (λ (c : Answer). c.code) p, code_above_ok f))
answered_one (Err e) (Ok b) p = absurd (omega (arith, ap (λ (c : Answer). c.code) p, code_above_ok e))
answered_one (Err e) (Err f) p = ap Err (code_one e f (ap (λ (c : Answer). c.code) p))

pub build_one : (file work out : List ℕ) (w w' o o' : List ℕ) (a a' : Result Built Refusal) → Builds file work out w o (answered a) → Builds file work out w' o' (answered a') → (a ≡ a') × ((o ≡ o') × (w ≡ w'))
build_one file work out w w' o o' a a' p q = (answered_one a a' (p.result ∙ sym q.result), (p.wrote ∙ sym q.wrote, p.zero ∙ sym q.zero))
