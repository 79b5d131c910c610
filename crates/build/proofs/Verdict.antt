-- The limits as tests, and what each way through the build answers. Assumes nothing.
use mathlib.Core.Path.{◌≡◌, refl, sym, ap, ◌∙◌, subst}
use mathlib.Core.Logic.{◌⊎◌, inl, inr}
use mathlib.Core.Bool.{Bool, true, false, ◌||◌}
use mathlib.Core.List.{List, [], ◌∷◌}
use Prim.Native.Nat.{ℕ, zero, suc, ◌+◌, ◌≤◌, ◌<◌}
use native.Mathlib.Omega.{arith}
use lib.Dec.{ltb}
use lib.ListN.{length, get_or, take}
use lib.Seq.{get_or-take, sets}
use borrow.Author.Tests.{lt-ltb, le-ltb, ltb-true}
use Rattle.ground.specs.Pick.{pick}
use Rattle.answers.specs.Refusals as refusals
use Rattle.answers.specs.declared.Refusal.{Refusal}
use Rattle.answers.specs.declared.Refusal.TheVariants.{Registers, Situations}
use Rattle.answers.proofs.Refusals.{code_above_ok}
use Rattle.net.specs.Rec.{Rec, range, mask, fork, tag, end, Net}
use Rattle.net.specs.Items.{NetRead, net, refused, net_of, code_of, rec_at, Placed}
use Rattle.net.specs.File.{Fits}
use Rattle.net.specs.Calls.{Laid}
use Rattle.net.specs.declared.Layout.{Layout}
use Rattle.paths.specs.Registers.{situation}
use Rattle.paths.specs.Equal.{same_situation}
use Rattle.paths.specs.Numbering.{numbered}
use Rattle.paths.specs.Limits.{all, OverRegisters, OverSituations}
use Rattle.paths.proofs.Member.{Bool-cases}
use Rattle.paths.proofs.Limits.{first_97, numbered_at, closes_registers, closes_situations, stop_registers, stop_situations}
use Rattle.card.specs.Table.{bytes_of}
use Rattle.explore.specs.Items.{Inside, Formed}
use Rattle.explore.specs.Slots.{slots}
use Rattle.explore.specs.Explore.{Stopped}
use Rattle.explore.proofs.Exploration.{slots_length}
use Rattle.explore.proofs.Closed.{span_bytes, numbered_first}
use Rattle.build.specs.Card.{State, states, need, most, card_of, table_of}
use Rattle.build.specs.Writing.{Explored}
use Rattle.build.proofs.Sound.{closes}
use Rattle.build.specs.Build.{any, over_registers, over_situations, Answer, refusal, makes, of_net, build_of, Makes, Attempts}
use Rattle.ground.specs.Lists.{Wrote}

-- ---- the limits

module _ {X : Type 0} (f : X → Bool) (d : X) where
  any_true : (l : List X) (k : ℕ) → k < length l → f (get_or l k d) ≡ true → any f l ≡ true
  any_true [] k b e = absurd (omega arith)
  any_true (x ∷ l) zero b e = rw e
  any_true (x ∷ l) (suc k) b e = by (f x) (any_true l k (omega arith) e)
    where
      by : (c : Bool) → any f l ≡ true → (c || any f l) ≡ true
      by true h = refl
      by false h = h

  any_some : (l : List X) → any f l ≡ true → (k : ℕ) × ((k < length l) × (f (get_or l k d) ≡ true))
  any_some [] e = cc
  any_some (x ∷ l) e = by (any_some l) (Bool-cases (f x)) e
    where
      by : (any f l ≡ true → (k : ℕ) × ((k < length l) × (f (get_or l k d) ≡ true))) → (f x ≡ true) ⊎ (f x ≡ false) → (f x || any f l) ≡ true → (k : ℕ) × ((k < suc (length l)) × (f (get_or (x ∷ l) k d) ≡ true))
      by ih (inl p) q = (0, (omega arith, p))
      by ih (inr p) q = let r = ih (rw p at q) in (suc r.0, (omega (arith, r.1.0), r.1.1))

long_take : (l : List State) (n k : ℕ) → k < n → k < length l → k < length (take n l)
long_take [] n k b c = absurd (omega arith)
long_take (x ∷ l) zero k b c = absurd (omega arith)
long_take (x ∷ l) (suc n) zero b c = omega arith
long_take (x ∷ l) (suc n) (suc k) b c = omega (arith, long_take l n k (omega arith) (omega arith))

take_long : (l : List State) (n k : ℕ) → k < length (take n l) → (k < n) × (k < length l)
take_long l zero k b = absurd (omega arith)
take_long [] (suc n) k b = absurd (omega arith)
take_long (x ∷ l) (suc n) zero b = (omega arith, omega arith)
take_long (x ∷ l) (suc n) (suc k) b = let r = take_long l n k (omega arith) in (omega (arith, r.0), omega (arith, r.1))

module _ (A : Net) where
  states_all : states A ≡ all A 96
  unfolding states
  states_all = ap (λ v. numbered same_situation v (situation A) 96) (span_bytes 0 256)

  over : State → Bool
  over s = ltb 64 (need s)

  pub registers_true : OverRegisters A → over_registers A ≡ true
  unfolding over_registers
  registers_true o =
      let r = first_97 A o.reached o.early in
      ap (λ v. any (λ s. ltb 64 (need s)) (take 97 v)) states_all
      ∙ any_true (λ s. ltb 64 (need s)) [] (take 97 (all A 96)) o.k (long_take (all A 96) 97 o.k o.early r.0)
      (ap (λ s. ltb 64 (need s)) (get_or-take 97 (all A 96) o.k [] o.early ∙ r.1) ∙ lt-ltb 64 (need o.s) o.needs)

  pub registers_only : over_registers A ≡ true → OverRegisters A
  unfolding over_registers
  registers_only e =
      let r = any_some (λ s. ltb 64 (need s)) [] (take 97 (all A 96)) (ap (λ v. any (λ s. ltb 64 (need s)) (take 97 v)) (sym states_all) ∙ e) in
      let t = take_long (all A 96) 97 r.0 r.1.0 in
      record {
        k = r.0;
        s = get_or (all A 96) r.0 [];
        early = t.0;
        reached = numbered_at A 96 r.0 t.1;
        needs = ltb-true 64 (need (get_or (all A 96) r.0 [])) (ap (λ s. ltb 64 (need s)) (sym (get_or-take 97 (all A 96) r.0 [] t.0)) ∙ r.1.1);
      }

  pub situations_true : OverSituations A → over_situations A ≡ true
  unfolding over_situations
  situations_true o = lt-ltb 96 (length (states A)) (omega (arith, (first_97 A o.reached (omega arith)).0, ap length states_all))

  pub situations_only : over_situations A ≡ true → OverSituations A
  unfolding over_situations
  situations_only e =
      let b : 96 < length (all A 96) = omega (arith, ltb-true 96 (length (states A)) e, ap length states_all) in
      record { s = get_or (all A 96) 96 []; reached = numbered_at A 96 96 b }

not_so : {P : Type 0} (c : Bool) → (c ≡ true → P) → ¬ P → c ≡ false
not_so true h n = absurd (n (h refl))
not_so false h n = refl

-- ---- after the exploration

module _ (A : Net) (tags : ℕ) (out : List ℕ) where
  answers_10 : over_registers A ≡ true → Makes tags A out out (refusal 10)
  unfolding makes pick
  answers_10 p = record { result = rw p refl; wrote = rw p refl }

  answers_11 : over_registers A ≡ false → over_situations A ≡ true → Makes tags A out out (refusal 11)
  unfolding makes pick
  answers_11 p r = record { result = rw (p, r) refl; wrote = rw (p, r) refl }

  pub stopped : (e : Refusal) → Stopped A e → Makes tags A out out (refusal (refusals.code_of e))
  stopped Registers x = answers_10 (registers_true A (stop_registers A x))
  stopped Situations x = let s = stop_situations A x in answers_11 (not_so (over_registers A) (registers_only A) s.1) (situations_true A s.0)
  stopped _ x = absurd x

module _ (A : Net) {N : ℕ} {w : List ℕ} {n : ℕ} (x : Explored A N w n) where
  few_registers : over_registers A ≡ false
  few_registers = not_so (over_registers A) (registers_only A) (closes_registers A (closes A x))

  few_situations : over_situations A ≡ false
  few_situations = not_so (over_situations A) (situations_only A) (closes_situations A (closes A x))

  as_states : slots w 0 n ≡ states A
  unfolding states
  as_states = x.1.0 ∙ sym (numbered_first A n x.1.1 96 x.0.most)

  module _ (tags : ℕ) {o o' : List ℕ} {r : ℕ} (s : Wrote o o' 0 r (bytes_of (card_of tags A (slots w 0 n)))) (out : List ℕ) where
    table : card_of tags A (slots w 0 n) ≡ table_of tags A
    unfolding table_of
    table = ap (card_of tags A) as_states

    length_is : r ≡ length (bytes_of (table_of tags A))
    length_is = s.on ∙ zero_plus (length (bytes_of (card_of tags A (slots w 0 n)))) ∙ ap (λ v. length (bytes_of v)) table
      where
        zero_plus : (n : ℕ) → 0 + n ≡ n
        zero_plus n = omega arith

    pub no_room : length out < r → Makes tags A out out (refusal 12)
    unfolding makes pick
    no_room b =
        let c : ltb (length out) (length (bytes_of (table_of tags A))) ≡ true = lt-ltb (length out) (length (bytes_of (table_of tags A))) (omega (arith, length_is)) in
        record { result = rw (few_registers, few_situations, c) refl; wrote = rw (few_registers, few_situations, c) refl }

    pub room : r ≤ length out → {out' : List ℕ} {r' : ℕ} → Wrote out out' 0 r' (bytes_of (card_of tags A (slots w 0 n))) → {m : ℕ} → m ≡ most (slots w 0 n) → Makes tags A out out' (record { code = 0; length = r; situations = n; registers = m })
    unfolding makes pick
    room b v e =
        let c : ltb (length out) (length (bytes_of (table_of tags A))) ≡ false = le-ltb (length out) (length (bytes_of (table_of tags A))) (omega (arith, length_is)) in
        let l = length_is in
        let z : n ≡ length (states A) = sym (slots_length w 0 n) ∙ ap length as_states in
        let k = e ∙ ap most as_states in
        record {
          result = rw (few_registers, few_situations, c) (λ i. record { code = 0; length = l i; situations = z i; registers = k i });
          wrote = rw (few_registers, few_situations, c) (v.held ∙ ap (λ v. sets out 0 (bytes_of v)) table);
        }

-- ---- before it

module _ (file : List ℕ) (size : ℕ) (out : List ℕ) where
  pub small_room : size < 65536 → Attempts file size out out (refusal 9)
  unfolding build_of pick
  small_room b = let c = lt-ltb size 65536 b in record { result = rw c refl; wrote = rw c refl }

  module _ (b : 65536 ≤ size) where
    no_net : (n : NetRead) → net_of file ≡ n → (code_of n ≡ 0 → ⊥) → Attempts file size out out (refusal (code_of n))
    unfolding build_of of_net pick code_of
    no_net (net tags A) q h = absurd (h refl)
    no_net (refused f) q h = let c = le-ltb size 65536 b in record { result = rw (c, q) refl; wrote = rw (c, q) refl }

    pub refused_net : (e : Refusal) → refusals.code_of e ≡ code_of (net_of file) → Attempts file size out out (refusal (refusals.code_of e))
    refused_net e p = subst (λ n. Attempts file size out out (refusal n)) (sym p) (no_net (net_of file) refl (λ z. omega (arith, p, z, code_above_ok e)))

    pub taken_net : (tags : ℕ) (A : Net) → net_of file ≡ net tags A → (out' : List ℕ) (a : Answer) → Makes tags A out out' a → Attempts file size out out' a
    unfolding build_of of_net pick
    taken_net tags A q out' a m = let c = le-ltb size 65536 b in record { result = rw (c, q) m.result; wrote = rw (c, q) m.wrote }

pub formed_of : (s : List ℕ) (tags : ℕ) (offs : List ℕ) → Placed s tags offs → Formed s offs
formed_of s tags offs p = record { few = p.few; whole = p.whole; inside = λ r b. by (rec_at s (get_or offs r 0)) (p.inside r b) }
  where
    by : (c : Rec) → Fits tags (length offs) c → Inside (length offs) c
    by (range lo hi n) h = h.2
    by (mask bits n) h = h.2
    by (fork x y) h = h
    by (tag t n) h = (omega (arith, p.few_tags, h.0), h.1)
    by (end a) h = tt

-- ---- the layout of a legal file

pub laid_ready : (s : List ℕ) (p : Layout) → Laid s p → Formed s (take p.count p.at) × (0 < length (take p.count p.at))
laid_ready s p h = (formed_of s p.tags (take p.count p.at) h.placed, omega (arith, h.placed.some))
