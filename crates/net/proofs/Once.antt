-- Two results that meet a call's promise are equal; and a count is at most 256. Assumes nothing.
use mathlib.Core.Path.{◌≡◌, refl, sym, ap, ap₂, ◌∙◌}
use mathlib.Core.Bool.{Bool, true, false}
use mathlib.Core.List.{List, ◌++◌}
use Prim.Native.Nat.{ℕ, zero, suc, ◌-◌, ◌≤◌}
use native.Mathlib.Omega.{arith}
use lib.Dec.{ltb}
use lib.ListN.{length, take, drop, replicate, take-append-drop}
use Rattle.std.specs.Prelude.{Result, Ok, Err}
use Rattle.answers.specs.Refusals as refusals
use Rattle.answers.specs.Refusals.{number_of}
use Rattle.answers.specs.declared.Refusal.{Refusal}
use Rattle.answers.proofs.Refusals.{code_above_ok}
use Rattle.answers.proofs.Refusals as numbers
use Rattle.ground.specs.Pick.{pick}
use Rattle.net.specs.Rec.{Rec, range, mask, fork, tag, end, rec}
use Rattle.net.specs.Items.{net_at, starts, NetRead, net, refused, net_of, code_of}
use Rattle.net.specs.Calls.{Laid, LayoutOf}
use Rattle.net.specs.Count.{one, count_below, Count, not_bytes, rec_count, count_in, byte_count, counted}
use Rattle.net.specs.declared.Layout.{Layout}
use Rattle.net.proofs.Whole.{net_tags, net_recs}
use Rattle.net.proofs.Inside.{net_length}

layout_parts : {t u n m : ℕ} {o r : List ℕ} → t ≡ u → n ≡ m → o ≡ r → ◌≡◌ {A = Layout} record { tags = t; count = n; at = o } record { tags = u; count = m; at = r }
layout_parts p q e = λ i. record { tags = p i; count = q i; at = e i }

module _ (s : List ℕ) where
  pub check_one : (a b : Result (Unit {0}) Refusal) → number_of a ≡ code_of (net_of s) → number_of b ≡ code_of (net_of s) → a ≡ b
  check_one (Ok a) (Ok b) p q = refl
  check_one (Ok a) (Err f) p q = absurd (omega (arith, code_above_ok f))
  check_one (Err e) (Ok b) p q = absurd (omega (arith, code_above_ok e))
  check_one (Err e) (Err f) p q = ap Err (numbers.code_one e f (p ∙ sym q))

  count_one : (a b : Result ℕ Refusal) → counted a ≡ counted b → a ≡ b
  count_one (Ok a) (Ok b) p = ap (λ (c : Count). Ok c.count) p
  count_one (Ok a) (Err f) p = absurd (omega (arith, ap (λ (c : Count). c.code) p, code_above_ok f))
  count_one (Err e) (Ok b) p = absurd (omega (arith, ap (λ (c : Count). c.code) p, code_above_ok e))
  count_one (Err e) (Err f) p = ap Err (numbers.code_one e f (ap (λ (c : Count). c.code) p))

  pub byte_count_one : (index : ℕ) (a b : Result ℕ Refusal) → counted a ≡ byte_count s index → counted b ≡ byte_count s index → a ≡ b
  byte_count_one index a b p q = count_one a b (p ∙ sym q)

  laid_one : (a b : Layout) → Laid s a → Laid s b → a ≡ b
  laid_one a b p q =
      let x = take a.count a.at in
      let y = take b.count b.at in
      let same : net a.tags (net_at s x) ≡ net b.tags (net_at s y) = sym p.placed.reads ∙ q.placed.reads in
      let long : length x ≡ length y = sym (net_length s x) ∙ ap length (net_recs same) ∙ net_length s y in
      let counts : a.count ≡ b.count = sym p.counted ∙ long ∙ q.counted in
      let offs : x ≡ y = p.placed.follow ∙ ap (λ (n : ℕ). starts n s 4) long ∙ sym q.placed.follow in
      let rest : drop a.count a.at ≡ drop b.count b.at = p.rest ∙ ap (λ (n : ℕ). replicate {A = ℕ} (64 - n) 0) counts ∙ sym q.rest in
      let all : a.at ≡ b.at = sym (take-append-drop a.count a.at) ∙ ap₂ ◌++◌ offs rest ∙ take-append-drop b.count b.at in
      layout_parts (net_tags same) counts all

  not_both : (a : Layout) (e : Refusal) → Laid s a → refusals.code_of e ≡ code_of (net_of s) → ⊥
  unfolding code_of
  not_both a e p q = let z : refusals.code_of e ≡ 0 = q ∙ ap code_of p.placed.reads in omega (arith, code_above_ok e)

  pub places_one : (a b : Result Layout Refusal) → LayoutOf s a → LayoutOf s b → a ≡ b
  places_one (Ok a) (Ok b) p q = ap Ok (laid_one a b p q)
  places_one (Ok a) (Err f) p q = absurd (not_both a f p q)
  places_one (Err e) (Ok b) p q = absurd (not_both b e q p)
  places_one (Err e) (Err f) p q = ap Err (numbers.code_one e f (p ∙ sym q))

-- ---- "0 to 256"

one_most : (b : Bool) → one b ≤ 1
one_most true = omega arith
one_most false = omega arith

count_most : (n : ℕ) (p : ℕ → Bool) → count_below n p ≤ n
unfolding count_below
count_most zero p = omega arith
count_most (suc n) p = omega (arith, count_most n p, one_most (p n))

rec_most : (x : Rec) → (rec_count x).count ≤ 256
unfolding rec_count
rec_most (range lo hi n) = count_most 256 _
rec_most (mask bits n) = count_most 256 _
rec_most (fork a b) = omega arith
rec_most (tag t n) = omega arith
rec_most (end a) = omega arith

in_most : (n : NetRead) (index : ℕ) → (count_in n index).count ≤ 256
unfolding count_in pick
in_most (refused f) index = omega arith
in_most (net tags A) index = by (ltb index (length A))
  where
    by : (c : Bool) → (pick c (rec_count (rec A index)) not_bytes).count ≤ 256
    by true = rec_most (rec A index)
    by false = omega arith

pub byte_count_most : (s : List ℕ) (index : ℕ) → (byte_count s index).count ≤ 256
unfolding byte_count
byte_count_most s index = in_most (net_of s) index
