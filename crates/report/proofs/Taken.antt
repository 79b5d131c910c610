-- What the pattern maker and the builder hand on: lengths that lie in their buffers, and a table that the loader takes. Assumes nothing.
use mathlib.Core.Path.{◌≡◌, refl, sym, ap, ◌∙◌, subst}
use mathlib.Core.Bool.{Bool, true, false}
use mathlib.Core.List.{List, [], ◌∷◌}
use Prim.Native.Nat.{ℕ, zero, suc, ◌+◌, ◌≤◌, ◌<◌}
use native.Mathlib.Omega.{arith}
use lib.ListN.{length, take, drop, get_or}
use lib.Seq.{sets, sets-eq, length-sets, take_at}
use lib.Dec.{ltb, leb}
use borrow.Author.Tests.{ltb-false}
use Rattle.ground.specs.Pick.{pick}
use Rattle.net.specs.Rec.{Net}
use Rattle.net.specs.File.{Legal}
use Rattle.ground.specs.Lists.{Bytes}
use Rattle.net.specs.Items.{NetRead, net, refused, net_of, NetFault, net_kind, net_short, net_field, net_extra, number}
use Rattle.net.proofs.Inverse.{written}
use Rattle.pattern.specs.Pat.{size}
use Rattle.pattern.specs.Reader.{Res, ok, form, deep, alts, read}
use Rattle.pattern.specs.Maker.{Given, given, file, judged, maker}
use Rattle.pattern.specs.Made.{Made, made_of}
use Rattle.pattern.specs.declared.Fault.{Fault}
use Rattle.std.specs.Prelude.{Result, Ok, Err, IfOk}
use Rattle.card.specs.Table.{bytes_of}
use Rattle.card.specs.Judged.{Judged}
use Rattle.build.specs.Card.{table_of}
use Rattle.build.specs.Build.{Done, over_registers, over_situations, makes, of_net, build_of, Answer, Builds}
use Rattle.build.proofs.Verdict.{registers_true, situations_true}
use Rattle.built.specs.Fits.{Fits}
use Rattle.built.proofs.States.{fits_exactly}
use Rattle.built.proofs.Answers.{build_taken}
use Rattle.report.specs.Steps.{Sound}

-- ---- small things

pub taken_bytes : (s : List ℕ) (n : ℕ) → ((i : ℕ) → get_or s i 0 < 256) → (i : ℕ) → get_or (take n s) i 0 < 256
taken_bytes [] zero h i = omega arith
taken_bytes [] (suc n) h i = omega arith
taken_bytes (b ∷ s) zero h i = omega arith
taken_bytes (b ∷ s) (suc n) h zero = h 0
taken_bytes (b ∷ s) (suc n) h (suc i) = taken_bytes s n (λ k. h (suc k)) i

-- what holds of both holds of the choice
by_pick : {A : Type 0} (P : A → Type 0) (c : Bool) (a b : A) → (c ≡ true → P a) → (c ≡ false → P b) → P (pick c a b)
unfolding pick
by_pick P true a b f g = f refl
by_pick P false a b f g = g refl

-- ---- the pattern maker

module _ (s out : List ℕ) where
  Inside : Given → Type 0
  Inside g = g.answer.code ≡ 0 → g.answer.length ≤ length out

  judged_inside : (r : Res) → Inside (judged r s out)
  unfolding Inside
  judged_inside (form q) = λ z. absurd (omega arith)
  judged_inside (deep q) = λ z. absurd (omega arith)
  judged_inside (ok e p) =
      by_pick Inside (ltb e (length s)) _ _ (λ t z. absurd (omega arith))
      (λ t. by_pick Inside (leb 64 (size p)) _ _ (λ u z. absurd (omega arith))
      (λ u. by_pick Inside (ltb (length out) (length (file p))) _ _ (λ v z. absurd (omega arith))
      (λ v z. ltb-false (length out) (length (file p)) v)))

  pub made_inside : (maker s out).answer.code ≡ 0 → (maker s out).answer.length ≤ length out
  unfolding maker Inside
  made_inside = by_pick Inside (ltb 255 (length s)) _ _ (λ t z. absurd (omega arith)) (λ t. judged_inside (read s alts 0 0))

  Kept : Given → Type 0
  Kept g = length g.after ≡ length out

  judged_kept : (r : Res) → Kept (judged r s out)
  unfolding Kept
  judged_kept (form q) = refl
  judged_kept (deep q) = refl
  judged_kept (ok e p) =
      by_pick Kept (ltb e (length s)) _ _ (λ t. refl)
      (λ t. by_pick Kept (leb 64 (size p)) _ _ (λ u. refl)
      (λ u. by_pick Kept (ltb (length out) (length (file p))) _ _ (λ v. refl) (λ v. length-sets out 0 (file p))))

  maker_kept : Kept (maker s out)
  unfolding maker Kept
  maker_kept = by_pick Kept (ltb 255 (length s)) _ _ (λ t. refl) (λ t. judged_kept (read s alts 0 0))

-- the automaton file that was made lies in its buffer
made_long : (s out : List ℕ) {out' : List ℕ} {m : Made} → given m out' ≡ maker s out → m.code ≡ 0 → m.length ≤ length out'
unfolding Kept
made_long s out {out'} {m} e z =
    let i = made_inside s out (sym (ap (λ g. g.answer.code) e) ∙ z) in
    omega (arith, i, maker_kept s out, ap (λ g. g.answer.length) e, ap (λ g. length g.after) e)

pub made_room : (s out : List ℕ) {out' : List ℕ} (r : Result ℕ Fault) → given (made_of r) out' ≡ maker s out → IfOk r (λ n. n ≤ length out')
made_room s out (Ok n) e = made_long s out e refl
made_room s out (Err f) e = tt

-- ---- the builder

never_false : {P : Type 0} (c : Bool) → c ≡ false → (P → c ≡ true) → ¬ P
never_false c e h p = let z : ◌≡◌ {A = Bool} true false = sym (h p) ∙ e in let n : ◌≡◌ {A = ℕ} 0 1 = cc in omega arith

refusal_number : (f : NetFault) → number f ≡ 0 → ⊥
unfolding number
refusal_number net_kind e = omega arith
refusal_number net_short e = omega arith
refusal_number net_field e = omega arith
refusal_number net_extra e = omega arith

every : (s : List ℕ) → ((i : ℕ) → get_or s i 0 < 256) → Bytes s
every [] h = tt
every (b ∷ s) h = (h 0, every s (λ i. h (suc i)))

Good : List ℕ → Done → Type 0
Good out d = d.result.code ≡ 0 → (d.result.length ≤ length out) × Judged (take d.result.length d.out) 0

module _ (out : List ℕ) {tags : ℕ} {A : Net} (legal : Legal tags A) where
  at_front : (v : List ℕ) → length v ≤ length out → take (length v) (sets out 0 v) ≡ v
  at_front v h = ap (take (length v)) (sets-eq v out 0 (omega arith)) ∙ take_at v (drop (0 + length v) out) (length v) refl

  made_good : Good out (makes tags A out)
  unfolding makes Good
  made_good =
      by_pick (Good out) (over_registers A) _ _ (λ t z. absurd (omega arith))
      (λ t. by_pick (Good out) (over_situations A) _ _ (λ u z. absurd (omega arith))
      (λ u. by_pick (Good out) (ltb (length out) (length (bytes_of (table_of tags A)))) _ _ (λ v z. absurd (omega arith))
      (λ v z.
      let h = ltb-false (length out) (length (bytes_of (table_of tags A))) v in
      let fits : Fits tags A = fits_exactly.1 (legal, never_false (over_registers A) t (registers_true A), never_false (over_situations A) u (situations_true A)) in
      (h, subst (λ x. Judged x 0) (sym (at_front (bytes_of (table_of tags A)) h)) (build_taken fits)))))

module _ (file out : List ℕ) (room : ℕ) (bytes : (i : ℕ) → get_or file i 0 < 256) where
  of_good : (x : NetRead) → net_of file ≡ x → Good out (of_net x out)
  unfolding of_net Good
  of_good (net tags A) e = made_good out (written file (every file bytes) tags A e).1
  of_good (refused f) e = λ z. absurd (refusal_number f z)

  build_good : Good out (build_of file room out)
  unfolding build_of Good
  build_good = by_pick (Good out) (ltb room 65536) _ _ (λ t z. absurd (omega arith)) (λ t. of_good (net_of file) refl)

Whole : List ℕ → Done → Type 0
Whole out d = length d.out ≡ length out

made_whole : (out : List ℕ) (tags : ℕ) (A : Net) → Whole out (makes tags A out)
unfolding makes Whole
made_whole out tags A =
    by_pick (Whole out) (over_registers A) _ _ (λ t. refl)
    (λ t. by_pick (Whole out) (over_situations A) _ _ (λ u. refl)
    (λ u. by_pick (Whole out) (ltb (length out) (length (bytes_of (table_of tags A)))) _ _ (λ v. refl) (λ v. length-sets out 0 (bytes_of (table_of tags A)))))

of_whole : (out : List ℕ) (x : NetRead) → Whole out (of_net x out)
unfolding of_net Whole
of_whole out (net tags A) = made_whole out tags A
of_whole out (refused f) = refl

build_whole : (file out : List ℕ) (room : ℕ) → Whole out (build_of file room out)
unfolding build_of Whole
build_whole file out room = by_pick (Whole out) (ltb room 65536) _ _ (λ t. refl) (λ t. of_whole out (net_of file))

-- what a build leaves
pub build_sound : {file work out work' out' : List ℕ} {a : Answer} → ((i : ℕ) → get_or file i 0 < 256) → Builds file work out work' out' a → Sound a out'
unfolding Good Whole
build_sound {file} {work} {out} {work'} {out'} {a} bytes b =
    let g = build_good file out (length work) bytes in
    let w = build_whole file out (length work) in
    let l = ap length b.wrote in
    record {
      inside = λ z. omega (arith, ap (λ v. v.length) b.result, (g (sym (ap (λ v. v.code) b.result) ∙ z)).0);
      taken = λ z.
          subst (λ v. Judged (take v.length out') 0) (sym b.result)
          (subst (λ l. Judged (take (build_of file (length work) out).result.length l) 0) (sym b.wrote) (g (sym (ap (λ v. v.code) b.result) ∙ z)).1);
    }
