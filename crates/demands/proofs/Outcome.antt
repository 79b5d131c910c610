-- What `build` promises is what document 01 says: each answer exactly where it is due. Assumes nothing.
use mathlib.Core.Path.{◌≡◌, refl}
use mathlib.Core.Bool.{Bool, true, false}
use mathlib.Core.List.{List}
use Prim.Native.Nat.{ℕ, ◌≤◌}
use native.Mathlib.Omega.{arith}
use lib.Dec.{ltb}
use lib.ListN.{length}
use borrow.Author.Tests.{ltb-true, ltb-false}
use Rattle.ground.specs.Pick.{pick}
use Rattle.net.specs.Rec.{Net}
use Rattle.ground.specs.Lists.{Bytes}
use Rattle.net.specs.Items.{NetRead, net, refused, net_of}
use Rattle.net.proofs.Inverse.{written}
use Rattle.card.specs.Table.{bytes_of}
use Rattle.build.specs.Card.{table_of}
use Rattle.build.specs.Build.{Done, refuses, makes, of_net, build_of, over_registers, over_situations}
use Rattle.build.proofs.Verdict.{registers_true, registers_only, situations_true, situations_only}
use Rattle.built.specs.Fits.{Fits}
use Rattle.demands.specs.Outcome.{Holds, Outcome, work_small, no_net, registers, situations, out_small, built}
use Rattle.built.proofs.States.{fits_exactly}

true_false : {P : Type 0} {c : Bool} → c ≡ true → c ≡ false → P
true_false {P} {c} p q = let z : ◌≡◌ {A = Bool} true false = cc in absurd (let y : ◌≡◌ {A = ℕ} 0 1 = cc in omega arith)

module _ (file : List ℕ) (room : ℕ) (out : List ℕ) (big : 65536 ≤ room) (tags : ℕ) (A : Net) (h : Holds file tags A) where
  -- a choice by a test, each side shown where the test sends it
  by_test : (c : Bool) (x y : Done) → (c ≡ true → Outcome file room out x) → (c ≡ false → Outcome file room out y) → Outcome file room out (pick c x y)
  unfolding pick
  by_test true x y f g = f refl
  by_test false x y f g = g refl

  fitting : over_registers A ≡ false → over_situations A ≡ false → Fits tags A
  fitting r s = fits_exactly.1 (h.legal, (λ o. true_false (registers_true A o) r), (λ o. true_false (situations_true A o) s))

  made : Outcome file room out (makes tags A out)
  unfolding makes
  made =
      by_test (over_registers A) _ _ (λ r. registers big tags A h (registers_only A r)) (λ r.
      by_test (over_situations A) _ _ (λ s. situations big tags A h (λ o. true_false (registers_true A o) r) (situations_only A s)) (λ s.
      by_test (ltb (length out) (length (bytes_of (table_of tags A)))) _ _
      (λ t. out_small big tags A h (fitting r s) (ltb-true _ _ t))
      (λ t. built big tags A h (fitting r s) (ltb-false _ _ t))))

of_read : (file : List ℕ) (room : ℕ) (out : List ℕ) → Bytes file → 65536 ≤ room → (n : NetRead) → net_of file ≡ n → Outcome file room out (of_net n out)
unfolding of_net
of_read file room out b big (net tags A) e =
    let w = written file b tags A e in
    made file room out big tags A (record { written = w.0; legal = w.1 })
of_read file room out b big (refused f) e = no_net big f e

-- "build 9, net, 10 or 11, 12"
pub build_refuses : (file : List ℕ) → Bytes file → (room : ℕ) (out : List ℕ) → Outcome file room out (build_of file room out)
unfolding build_of pick
build_refuses file b room out = by (ltb room 65536) refl
  where
    by : (c : Bool) → ltb room 65536 ≡ c → Outcome file room out (pick c (refuses 9 out) (of_net (net_of file) out))
    by true e = work_small (ltb-true room 65536 e)
    by false e = of_read file room out b (ltb-false room 65536 e) (net_of file) refl
