-- Demand 1: "Pattern, automaton, table and record may hold any bytes; each call ends and answers by document 01; a refusal alters no output buffer."
-- That each call ends and meets its promise for every input is what the check of its crate says; here is that a refusal keeps the output, and that each
-- promise leaves one result. Assumes nothing.
use mathlib.Core.Path.{◌≡◌, refl, sym, ap, ◌∙◌}
use mathlib.Core.Bool.{Bool, true, false}
use mathlib.Core.List.{List}
use Prim.Native.Nat.{ℕ}
use Rattle.ground.specs.Pick.{pick}
use Rattle.std.specs.Prelude.{Result}
use Rattle.answers.specs.declared.Refusal.{Refusal}
use Rattle.net.specs.Items.{NetRead, net, refused, net_of}
use Rattle.build.specs.Build.{answered, Done, Builds, makes, of_net, build_of}
use Rattle.build.specs.declared.Built.{Built}
use Rattle.build.proofs.Refuses as refuses
use Rattle.pattern.specs.Maker.{Given, given, maker, judged}
use Rattle.pattern.specs.Reader.{Res, ok, form, deep, alts, read}
use Rattle.pattern.specs.Made.{made_of}
use Rattle.pattern.specs.declared.Fault.{Fault}
use Rattle.pattern.proofs.One.{made_one}

-- a choice by a test keeps what both sides keep
either : {A : Type 0} (P : A → Type 0) (c : Bool) {x y : A} → P x → P y → P (pick c x y)
unfolding pick
either P true a b = a
either P false a b = b

-- ---- pattern

Kept : List ℕ → Given → Type 0
Kept out g = (g.answer.code ≡ 0 → ⊥) → g.after ≡ out

pub pattern_keeps : (text out : List ℕ) → ((maker text out).answer.code ≡ 0 → ⊥) → (maker text out).after ≡ out
unfolding maker Kept
pattern_keeps text out = either (Kept out) _ (λ _. refl) (by (read text alts 0 0))
  where
    by : (r : Res) → Kept out (judged r text out)
    by (ok e p) = either (Kept out) _ (λ _. refl) (either (Kept out) _ (λ _. refl) (either (Kept out) _ (λ _. refl) (λ n. absurd (n refl))))
    by (form q) = λ _. refl
    by (deep q) = λ _. refl

-- a second result and output that meet the promise of `pattern` are equal
pub pattern_one : (text out : List ℕ) (a b : Result ℕ Fault) (u v : List ℕ) → given (made_of a) u ≡ maker text out → given (made_of b) v ≡ maker text out → (a ≡ b) × (u ≡ v)
pattern_one text out a b u v p q = let e = p ∙ sym q in (made_one a b (ap (λ g. g.answer) e), ap (λ g. g.after) e)

-- ---- build

Stays : List ℕ → Done → Type 0
Stays out d = (d.result.code ≡ 0 → ⊥) → d.out ≡ out

pub build_keeps : (file : List ℕ) (room : ℕ) (out : List ℕ) → ((build_of file room out).result.code ≡ 0 → ⊥) → (build_of file room out).out ≡ out
unfolding build_of of_net makes Stays
build_keeps file room out = either (Stays out) _ (λ _. refl) (by (net_of file))
  where
    by : (n : NetRead) → Stays out (of_net n out)
    by (net tags A) = either (Stays out) _ (λ _. refl) (either (Stays out) _ (λ _. refl) (either (Stays out) _ (λ _. refl) (λ n. absurd (n refl))))
    by (refused f) = λ _. refl

-- a second result, output and work memory that meet the promise of `build` are equal
pub build_one : (file work out : List ℕ) (w v o p : List ℕ) (a b : Result Built Refusal) → Builds file work out w o (answered a) → Builds file work out v p (answered b) → (a ≡ b) × ((o ≡ p) × (w ≡ v))
build_one = refuses.build_one
