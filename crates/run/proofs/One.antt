-- A run's promise settles its result. Assumes nothing.
use Prim.Native.Nat.{ℕ}
use native.Mathlib.Omega.{arith}
use mathlib.Core.Path.{◌≡◌, refl, sym, ap, ◌∙◌}
use mathlib.Core.List.{List}
use Rattle.card.specs.Table.{Table}
use Rattle.card.specs.Run.{Told, refused, tells}
use Rattle.card.proofs.Decoded.{bytes_one}
use Rattle.loader.proofs.Judging.{judged_one}
use Rattle.std.specs.Prelude.{Result, Ok, Err}
use Rattle.answers.specs.declared.Refusal.{Refusal}
use Rattle.answers.proofs.Refusals.{code_one, code_above_ok}
use Rattle.run.specs.declared.Match.{Match}
use Rattle.run.specs.Runs.{told_of, Runs, unfit, long, fit}

pub runs_one : {s w : List ℕ} {t u : Told} → Runs s w t → Runs s w u → t ≡ u
runs_one (unfit c j n) (unfit d k m) = ap refused (judged_one j k)
runs_one (unfit c j n) (long k l) = absurd (n (judged_one j k))
runs_one (unfit c j n) (fit k l U g e) = absurd (n (judged_one j k))
runs_one (long j h) (unfit d k m) = absurd (m (judged_one k j))
runs_one (long j h) (long k l) = refl
runs_one (long j h) (fit k l U g e) = absurd (omega arith)
runs_one (fit j h T f d) (unfit e k m) = absurd (m (judged_one k j))
runs_one (fit j h T f d) (long k l) = absurd (omega arith)
runs_one {s} {w} (fit j h T f d) (fit k l U g e) = ap (λ (x : Table). tells x w) (bytes_one T U f g (sym d ∙ e))

-- two results that tell the same are one
pub told_one : (a b : Result Match Refusal) → told_of a ≡ told_of b → a ≡ b
told_one (Ok m) (Ok n) h = ap (λ (t : Told). Ok (record { answer = t.answer; places = t.places })) h
told_one (Ok m) (Err f) h = absurd (omega (arith, ap (λ (t : Told). t.code) h, code_above_ok f))
told_one (Err e) (Ok n) h = absurd (omega (arith, ap (λ (t : Told). t.code) h, code_above_ok e))
told_one (Err e) (Err f) h = ap Err (code_one e f (ap (λ (t : Told). t.code) h))

-- a second result that meets the promise of `run` is equal
pub run_one : {s w : List ℕ} (a b : Result Match Refusal) → Runs s w (told_of a) → Runs s w (told_of b) → a ≡ b
run_one a b r q = told_one a b (runs_one r q)
