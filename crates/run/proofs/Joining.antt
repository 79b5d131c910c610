-- A run, from the judgement and the line's length. Assumes nothing.
use native.Mathlib.Omega.{arith}
use Prim.Native.Nat.{ℕ, ◌<◌, ◌≤◌}
use mathlib.Core.Path.{◌≡◌, sym, subst}
use mathlib.Core.Logic.{inl}
use mathlib.Core.List.{List}
use lib.ListN.{length, get_or}
use Rattle.card.specs.Run.{line_max, Told, refused, tells}
use Rattle.ground.proofs.Every.{all_bytes}
use Rattle.card.specs.Decode.{table_at}
use Rattle.loader.specs.Judges.{Judges}
use Rattle.loader.proofs.Judging.{not_stuck, is_formed, is_ready}
use Rattle.run.specs.Carry.{Rides}
use Rattle.answers.specs.Refusals.{code_of}
use Rattle.answers.specs.declared.Refusal.{Refusal}
use Rattle.answers.proofs.Refusals.{code_above_ok}
use Rattle.card.specs.Judged.{Judged}
use Rattle.run.specs.Runs.{Runs, unfit, long, fit}

-- a table that is not taken
pub runs_unfit : {s w : List ℕ} (e : Refusal) → Judged s (code_of e) → Runs s w (refused (code_of e))
runs_unfit e j = let h = code_above_ok e in unfit (code_of e) j (λ z. omega arith)

module _ {s p : List ℕ} (j : Judges s 0 p) where
  pub runs_long : {w : List ℕ} → line_max < length w → Runs s w (refused 15)
  runs_long l = long j.judged l

  pub rides : {w : List ℕ} → ((i : ℕ) → get_or w i 0 < 256) → length w ≤ line_max → Rides s p w
  rides {w} b l = record {
    ready = is_ready j;
    short = l;
    found = λ e.
        let f = is_formed j.judged in
        not_stuck j.judged (table_at s) f.0 f.1 w (all_bytes w b, l) (inl e);
  }

  pub runs_fit : {w : List ℕ} {t : Told} → t ≡ tells (table_at s) w → length w ≤ line_max → Runs s w t
  runs_fit {w} e l =
      let f = is_formed j.judged in
      subst (Runs s w) (sym e) (fit j.judged l (table_at s) f.0 f.1)
