-- Demand 2: "For a record of at most 32767 bytes a built table matches exactly when some path of the tagged automaton accepts it, and reports
-- answer and tag places of the first such path, empty loops cut, in leftmost greedy order. Too large a table is refused exactly where document 01
-- says." Each theorem cites the laws below it. Assumes nothing.
use mathlib.Core.Path.{◌≡◌, refl, sym, ◌∙◌, subst}
use mathlib.Core.Logic.{◌↔◌}
use mathlib.Core.List.{List}
use mathlib.Core.Option.{Option}
use Prim.Native.Nat.{ℕ, ◌<◌}
use native.Mathlib.Omega.{arith}
use lib.ListN.{length}
use Rattle.ground.proofs.Every.{bytes_at}
use Rattle.net.specs.Rec.{Net}
use Rattle.ground.specs.Lists.{Bytes}
use Rattle.paths.specs.Ways.{Accepted, Accepts, Move, Answer}
use Rattle.paths.specs.Limits.{OverRegisters, OverSituations}
use Rattle.paths.proofs.Laws.{loops_cut}
use Rattle.card.specs.Table.{bytes_of}
use Rattle.card.specs.Run.{Line, Told, tells}
use Rattle.run.specs.Runs.{Runs, fit}
use Rattle.run.proofs.One.{runs_one}
use Rattle.build.specs.Card.{table_of}
use Rattle.build.specs.Build.{build_of}
use Rattle.built.specs.Fits.{Fits}
use Rattle.built.specs.Tells.{Tells, matched, unmatched, found}
use Rattle.demands.specs.Outcome.{Outcome}
use Rattle.built.proofs.States.{fits_exactly}
use Rattle.built.proofs.Formed.{table_formed}
use Rattle.built.proofs.Answers.{build_answers, answers_exactly, build_taken}
use Rattle.demands.proofs.Outcome as outcome
use Rattle.pattern.specs.Pat.{Pat, size, automaton}
use Rattle.pattern.specs.Measured.{tags}
use Rattle.pattern.specs.Maker.{Given, maker}
use Rattle.pattern.proofs.Legal.{read_legal}
use Rattle.grammar.specs.Answer.{Legible, Answered}
use Rattle.grammar.proofs.ReadSpells.{read_spells_16}
use Rattle.grammar.proofs.Answered.{maker_exactly}
use Rattle.language.specs.Words.{language}
use Rattle.language.proofs.Laws.{compile_language}

-- "a record is accepted by an admissible path exactly if by any path"
pub cutting_loses_nothing : (A : Net) (w : List ℕ) (e : ℕ) → ((ms : List Move) × Accepts A w ms e) ↔ Accepted A w e
cutting_loses_nothing A w e = loops_cut A w e

matches_by : {A : Net} {w : List ℕ} {t : Told} → Tells A w t → (t.code ≡ 0) ↔ ((e : ℕ) × Accepted A w e)
matches_by {A} {w} (matched e τ a) = (λ _. (e, (loops_cut A w e).0 (a.moves, a.accepts)), λ _. refl)
matches_by (unmatched n) = (λ z. absurd (let y : ◌≡◌ {A = ℕ} 16 0 = z in omega arith), λ c. absurd (n c.0 c.1))

module _ {tags : ℕ} {A : Net} (fits : Fits tags A) (w : List ℕ) (line : Line w) where
  -- the public `run` over the bytes of the built table
  run_tells : {t : Told} → Runs (bytes_of (table_of tags A)) w t → t ≡ tells (table_of tags A) w
  run_tells r = runs_one r (fit (build_taken fits) line.1 (table_of tags A) (table_formed fits) refl)

  -- what it tells: the answer of the earliest admissible path, or that no path accepts
  pub built_table_answers : {t : Told} → Runs (bytes_of (table_of tags A)) w t → Tells A w t
  built_table_answers r = subst (Tells A w) (sym (run_tells r)) (build_answers fits w line)

  -- "a built table matches exactly when some path of the tagged automaton accepts it"
  pub matches_exactly : {t : Told} → Runs (bytes_of (table_of tags A)) w t → (t.code ≡ 0) ↔ ((e : ℕ) × Accepted A w e)
  matches_exactly r = matches_by (built_table_answers r)

  -- "and reports answer and tag places of the first such path"
  pub reports_exactly : {t : Told} → Runs (bytes_of (table_of tags A)) w t → (e : ℕ) (τ : List (Option ℕ)) → Answer A w e τ ↔ (t ≡ found e τ)
  reports_exactly r e τ = (
    λ a. run_tells r ∙ (answers_exactly fits w line e τ).0 a,
    λ q. (answers_exactly fits w line e τ).1 (sym (run_tells r) ∙ q),
  )

-- "Too large a table is refused exactly where document 01 says": every answer of `build`, for every file
pub refused_exactly : (file : List ℕ) → Bytes file → (room : ℕ) (out : List ℕ) → Outcome file room out (build_of file room out)
refused_exactly = outcome.build_refuses

-- the pattern maker answers by the grammar, in document 01's order of checks
pub made_exactly : (text : List ℕ) → Bytes text → (out : List ℕ) (g : Given) → (g ≡ maker text out) ↔ Answered text out g
made_exactly text b out g = maker_exactly text out b g

-- From pattern text to places: what a text spells, if it is not too big and neither limit is passed, is built; the run of its table answers as the first
-- path of its automaton does, and matches exactly the pattern's language.
module _ (text : List ℕ) (b : Bytes text) (p : Pat) (legible : Legible text p) (small : size p < 64) (registers : ¬ OverRegisters (automaton p)) (situations : ¬ OverSituations (automaton p)) where
  pub text_fits : Fits (tags p) (automaton p)
  text_fits =
      let r = (read_spells_16 text b p).1 (legible.spells, legible.shallow) in
      fits_exactly.1 (read_legal text (bytes_at text b) (length text) p r small, registers, situations)

  pub text_answers : (w : List ℕ) → Line w → {t : Told} → Runs (bytes_of (table_of (tags p) (automaton p))) w t → Tells (automaton p) w t
  text_answers w line r = built_table_answers text_fits w line r

  pub text_matches : (w : List ℕ) → Line w → {t : Told} → Runs (bytes_of (table_of (tags p) (automaton p))) w t → (t.code ≡ 0) ↔ language p w
  text_matches w line r =
      let m = matches_exactly text_fits w line r in
      let l = compile_language p w in (
        λ z. l.0 (m.0 z),
        λ z. m.1 (l.1 z),
      )
