-- Document 01, "Checked examples": the cases P, from pattern text to answer and places, as one list under one theorem. Each case is computed: the text
-- is read, and the first path of its automaton over the line gives what is told. By the laws any table built of it tells the same. Assumes nothing.
use mathlib.Core.Path.{◌≡◌, refl}
use mathlib.Core.List.{List, map}
use mathlib.Core.Option.{Option, none, some}
use Prim.Native.Nat.{ℕ}
use Rattle.ground.specs.Pick.{pick}
use Rattle.net.specs.Rec.{Net}
use Rattle.paths.specs.Ways.{Held}
use Rattle.paths.specs.Situation.{answer, threads, close, on_quiet, on_byte}
use Rattle.paths.specs.Search.{visit}
use Rattle.paths.proofs.Laws.{loops_cut}
use Rattle.paths.proofs.Answers.{answer_right, answer_none}
use Rattle.card.specs.Table.{bytes_of}
use Rattle.card.specs.Run.{Line, Told}
use Rattle.run.specs.Runs.{Runs}
use Rattle.build.specs.Card.{table_of}
use Rattle.built.specs.Fits.{Fits}
use Rattle.built.specs.Tells.{Tells, matched, unmatched}
use Rattle.built.proofs.Answers.{one_told}
use Rattle.pattern.specs.Pat.{Pat, automaton}
use Rattle.pattern.specs.Measured.{tags}
use Rattle.pattern.specs.Reader.{single, read_in, read}
use Rattle.demands.specs.Cases.{cases, told_of, outcome}
use Rattle.demands.proofs.Demand2.{built_table_answers}

-- the cases P
pub cases_right : map outcome cases ≡ map (λ c. c.want) cases
unfolding read read_in single pick answer threads close on_quiet on_byte visit
cases_right = refl

told_right : (A : Net) (w : List ℕ) (o : Option (ℕ × Held)) → answer A w ≡ o → Tells A w (told_of o)
told_right A w none e = unmatched (λ a c. let d = (loops_cut A w a).1 c in answer_none A w e d.0 a d.1)
told_right A w (some r) e = matched r.0 r.1.tags (answer_right A w r.0 r.1 e)

-- and a table that is built of the pattern tells it: from text to places
pub case_built : (p : Pat) → Fits (tags p) (automaton p) → (w : List ℕ) → Line w → {t : Told} → Runs (bytes_of (table_of (tags p) (automaton p))) w t
    → t ≡ told_of (answer (automaton p) w)
case_built p fits w line r = one_told (built_table_answers fits w line r) (told_right (automaton p) w (answer (automaton p) w) refl)
