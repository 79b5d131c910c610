-- The laws of this crate, in document 01's words; each cites its proof. Assumes nothing.
use mathlib.Core.Path.{◌≡◌}
use mathlib.Core.Logic.{◌↔◌}
use mathlib.Core.List.{List}
use mathlib.Core.Option.{Option, none}
use Prim.Native.Nat.{ℕ}
use Rattle.paths.specs.Ways.{Accepted, Answer}
use Rattle.paths.specs.Situation.{first_end}
use Rattle.paths.specs.Registers.{situation}
use Rattle.paths.proofs.Laws.{loops_cut, run_none}
use Rattle.pattern.specs.Pat.{Pat, automaton}
use Rattle.language.specs.Words.{language}
use Rattle.language.specs.Written.{Written}
use Rattle.language.proofs.Matches.{path_reads, matches}
use Rattle.language.proofs.Denoted as denoted
use Rattle.language.proofs.Written as writing

-- "A record matches exactly if it is in the language of the pattern with tags erased (004's sum, product, iteration)": by any path, admissible or not
pub compile_language : (p : Pat) (w : List ℕ) → ((a : ℕ) × Accepted (automaton p) w a) ↔ language p w
compile_language p w = (
  λ c. let d = path_reads p c.1.path c.1.at_end in denoted.denotes p (rw c.1.whole at d.0),
  λ l. let d = (matches p w).1 (denoted.denoted p l) in (0, record { moves = d.0; last = d.1; path = d.2; whole = d.3; at_end = d.4 }),
)

-- so an answer is given only to a line of the language
pub answered_in : (p : Pat) (w : List ℕ) (a : ℕ) (τ : List (Option ℕ)) → Answer (automaton p) w a τ → language p w
answered_in p w a τ d = (compile_language p w).0 (a, (loops_cut (automaton p) w a).0 (d.moves, d.accepts))

-- NO_MATCH: the line's situation has no END exactly if the line is not in the language
pub no_match : (p : Pat) (w : List ℕ) → (first_end (automaton p) (situation (automaton p) w) ≡ none) ↔ (¬ language p w)
no_match p w = (
  λ e l. let c = (compile_language p w).1 l in (run_none (automaton p) w).0 e c.0 c.1,
  λ h. (run_none (automaton p) w).1 (λ a c. h ((compile_language p w).0 (a, c))),
)

-- "Records are numbered as written": each record's number is its place in the written order, and every next, first and second is below the count
pub numbering : (p : Pat) → Written p
numbering p = writing.written p
