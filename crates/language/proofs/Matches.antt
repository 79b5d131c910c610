-- Document 01: a record matches exactly if it is in the language of the pattern with tags erased. Assumes nothing.
use mathlib.Core.Path.{◌≡◌, refl, sym, ap, ◌∙◌, subst}
use mathlib.Core.Logic.{◌↔◌}
use mathlib.Core.List.{List, [], ◌++◌, append-nil}
use mathlib.Core.Option.{none, some}
use Prim.Native.Nat.{ℕ}
use native.Mathlib.Omega.{arith}
use Rattle.net.specs.Rec.{end, Net, rec}
use Rattle.paths.specs.Ways.{Move, by_range, by_mask, by_first, by_second, by_tag, Way, stay, go, eaten, Held, Accepts}
use Rattle.paths.specs.Situation.{answer}
use Rattle.paths.proofs.Answers.{accepted_by_any, answer_right, answer_none}
use Rattle.pattern.specs.Pat.{Pat, size, automaton}
use Rattle.language.specs.Language.{In}
use Rattle.language.proofs.Walk.{stands, ends, begins, moves, eaten_moves, path_of, Leaves, leaves}

-- no move leads from an END
pub at_rest : (A : Net) {r a last : ℕ} {ms : List Move} → rec A r ≡ end a → Way A r ms last → (ms ≡ []) × (last ≡ r)
at_rest A e stay = (refl, refl)
at_rest A e (go (by_range d l h) y) = let z : ◌≡◌ {A = ℕ} 0 1 = cc in absurd (omega arith)
at_rest A e (go (by_mask d h) y) = let z : ◌≡◌ {A = ℕ} 0 1 = cc in absurd (omega arith)
at_rest A e (go (by_first d) y) = let z : ◌≡◌ {A = ℕ} 0 1 = cc in absurd (omega arith)
at_rest A e (go (by_second d) y) = let z : ◌≡◌ {A = ℕ} 0 1 = cc in absurd (omega arith)
at_rest A e (go (by_tag d) y) = let z : ◌≡◌ {A = ℕ} 0 1 = cc in absurd (omega arith)

-- the same reading, of the same word written otherwise
pub respell : {p : Pat} {v w : List ℕ} (d : In p v) → v ≡ w → (d' : In p w) × (moves d' ≡ moves d)
respell {p} d e = subst (λ u. (d' : In p u) × (moves d' ≡ moves d)) e (d, refl)

module _ (p : Pat) where
  -- a reading is a path from the start to the END
  pub path_from : {w : List ℕ} (d : In p w) → Way (automaton p) 0 (moves d) (size p)
  path_from d = let h = path_of (automaton p) p 0 (size p) (stands p) d in rw (begins p) at h

  -- and each path from the start to an END is the reading of what it consumes
  pub path_reads : {ms : List Move} {last a : ℕ} → Way (automaton p) 0 ms last → rec (automaton p) last ≡ end a → (d : In p (eaten ms)) × (ms ≡ moves d) × (last ≡ size p)
  path_reads {ms} {last} {a} y e = by (leaves (automaton p) last a e p 0 (size p) (stands p) {ms = ms} (rw (begins p) y))
    where
      by : Leaves (automaton p) p (size p) last ms → (d : In p (eaten ms)) × (ms ≡ moves d) × (last ≡ size p)
      by l =
          let rest = at_rest (automaton p) (ends p) l.onward in
          let whole : ms ≡ moves l.reading = l.whole ∙ ap (λ r. moves l.reading ++ r) rest.0 ∙ append-nil (moves l.reading) in
          let d = respell l.reading (sym (eaten_moves l.reading) ∙ ap eaten (sym whole)) in
          (d.0, whole ∙ sym d.1, rest.1)

  -- MATCHES: some path accepts w exactly if w is in the language
  pub matches : (w : List ℕ) → ((ms : List Move) × (last : ℕ) × Way (automaton p) 0 ms last × (eaten ms ≡ w) × (rec (automaton p) last ≡ end 0)) ↔ In p w
  matches w = (
    λ c. let d = path_reads c.2 c.4 in rw c.3 at d.0,
    λ d. (moves d, size p, path_from d, eaten_moves d, ends p),
  )

  -- the same for admissible paths, and for what the builder's search finds
  pub accepts_in : (w : List ℕ) → ((ms : List Move) × Accepts (automaton p) w ms 0) ↔ In p w
  accepts_in w = (
    λ c. (matches w).0 ((accepted_by_any (automaton p) w 0).0 c),
    λ d. (accepted_by_any (automaton p) w 0).1 ((matches w).1 d),
  )

  pub no_answer : (w : List ℕ) → answer (automaton p) w ≡ none → ¬ In p w
  no_answer w e d = let c = (accepts_in w).1 d in answer_none (automaton p) w e c.0 0 c.1

  pub some_answer : (w : List ℕ) (a : ℕ) (h : Held) → answer (automaton p) w ≡ some (a, h) → In p w
  some_answer w a h e =
      let c = (answer_right (automaton p) w a h e).accepts in
      let d = path_reads c.path c.at_end in
      rw c.whole at d.0
