-- The laws of this crate, in document 01's words; each cites its proof. Assumes nothing.
use mathlib.Core.Path.{◌≡◌, refl, sym, ap, ◌∙◌}
use mathlib.Core.Logic.{◌⊎◌, inl, inr, ◌↔◌}
use mathlib.Core.List.{List, [], ◌∷◌, ◌++◌, Memᴰ}
use mathlib.Core.Option.{Option, none, some}
use Prim.Native.Nat.{ℕ, suc, ◌+◌, ◌≤◌, ◌<◌}
use native.Mathlib.Omega.{arith}
use lib.ListN.{length, get_or}
use Rattle.net.specs.Rec.{Net}
use Rattle.ground.specs.Lists.{each}
use Rattle.paths.specs.Ways.{Move, Accepts, Accepted, Answer}
use Rattle.paths.specs.Search.{Thread, firsts, paths}
use Rattle.paths.specs.Situation.{on_quiet, close, threads, first_end, answer}
use Rattle.paths.specs.Registers.{Tags, standing, step, Key, held_by, index, registers, renamed, situation, next, origins, State, feed, run, ready, shown}
use Rattle.paths.specs.Marks.{marked_close}
use Rattle.paths.specs.Meaning.{Best, Situation, trails, waiting, meant}
use Rattle.paths.specs.Equal.{Alike}
use Rattle.paths.specs.Limits.{Sit, bytes, Before, Input, Numbered, OverRegisters, OverSituations, first, Closes, TooManyRegisters, TooManySituations, Stops}
use Rattle.paths.proofs.Heart as heart
use Rattle.paths.proofs.Faithful.{onto, Trail}
use Rattle.paths.proofs.Same.{lift_end, lifts_end}
use Rattle.paths.proofs.Answers as answers
use Rattle.paths.proofs.Bridge.{at_place, answer_after}
use Rattle.paths.proofs.Meant as meaning
use Rattle.paths.proofs.Best as best
use Rattle.paths.proofs.Numbers.{Apart, register_at}
use Rattle.paths.proofs.Next as steps
use Rattle.paths.proofs.Marking as marks
use Rattle.paths.proofs.Run as runs
use Rattle.paths.proofs.Sharing.{same_numbers}
use Rattle.paths.proofs.Bounds.{places_eight, answer_eight, answer_within}
use Rattle.paths.proofs.Limits as limits
use Rattle.paths.proofs.Inputs as inputs
use Rattle.ground.proofs.Members.{Ordered}
use Rattle.paths.proofs.Member.{equal_or_not}
use Rattle.paths.specs.Numbering.{upto}

module _ (A : Net) where
  -- "Cutting loops loses no match: a record is accepted by an admissible path exactly if by any path"
  pub loops_cut : (w : List ℕ) (a : ℕ) → ((ms : List Move) × Accepts A w ms a) ↔ Accepted A w a
  loops_cut w a = (
    λ c. let p = (answers.accepted_by_any A w a).0 c in record { moves = p.0; last = p.1; path = p.2; whole = p.3; at_end = p.4 },
    λ p. (answers.accepted_by_any A w a).1 (p.moves, p.last, p.path, p.whole, p.at_end),
  )

  -- ---- situations

  -- Depth first, with one set of marks over the starts in order: for each record the first of all its paths, in order, whatever is gathered on the way.
  pub search_finds : {X : Type 0} (f : Move → X → X) (ss : List (Thread X)) → close f A ss ≡ firsts [] (each (paths (on_quiet f A) (suc (length A)) []) ss)
  search_finds f ss = (heart.closing f A ss).found

  -- so the search byte by byte finds "RANGE, MASK and END records that admissible paths stand on, each once, by its earliest path, earliest path first"
  pub search_right : (w : List ℕ) → Situation A w (standing A (threads onto A w (record { on = 0; had = [] } ∷ [])))
  search_right w = meaning.threads_right A w

  -- with the marks apart from the list, as code has it, it is the same search
  pub marks_right : {X : Type 0} (f : Move → X → X) (ss : List (Thread X)) → (marked_close f A ss).list ≡ standing A (close f A ss)
  marks_right f ss = ap (λ m. m.list) (marks.marked_right f A ss)

  -- the list is one, and it is computed by going through all admissible paths in order
  pub situation_one : (w : List ℕ) (l : List Trail) → Situation A w l → l ≡ trails A w
  situation_one w l x = best.situation_one A w l (trails A w) x (meaning.trails_right A w)

  -- the earliest path after one more byte goes on from the earliest path, before that byte, to the record that consumes it
  pub prefix_best : (w : List ℕ) (b : ℕ) (ms : List Move) (r : ℕ) → Best A (w ++ (b ∷ [])) ms r → best.GoesOn A w b ms
  prefix_best w b ms r x = best.best_goes_on A w b ms r x

  -- the situation as it is computed is the situation as it is defined
  pub situation_right : (w : List ℕ) → situation A w ≡ meant A w
  situation_right w = meaning.situation_meant A w

  waiting_eight : (w : List ℕ) (s : Thread Tags) → Memᴰ s (waiting A w) → length s.had ≡ 8
  waiting_eight w s m = places_eight A w s (rw (meaning.waiting_after A w) at m)

  -- two inputs have the same situation exactly if records, order, absences and sharing are the same
  pub situation_same : (v w : List ℕ) → (situation A v ≡ situation A w) ↔ Alike (waiting A v) (waiting A w)
  unfolding meant
  situation_same v w =
      let q = same_numbers (waiting A v) (waiting A w) (waiting_eight v) (waiting_eight w) in
      (λ e. q.0 (sym (situation_right v) ∙ e ∙ situation_right w), λ a. situation_right v ∙ q.1 a ∙ sym (situation_right w))

  -- ---- the answer

  end_of : (w : List ℕ) → answer A w ≡ lift_end (at_place (length w)) (first_end A (waiting A w))
  end_of w = answer_after A w ∙ ap (λ l. lift_end (at_place (length w)) (first_end A l)) (sym (meaning.waiting_after A w))

  -- the first END in the list at the end, with its places: "That path's END and tags are the answer"
  pub answer_right : (w : List ℕ) (a : ℕ) (τ : Tags) → first_end A (waiting A w) ≡ some (a, τ) → Answer A w a τ
  answer_right w a τ e = answers.answer_right A w a (at_place (length w) τ) (end_of w ∙ ap (λ o. lift_end (at_place (length w)) o) e)

  -- there is no END in it exactly if no path, admissible or not, accepts
  pub answer_none : (w : List ℕ) → (first_end A (waiting A w) ≡ none) ↔ ((a : ℕ) → ¬ Accepted A w a)
  answer_none w = (
    λ e a p. let c = (loops_cut w a).1 p in answers.answer_none A w (end_of w ∙ ap (λ o. lift_end (at_place (length w)) o) e) c.0 a c.1,
    λ h. by h (first_end A (waiting A w)) refl,
  )
    where
      by : ((a : ℕ) → ¬ Accepted A w a) → (o : Option (ℕ × Tags)) → first_end A (waiting A w) ≡ o → o ≡ none
      by h none e = refl
      by h (some r) e = let d = answer_right w r.0 r.1 e in absurd (h r.0 ((loops_cut w r.0).0 (d.moves, d.accepts)))

  -- there is one answer at most
  pub answer_one : {w : List ℕ} {a b : ℕ} {τ υ : List (Option ℕ)} → Answer A w a τ → Answer A w b υ → (a ≡ b) × (τ ≡ υ)
  answer_one d e = answers.one_answer A d e

  -- ---- the step

  -- the situation after one more byte follows from the last situation and the byte
  pub step_right : (w : List ℕ) (b : ℕ) → situation A (w ++ (b ∷ [])) ≡ next A b (situation A w)
  step_right w b = steps.situation_next A w b

  -- "Registers are numbered from 0 by first appearance": a register is one tag and one place, and each tag and place that is held has one
  pub registers_right : (l : List (Thread Tags)) (k : Key) → Memᴰ k (held_by l) → (index k (registers l) < length (registers l)) × (get_or (registers l) (index k (registers l)) (0, 0) ≡ k)
  registers_right l k m = register_at l k m

  pub registers_apart : (l : List (Thread Tags)) → Apart (λ t p. index (t, p) (registers l)) (held_by l)
  registers_apart l = steps.apart_index l

  -- the moves that the origins give carry the places: "One list reads all its sources before it writes"
  pub moves_right : (now b : ℕ) (s : State) → runs.Sound s → shown (feed A now b s) ≡ step A now b (shown s)
  moves_right now b s h = runs.feed_shown A now b s h

  -- ---- the run

  -- over any line, situations and places are those of the line
  pub run_right : (w : List ℕ) → ((run A 0 (ready A) w).sit ≡ situation A w) × (shown (run A 0 (ready A) w) ≡ waiting A w)
  run_right w = (runs.run_situation A w, runs.run_right A w ∙ sym (meaning.waiting_after A w))

  -- one byte more, at its place
  pub run_more : (p : ℕ) (s : State) (w : List ℕ) (b : ℕ) → run A p s (w ++ (b ∷ [])) ≡ feed A (suc (p + length w)) b (run A p s w)
  run_more p s w b = runs.run_snoc A p s w b

  -- each register of a situation is below its count, and the bank has a place for each
  pub run_sound : (w : List ℕ) → runs.Sound (run A 0 (ready A) w) × (length (run A 0 (ready A) w).bank ≡ length (registers (situation A w)))
  run_sound w = (runs.run_in_count A w, runs.run_bank A w)

  -- the places that a thread's registers hold in a bank
  abbrev pub read : List ℕ → Tags → Tags
  read bank ρ = renamed (λ t i. get_or bank i 0) 0 ρ

  end_shown : (s : State) → first_end A (shown s) ≡ lift_end (read s.bank) (first_end A s.sit)
  end_shown s = ap (λ l. first_end A l) (steps.rename_lifts (λ t i. get_or s.bank i 0) s.sit) ∙ lifts_end (read s.bank) A s.sit

  end_run : (w : List ℕ) → first_end A (waiting A w) ≡ lift_end (read (run A 0 (ready A) w).bank) (first_end A (situation A w))
  end_run w =
      ap (λ l. first_end A l) (sym (run_right w).1)
      ∙ end_shown (run A 0 (ready A) w)
      ∙ ap (λ l. lift_end (read (run A 0 (ready A) w).bank) (first_end A l)) (run_right w).0

  -- "At the end the situation's answer and register fields give the result": of the first END of the situation, its registers read from the bank
  pub run_answer : (w : List ℕ) (a : ℕ) (ρ : Tags) → first_end A (situation A w) ≡ some (a, ρ) → Answer A w a (read (run A 0 (ready A) w).bank ρ)
  run_answer w a ρ e = answer_right w a (read (run A 0 (ready A) w).bank ρ) (end_run w ∙ ap (λ o. lift_end (read (run A 0 (ready A) w).bank) o) e)

  -- NO_MATCH: the situation has no END exactly if no path, admissible or not, accepts
  pub run_none : (w : List ℕ) → (first_end A (situation A w) ≡ none) ↔ ((a : ℕ) → ¬ Accepted A w a)
  run_none w = (
    λ e. (answer_none w).0 (end_run w ∙ ap (λ o. lift_end (read (run A 0 (ready A) w).bank) o) e),
    λ h. no_end (first_end A (situation A w)) (sym (end_run w) ∙ (answer_none w).1 h),
  )
    where
      no_end : (o : Option (ℕ × Tags)) → lift_end (read (run A 0 (ready A) w).bank) o ≡ none → o ≡ none
      no_end none e = refl
      no_end (some r) e = let z : ◌≡◌ {A = ℕ} 0 1 = cc in absurd (omega arith)

  -- a register of the next situation comes from an old register or from the byte's place, which is the number past these
  pub origins_right : (w : List ℕ) (b : ℕ) → (length (origins A b (situation A w)) ≡ length (registers (next A b (situation A w))))
      × ((o : ℕ) → Memᴰ o (origins A b (situation A w)) → o ≤ length (registers (situation A w)))
  origins_right w b = (runs.origins_count A b (situation A w), runs.origins_old_or_now A b (situation A w) (runs.situation_sound A w))

  -- each place of an answer is of the line, and there are eight
  pub answer_places : {w : List ℕ} {a : ℕ} {τ : Tags} → Answer A w a τ → (length τ ≡ 8) × ((p : ℕ) → Memᴰ (some p) τ → p ≤ length w)
  answer_places d = (answer_eight d, answer_within d)

  -- ---- the exploration

  pub record Explores : Type 0 where
    -- what it has found so far are document 01's first situations, under their numbers
    pub in_order : (i k : ℕ) → k < length (first A i) → Numbered A k (get_or (first A i) k [])
    -- once each has been gone through they are all: those of every input, closed under every byte, and each number's
    pub complete : (n : ℕ) → length (first A n) ≤ n → (w : List ℕ) → Input w → Memᴰ (situation A w) (first A n)
    pub closed : (n : ℕ) → length (first A n) ≤ n → (s : Sit) (b : ℕ) → b < 256 → Memᴰ s (first A n) → Memᴰ (next A b s) (first A n)
    pub numbers : (n : ℕ) → length (first A n) ≤ n → (k : ℕ) (s : Sit) → Numbered A k s → (k < length (first A n)) × (get_or (first A n) k [] ≡ s)
    -- it closes, or stops: neither refusal; REGISTERS; SITUATIONS and not REGISTERS
    pub closes : (n : ℕ) → Closes A n → (¬ OverRegisters A) × (¬ OverSituations A)
    pub registers_stop : Stops A TooManyRegisters → OverRegisters A
    pub situations_stop : Stops A TooManySituations → OverSituations A × (¬ OverRegisters A)
    -- and it is one of these for every automaton
    pub one_of_three : ((n : ℕ) × Closes A n) ⊎ (OverRegisters A ⊎ (OverSituations A × (¬ OverRegisters A)))

  pub explored_right : Explores
  explored_right =
      record {
        in_order = limits.first_numbered A;
        complete = limits.closed_every A;
        closed = λ n h s b c m. limits.closed_next A n h c m;
        numbers = λ n h k s x. limits.closed_numbered A n h x;
        closes = λ n c. (limits.closes_registers A c, limits.closes_situations A c);
        registers_stop = limits.stop_registers A;
        situations_stop = limits.stop_situations A;
        one_of_three = limits.one_of_three A;
      }

  -- the numbers themselves: 0 is the empty input's; each has one situation, each situation one; the lower has the earlier first input; every input's has one; each is an input's
  pub number_zero : Numbered A 0 (situation A [])
  number_zero = limits.numbered_zero A

  pub number_one : {k : ℕ} {s t : Sit} → Numbered A k s → Numbered A k t → s ≡ t
  number_one x y = limits.numbered_one A x y

  pub number_once : {k j : ℕ} {s : Sit} → Numbered A k s → Numbered A j s → k ≡ j
  number_once x y = limits.number_once A x y

  pub number_order : {k j : ℕ} {s t : Sit} → Numbered A k s → Numbered A j t → k < j → (w : List ℕ) → Input w → situation A w ≡ t
      → (v : List ℕ) × (Input v × ((situation A v ≡ s) × Before v w))
  number_order x y h w i e = limits.number_order A x y h w i e

  pub number_every : (w : List ℕ) → Input w → (k : ℕ) × Numbered A k (situation A w)
  number_every w h = limits.numbered_every A w h

  pub number_input : {k : ℕ} {s : Sit} → Numbered A k s → (w : List ℕ) × Input w × (situation A w ≡ s)
  number_input x = limits.numbered_input A x

  -- for whoever explores: the number that is answered, 0, REGISTERS or SITUATIONS, is right in both directions
  pub refused_exactly : (r : ℕ) → (r ≡ 0 → (n : ℕ) × Closes A n) → (r ≡ 10 → Stops A TooManyRegisters) → (r ≡ 11 → Stops A TooManySituations)
      → ((r ≡ 0 → ⊥) → (r ≡ 10 → ⊥) → r ≡ 11)
      → ((r ≡ 10) ↔ OverRegisters A) × (((r ≡ 11) ↔ (OverSituations A × (¬ OverRegisters A))) × ((r ≡ 0) ↔ ((¬ OverRegisters A) × (¬ OverSituations A))))
  refused_exactly r zero_closes ten eleven one_of = (
    (λ e. limits.stop_registers A (ten e), λ o. is_ten o (equal_or_not r 0) (equal_or_not r 10)),
    (
      (λ e. limits.stop_situations A (eleven e), λ o. is_eleven o (equal_or_not r 0) (equal_or_not r 10)),
      (λ e. let c = (zero_closes e).1 in (limits.closes_registers A c, limits.closes_situations A c), λ o. is_zero o (equal_or_not r 0) (equal_or_not r 10)),
    ),
  )
    where
      is_ten : OverRegisters A → (r ≡ 0) ⊎ (¬ (r ≡ 0)) → (r ≡ 10) ⊎ (¬ (r ≡ 10)) → r ≡ 10
      is_ten o (inl e) q = absurd (limits.closes_registers A (zero_closes e).1 o)
      is_ten o (inr e) (inl q) = q
      is_ten o (inr e) (inr q) = absurd ((limits.stop_situations A (eleven (one_of e q))).1 o)

      is_eleven : OverSituations A × (¬ OverRegisters A) → (r ≡ 0) ⊎ (¬ (r ≡ 0)) → (r ≡ 10) ⊎ (¬ (r ≡ 10)) → r ≡ 11
      is_eleven o (inl e) q = absurd (limits.closes_situations A (zero_closes e).1 o.0)
      is_eleven o (inr e) (inl q) = absurd (o.1 (limits.stop_registers A (ten q)))
      is_eleven o (inr e) (inr q) = one_of e q

      is_zero : (¬ OverRegisters A) × (¬ OverSituations A) → (r ≡ 0) ⊎ (¬ (r ≡ 0)) → (r ≡ 10) ⊎ (¬ (r ≡ 10)) → r ≡ 0
      is_zero o (inl e) q = e
      is_zero o (inr e) (inl q) = absurd (o.0 (limits.stop_registers A (ten q)))
      is_zero o (inr e) (inr q) = absurd (o.1 (limits.stop_situations A (eleven (one_of e q))).0)

-- the inputs of at most n bytes are listed "shorter first, then by byte values"
pub inputs_ordered : (n : ℕ) → Ordered Before (upto (bytes 0 256) n)
inputs_ordered n = inputs.inputs_ordered n
