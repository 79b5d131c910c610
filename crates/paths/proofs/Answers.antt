-- The first END of the builder's list, with what its thread holds, is document 01's answer. Assumes nothing.
use mathlib.Core.Path.{◌≡◌, refl, sym, ap, ◌∙◌}
use mathlib.Core.Logic.{◌⊎◌, inl, inr, ◌↔◌}
use mathlib.Core.List.Memᴰ
use mathlib.Core.List.{List, [], ◌∷◌, ◌++◌, append-nil, Memᴰ}
use mathlib.Core.Option.{Option, none, some, some-injective}
use Prim.Native.Nat.{ℕ}
use native.Mathlib.Omega.{arith}
use lib.Seq.{append_snoc}
use Rattle.net.specs.Rec.{Rec, range, mask, fork, tag, end, Net, rec}
use Rattle.paths.specs.Ways.{Move, Way, eaten, Earlier, parts, later, stay, go, Held, empty_handed, act, held, Accepts, Answer}
use Rattle.paths.specs.Search.{Thread, ons, add, firsts}
use Rattle.paths.specs.Situation.{every, threads, ending, first_end, answer}
use Rattle.paths.proofs.Member.{mem_or_not}
use Rattle.paths.proofs.Closure.{add_known, add_new}
use Rattle.paths.proofs.Heart.{heart}
use Rattle.paths.proofs.Faithful.{onto, Trail, Reached, every_sound}
use Rattle.paths.proofs.Complete.{every_complete, loops}
use Rattle.paths.proofs.Order.{Ordered, Bef, every_ordered, before_earlier, one_next}
use Rattle.paths.proofs.Same.{lifts_threads, lift_end, lifts_end}

-- ---- the first END of `firsts` is the first END

module _ {X : Type 0} where
  stops_or_skips : (k : Rec) → ((x : X) (o o' : Option (ℕ × X)) → ending k x o ≡ ending k x o') ⊎ ((x : X) (o : Option (ℕ × X)) → ending k x o ≡ o)
  stops_or_skips (range lo hi n) = inr (λ x o. refl)
  stops_or_skips (mask bits n) = inr (λ x o. refl)
  stops_or_skips (fork p q) = inr (λ x o. refl)
  stops_or_skips (tag t n) = inr (λ x o. refl)
  stops_or_skips (end a) = inl (λ x o o'. refl)

  module _ (A : Net) where
    skip : (O : List (Thread X)) (s : Thread X) (l : List (Thread X)) → ((x : X) (o : Option (ℕ × X)) → ending (rec A s.on) x o ≡ o)
        → first_end A (O ++ s ∷ l) ≡ first_end A (O ++ l)
    skip [] s l h = h s.had (first_end A l)
    skip (t ∷ O) s l h = ap (λ o. ending (rec A t.on) t.had o) (skip O s l h)

    skip_known : (O : List (Thread X)) (s : Thread X) (l : List (Thread X)) → Memᴰ s.on (ons O) → first_end A (O ++ s ∷ l) ≡ first_end A (O ++ l)
    skip_known [] s l m = absurd (elim m [ ])
    skip_known (t ∷ O) s l m = by (λ k. skip_known O s l k) (Memᴰ.cases_cons m)
      where
        at_once : s.on ≡ t.on
            → ((x : X) (o o' : Option (ℕ × X)) → ending (rec A t.on) x o ≡ ending (rec A t.on) x o') ⊎ ((x : X) (o : Option (ℕ × X)) → ending (rec A t.on) x o ≡ o)
            → first_end A (t ∷ (O ++ s ∷ l)) ≡ first_end A (t ∷ (O ++ l))
        at_once e (inl h) = h t.had (first_end A (O ++ s ∷ l)) (first_end A (O ++ l))
        at_once e (inr h) = ap (λ o. ending (rec A t.on) t.had o) (skip O s l (λ x o. rw e (h x o)))

        by : (Memᴰ s.on (ons O) → first_end A (O ++ s ∷ l) ≡ first_end A (O ++ l)) → (s.on ≡ t.on) ⊎ Memᴰ s.on (ons O)
            → first_end A (t ∷ (O ++ s ∷ l)) ≡ first_end A (t ∷ (O ++ l))
        by ih (inl e) = at_once e (stops_or_skips (rec A t.on))
        by ih (inr k) = ap (λ o. ending (rec A t.on) t.had o) (ih k)

    end_firsts : (l O : List (Thread X)) → first_end A (firsts O l) ≡ first_end A (O ++ l)
    end_firsts [] O = ap (λ o. first_end A o) (sym (append-nil O))
    end_firsts (s ∷ l) O = end_firsts l (add O s) ∙ by (mem_or_not s.on (ons O))
      where
        by : Memᴰ s.on (ons O) ⊎ (¬ Memᴰ s.on (ons O)) → first_end A (add O s ++ l) ≡ first_end A (O ++ s ∷ l)
        by (inl m) = ap (λ o. first_end A (o ++ l)) (add_known O s m) ∙ sym (skip_known O s l m)
        by (inr m) = ap (λ o. first_end A (o ++ l)) (add_new O s m) ∙ ap (λ o. first_end A o) (append_snoc O s l)

-- ---- what the first END of a list in order is

record FirstEnd {B : Type 0} (A : Net) (R : Thread B → Thread B → Type 0) (l : List (Thread B)) (a : ℕ) (x : B) : Type 0 where
  who : Thread B
  in_it : Memᴰ who l
  is_end : rec A who.on ≡ end a
  holds : who.had ≡ x
  before : (u : Thread B) (b : ℕ) → Memᴰ u l → rec A u.on ≡ end b → (u ≡ who) ⊎ R who u

module _ {B : Type 0} (A : Net) (R : Thread B → Thread B → Type 0) where
  pass : (s : Thread B) (l : List (Thread B)) (a : ℕ) (x : B) → ((b : ℕ) → ¬ (rec A s.on ≡ end b)) → FirstEnd A R l a x → FirstEnd A R (s ∷ l) a x
  pass s l a x h d =
      record { who = d.who; in_it = Memᴰ.tail d.in_it; is_end = d.is_end; holds = d.holds; before = λ u b m e. by u b e (Memᴰ.cases_cons m) }
    where
      by : (u : Thread B) (b : ℕ) → rec A u.on ≡ end b → (u ≡ s) ⊎ Memᴰ u l → (u ≡ d.who) ⊎ R d.who u
      by u b e (inl p) = absurd (h b (rw p at e))
      by u b e (inr k) = d.before u b k e

  first_of : (l : List (Thread B)) → Ordered R l → (a : ℕ) (x : B) → first_end A l ≡ some (a, x) → FirstEnd A R l a x
  first_of [] o a x e = let z : ◌≡◌ {A = ℕ} 0 1 = cc in absurd (omega arith)
  first_of (s ∷ l) o a x e = by (λ e'. first_of l o.1 a x e') (rec A s.on) refl e
    where
      by : (first_end A l ≡ some (a, x) → FirstEnd A R l a x) → (k : Rec) → rec A s.on ≡ k → ending k s.had (first_end A l) ≡ some (a, x) → FirstEnd A R (s ∷ l) a x
      by ih (range lo hi n) k e = pass s l a x (λ b q. let z : ◌≡◌ {A = ℕ} 0 1 = cc in omega arith) (ih e)
      by ih (mask bits n) k e = pass s l a x (λ b q. let z : ◌≡◌ {A = ℕ} 0 1 = cc in omega arith) (ih e)
      by ih (fork p r) k e = pass s l a x (λ b q. let z : ◌≡◌ {A = ℕ} 0 1 = cc in omega arith) (ih e)
      by ih (tag t n) k e = pass s l a x (λ b q. let z : ◌≡◌ {A = ℕ} 0 1 = cc in omega arith) (ih e)
      by ih (end b) k e =
          record { who = s; in_it = Memᴰ.head refl; is_end = k ∙ ap (λ v. end v.0) (some-injective (b, s.had) (a, x) e); holds = ap (λ v. v.1) (some-injective (b, s.had) (a, x) e); before = λ u c m q. here u (Memᴰ.cases_cons m) }
        where
          here : (u : Thread B) → (u ≡ s) ⊎ Memᴰ u l → (u ≡ s) ⊎ R s u
          here u (inl p) = inl p
          here u (inr m) = inr (o.0 u m)

  none_of : (l : List (Thread B)) → first_end A l ≡ none → (u : Thread B) → Memᴰ u l → (b : ℕ) → ¬ (rec A u.on ≡ end b)
  none_of [] e u m b q = elim m [ ]
  none_of (s ∷ l) e u m b q = by (λ e' k. none_of l e' u k b q) (rec A s.on) refl e (Memᴰ.cases_cons m)
    where
      by : (first_end A l ≡ none → Memᴰ u l → ⊥) → (k : Rec) → rec A s.on ≡ k → ending k s.had (first_end A l) ≡ none → (u ≡ s) ⊎ Memᴰ u l → ⊥
      by ih (end c) p e i = let z : ◌≡◌ {A = ℕ} 0 1 = cc in omega arith
      by ih (range lo hi n) p e (inr k) = ih e k
      by ih (mask bits n) p e (inr k) = ih e k
      by ih (fork y r) p e (inr k) = ih e k
      by ih (tag t n) p e (inr k) = ih e k
      by ih (range lo hi n) p e (inl i) = let z : ◌≡◌ {A = ℕ} 0 1 = cc (ap (λ v. rec A v.on) i) in omega arith
      by ih (mask bits n) p e (inl i) = let z : ◌≡◌ {A = ℕ} 0 1 = cc (ap (λ v. rec A v.on) i) in omega arith
      by ih (fork y r) p e (inl i) = let z : ◌≡◌ {A = ℕ} 0 1 = cc (ap (λ v. rec A v.on) i) in omega arith
      by ih (tag t n) p e (inl i) = let z : ◌≡◌ {A = ℕ} 0 1 = cc (ap (λ v. rec A v.on) i) in omega arith

-- ---- the answer

start : Trail
start = record { on = 0; had = [] }

abbrev in_hand : List Move → Held
in_hand p = held p empty_handed

pub held_snoc : (p : List Move) (m : Move) (h : Held) → act m (held p h) ≡ held (p ++ (m ∷ [])) h
held_snoc [] m h = refl
held_snoc (n ∷ p) m h = held_snoc p m (act n h)

-- the executable answer, over all admissible paths in order
by_paths : (A : Net) (w : List ℕ) → answer A w ≡ lift_end in_hand (first_end A (every onto A w start))
unfolding answer start
by_paths A w =
    ap (λ l. first_end A l) (lifts_threads in_hand onto act (λ m p. held_snoc p m empty_handed) A w (start ∷ []))
    ∙ lifts_end in_hand A (threads onto A w (start ∷ []))
    ∙ ap (λ l. lift_end in_hand (first_end A l)) (heart onto A w (start ∷ []))
    ∙ ap (λ o. lift_end in_hand o) (end_firsts A (every onto A w start ++ []) [])
    ∙ ap (λ l. lift_end in_hand (first_end A l)) (append-nil (every onto A w start))

module _ (A : Net) (w : List ℕ) where
  all : List Trail
  all = every onto A w start

  -- an accepting path is in the list
  listed : (ms : List Move) (e : ℕ) (c : Accepts A w ms e) → Memᴰ (record { on = c.last; had = ms }) all
  unfolding all start
  listed ms e c = every_complete A w c.path [] c.admissible c.whole

  from_first : (a : ℕ) (p : List Move) (h : Held) → in_hand p ≡ h → FirstEnd A Bef all a p → Answer A w a h.tags
  unfolding all start
  from_first a p h g d =
      let t = d.who in
      let r = every_sound A w start t d.in_it in
      record {
        moves = r.moves;
        accepts = record { last = t.on; path = r.path; admissible = r.admissible; whole = r.consumed; at_end = d.is_end };
        earliest = λ ms e c. by r ms e c (d.before (record { on = c.last; had = ms }) e (listed ms e c) c.at_end);
        stored = ap (λ v. (in_hand v).tags) (sym r.gathered ∙ d.holds) ∙ ap (λ v. v.tags) g;
      }
    where
      by : (r : Reached A [] w start d.who) (ms : List Move) (e : ℕ) (c : Accepts A w ms e)
          → (◌≡◌ {A = Trail} (record { on = c.last; had = ms }) d.who) ⊎ Bef d.who (record { on = c.last; had = ms })
          → (ms ≡ r.moves) ⊎ Earlier r.moves ms
      by r ms e c (inl q) = inl (ap (λ v. v.had) q ∙ r.gathered)
      by r ms e c (inr b) = inr (before_earlier A r.path d.is_end c.path (rw r.gathered at b))

  -- THE ANSWER: what the builder's list gives is the END and the tags of the earliest admissible accepting path
  pub answer_right : (a : ℕ) (h : Held) → answer A w ≡ some (a, h) → Answer A w a h.tags
  unfolding all
  answer_right a h e = by (first_end A all) refl (sym (by_paths A w) ∙ e)
    where
      by : (o : Option (ℕ × List Move)) → first_end A all ≡ o → lift_end in_hand (first_end A all) ≡ some (a, h) → Answer A w a h.tags
      by none p q = let z : ◌≡◌ {A = ℕ} 0 1 = cc in absurd (omega arith)
      by (some r) p q =
          let g = some-injective (r.0, in_hand r.1) (a, h) (rw p at q) in
          from_first a r.1 h (ap (λ v. v.1) g)
          (first_of A Bef all (every_ordered A w start) a r.1 (p ∙ ap (λ v. some (v, r.1)) (ap (λ v. v.0) g)))

  pub answer_none : answer A w ≡ none → (ms : List Move) (e : ℕ) → ¬ Accepts A w ms e
  unfolding all
  answer_none q ms e c = by (first_end A all) refl (sym (by_paths A w) ∙ q)
    where
      by : (o : Option (ℕ × List Move)) → first_end A all ≡ o → lift_end in_hand (first_end A all) ≡ none → ⊥
      by none p q = none_of A Bef all p (record { on = c.last; had = ms }) (listed ms e c) e c.at_end
      by (some r) p q = let z : ◌≡◌ {A = ℕ} 0 1 = cc in absurd (omega arith)

-- ---- there is one answer at most

apart : {p q r s : List Move} → Earlier p q → Earlier r s → q ≡ r → p ≡ s → ⊥
apart parts parts x y = let z : ◌≡◌ {A = ℕ} 0 1 = cc in absurd (omega arith)
apart parts (later e) x y = let z : ◌≡◌ {A = ℕ} 0 1 = cc in absurd (omega arith)
apart (later d) parts x y = let z : ◌≡◌ {A = ℕ} 0 1 = cc in absurd (omega arith)
apart (later {m = m} {p = p} {q = q} d) (later {m = n} {p = r} {q = s} e) x y = let u : q ≡ r = cc in let v : p ≡ s = cc in apart d e u v

pub asym : {p q : List Move} → Earlier p q → Earlier q p → ⊥
asym d e = apart d e refl refl

module _ (A : Net) where
  same_last : {r : ℕ} {ms : List Move} {x y : ℕ} → Way A r ms x → Way A r ms y → x ≡ y
  same_last stay stay = refl
  same_last (go s c) (go t d) = same_last c (rw (one_next A t s) at d)

  pub one_answer : {w : List ℕ} {a b : ℕ} {τ υ : List (Option ℕ)} → Answer A w a τ → Answer A w b υ → (a ≡ b) × (τ ≡ υ)
  one_answer {w} {a} {b} {τ} {υ} d e = by (d.earliest e.moves b e.accepts) (e.earliest d.moves a d.accepts)
    where
      same : (ms ns : List Move) → ns ≡ ms → Accepts A w ms a → Accepts A w ns b → a ≡ b
      same ms ns p x y =
          let q = same_last x.path (rw p at y.path) in
          let i = x.at_end in
          let j = y.at_end in
          cc (ap (λ r. rec A r) q)

      by : (e.moves ≡ d.moves) ⊎ Earlier d.moves e.moves → (d.moves ≡ e.moves) ⊎ Earlier e.moves d.moves → (a ≡ b) × (τ ≡ υ)
      by (inl p) q = (same d.moves e.moves p d.accepts e.accepts, sym d.stored ∙ ap (λ m. (held m empty_handed).tags) (sym p) ∙ e.stored)
      by (inr p) (inl q) = (same d.moves e.moves (sym q) d.accepts e.accepts, sym d.stored ∙ ap (λ m. (held m empty_handed).tags) q ∙ e.stored)
      by (inr p) (inr q) = absurd (asym p q)

  -- LOOPS, as document 01 says it: a record is accepted by an admissible path exactly if by any path
  pub accepted_by_any : (w : List ℕ) (a : ℕ)
      → ((ms : List Move) × Accepts A w ms a) ↔ ((ms : List Move) × (last : ℕ) × Way A 0 ms last × (eaten ms ≡ w) × (rec A last ≡ end a))
  accepted_by_any w a = (
    λ c. (c.0, c.1.last, c.1.path, c.1.whole, c.1.at_end),
    λ p. let l = loops A p.2 in (l.0, record { last = p.1; path = l.1; admissible = l.2; whole = l.3 ∙ p.3; at_end = p.4 }),
  )
