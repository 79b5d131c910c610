-- Every admissible path is in `every`; and cutting loops loses no match. Assumes nothing.
use mathlib.Core.Path.{◌≡◌, refl, sym, ap, ◌∙◌}
use mathlib.Core.Logic.{◌⊎◌, inl, inr}
use mathlib.Core.List.{List, [], ◌∷◌, ◌++◌, append-nil, append_assoc, Memᴰ, head-eq_of_cons-eq, tail-eq_of_cons-eq, nil≢cons, cons≢nil}
use Prim.Native.Nat.{ℕ, zero, suc}
use lib.ListN.{length}
use lib.Seq.{append_snoc}
use Rattle.net.specs.Rec.{Net}
use Rattle.paths.specs.Ways.{Turn, Move, eat, turn, Step, Way, stay, go, eaten, Admissible}
use Rattle.ground.specs.Lists.{each}
use Rattle.paths.specs.Search.{ons, firsts, paths}
use Rattle.paths.specs.Situation.{on_quiet, on_byte, every, close, threads}
use Rattle.paths.proofs.Member.{not→hasnt, mem_ons, ons_mem, Enough, never, deeper, enough}
use Rattle.paths.proofs.Closure.{firsts_in}
use Rattle.paths.proofs.Heart.{nexts, inner, leads, closing, heart}
use Rattle.paths.proofs.Faithful.{onto, Trail, each_has, follow_has, step_quiet, step_bite, Reached, every_sound}

-- ---- completeness

module _ (A : Net) where
  N : ℕ
  N = length A

  leads_mem : {m : Move} {y : ℕ} {es : List (Move × ℕ)} → Memᴰ (m, y) es → Memᴰ y (leads es)
  leads_mem (Memᴰ.head e) = Memᴰ.head (ap (λ v. v.1) e)
  leads_mem (Memᴰ.tail k) = Memᴰ.tail (leads_mem k)

  step_next : {r y : ℕ} {u : Turn} → Step A r (turn u) y → Memᴰ y (nexts A r)
  unfolding nexts
  step_next {r} st = leads_mem (step_quiet A r st tt)

  -- a path that consumes nothing
  complete : {r : ℕ} {ms : List Move} {last : ℕ} (p : Way A r ms last) (n : ℕ) (S : List ℕ) (x : List Move)
      → Enough N n S → Admissible S p → eaten ms ≡ []
      → Memᴰ (record { on = last; had = x ++ ms }) (paths (on_quiet onto A) n S (record { on = r; had = x }))
  unfolding paths on_quiet N
  complete p zero S x e a q = absurd (never e)
  complete {r} stay (suc n) S x e a q = rw (not→hasnt a) (Memᴰ.head (ap (λ h. record { on = r; had = h }) (append-nil x)))
  complete (go {m = eat b} st p) (suc n) S x e a q = absurd (cons≢nil q)
  complete {r} {last = last} (go {m = turn u} {next = y} {ms = ms} st p) (suc n) S x e a q =
      let ih = complete p n (r ∷ S) (onto (turn u) x) (deeper a.0 (inner A r y (step_next st)) e) a.1 q in
      rw (not→hasnt a.0)
      (Memᴰ.tail (each_has (paths (on_quiet onto A) n (r ∷ S)) (follow_has onto x (step_quiet A r st tt)) (rw append_snoc at ih)))

  -- a path that consumes a byte: what comes before the byte, and what after
  record Split (S : List ℕ) (r : ℕ) (ms : List Move) (last b : ℕ) (w : List ℕ) : Type 0 where
    pre : List Move
    at : ℕ
    to : ℕ
    post : List Move
    whole : ms ≡ pre ++ eat b ∷ post
    before : Way A r pre at
    clean : Admissible S before
    none : eaten pre ≡ []
    step : Step A at (eat b) to
    after : Way A to post last
    clean' : Admissible [] after
    rest : eaten post ≡ w

  longer : (S : List ℕ) (r y : ℕ) (u : Turn) (ms : List Move) (last b : ℕ) (w : List ℕ) → (¬ Memᴰ r S) → Step A r (turn u) y
      → Split (r ∷ S) y ms last b w → Split S r (turn u ∷ ms) last b w
  longer S r y u ms last b w h st d =
      record {
        pre = turn u ∷ d.pre;
        at = d.at;
        to = d.to;
        post = d.post;
        whole = ap (λ l. turn u ∷ l) d.whole;
        before = go st d.before;
        clean = (h, d.clean);
        none = d.none;
        step = d.step;
        after = d.after;
        clean' = d.clean';
        rest = d.rest;
      }

  split : {r : ℕ} {ms : List Move} {last : ℕ} (p : Way A r ms last) (S : List ℕ) (b : ℕ) (w : List ℕ) → Admissible S p → eaten ms ≡ b ∷ w
      → Split S r ms last b w
  split stay S b w a q = absurd (nil≢cons q)
  split {r} {last = last} (go {m = eat c} {next = y} {ms = ms} st p) S b w a q =
      record {
        pre = [];
        at = r;
        to = y;
        post = ms;
        whole = ap (λ v. eat v ∷ ms) (head-eq_of_cons-eq q);
        before = stay;
        clean = a.0;
        none = refl;
        step = rw (head-eq_of_cons-eq q) at st;
        after = p;
        clean' = a.1;
        rest = tail-eq_of_cons-eq q;
      }
  split {r} {last = last} (go {m = turn u} {next = y} {ms = ms} st p) S b w a q = longer S r y u ms last b w a.0 st (split p (r ∷ S) b w a.1 q)

  pub every_complete : (w : List ℕ) {r : ℕ} {ms : List Move} {last : ℕ} (p : Way A r ms last) (x : List Move) → Admissible [] p → eaten ms ≡ w
      → Memᴰ (record { on = last; had = x ++ ms }) (every onto A w (record { on = r; had = x }))
  unfolding every on_byte N
  every_complete [] p x a q = complete p (suc N) [] x (enough N) a q
  every_complete (b ∷ w) {r} {ms} {last} p x a q = by (split p [] b w a q) (λ d. every_complete w d.after ((x ++ d.pre) ++ (eat b ∷ [])) d.clean' d.rest)
    where
      goal : Type 0
      goal = Memᴰ (record { on = last; had = x ++ ms }) (every onto A (b ∷ w) (record { on = r; had = x }))

      by : (d : Split [] r ms last b w)
          → ((d' : Split [] r ms last b w) → Memᴰ (record { on = last; had = ((x ++ d'.pre) ++ (eat b ∷ [])) ++ d'.post }) (every onto A w (record { on = d'.to; had = (x ++ d'.pre) ++ (eat b ∷ []) })))
          → goal
      by d ih =
          let here = complete d.before (suc N) [] x (enough N) d.clean d.none in
          let bitten = each_has (on_byte onto A b) here (follow_has onto (x ++ d.pre) (step_bite A d.at d.step)) in
          let e : ((x ++ d.pre) ++ (eat b ∷ [])) ++ d.post ≡ x ++ ms
          = append_snoc (x ++ d.pre) (eat b) d.post ∙ append_assoc x d.pre (eat b ∷ d.post) ∙ ap (λ l. x ++ l) (sym d.whole) in
          each_has (every onto A w) bitten (rw e at (ih d))

  -- ---- cutting loops loses no match

  eats : (l : List Trail) (b r y : ℕ) → Step A r (eat b) y → Memᴰ r (ons l) → Memᴰ y (ons (each (on_byte onto A b) l))
  unfolding on_byte
  eats l b r y st m =
      let t = ons_mem l m in
      mem_ons (each_has (on_byte onto A b) t.1 (follow_has onto t.0.had (rw t.2 at (step_bite A r st))))

  -- of a record that any path stands on after w, the builder's list holds the record
  onward : {r : ℕ} {ms : List Move} {last : ℕ} → Way A r ms last → (ss : List Trail) → Memᴰ r (ons (close onto A ss))
      → Memᴰ last (ons (threads onto A (eaten ms) ss))
  unfolding threads
  onward stay ss m = m
  onward {r} (go {m = turn u} {next = y} st p) ss m = onward p ss ((closing onto A ss).closed.done r m (λ k. elim k [ ]) y (step_next st))
  onward {r} (go {m = eat b} {next = y} st p) ss m =
      onward p (each (on_byte onto A b) (close onto A ss)) ((closing onto A (each (on_byte onto A b) (close onto A ss))).there y (eats (close onto A ss) b r y st m))

  -- LOOPS: what any path reaches, an admissible path reaches with the same bytes
  pub loops : {ms : List Move} {last : ℕ} → Way A 0 ms last → (ms' : List Move) × (p : Way A 0 ms' last) × Admissible [] p × (eaten ms' ≡ eaten ms)
  loops {ms} {last} p = by (ons_mem (firsts [] all) (rw (heart onto A (eaten ms) start) at (onward p start ((closing onto A start).there 0 (Memᴰ.head refl)))))
    where
      start : List Trail
      start = record { on = 0; had = [] } ∷ []

      all : List Trail
      all = each (every onto A (eaten ms)) start

      reached : (t : Trail) → last ≡ t.on → Reached A [] (eaten ms) (record { on = 0; had = [] }) t → (ms' : List Move) × (p : Way A 0 ms' last) × Admissible [] p × (eaten ms' ≡ eaten ms)
      reached t e d = rw e (d.moves, d.path, d.admissible, d.consumed)

      from : (t : Trail) → Memᴰ t [] ⊎ Memᴰ t all → Memᴰ t (every onto A (eaten ms) (record { on = 0; had = [] }))
      from t (inl k) = absurd (elim k [ ])
      from t (inr k) = rw append-nil at k

      by : (t : Trail) × Memᴰ t (firsts [] all) × (last ≡ t.on) → (ms' : List Move) × (p : Way A 0 ms' last) × Admissible [] p × (eaten ms' ≡ eaten ms)
      by r = reached r.0 r.2 (every_sound A (eaten ms) (record { on = 0; had = [] }) r.0 (from r.0 (firsts_in all [] r.1)))
