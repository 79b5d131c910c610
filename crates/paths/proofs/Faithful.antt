-- `every` lists exactly the admissible paths of document 01. Assumes nothing.
use mathlib.Core.Path.{◌≡◌, refl, sym, ap, ◌∙◌, subst}
use mathlib.Core.Logic.{◌⊎◌, inl, inr}
use mathlib.Core.Bool.{Bool, true, false, ◌&&◌, cond}
use mathlib.Core.List.Memᴰ
use mathlib.Core.List.{List, [], ◌∷◌, ◌++◌, append-nil, append_assoc, Memᴰ}
use Prim.Native.Nat.{ℕ, zero, suc}
use lib.Dec.{T, leb, eqb, leb→le, le→leb, eqb→eq}
use lib.ListN.{length}
use lib.Seq.{append_snoc}
use Rattle.net.specs.Rec.{Rec, range, mask, fork, tag, end, Net, rec, bit}
use Rattle.paths.specs.Ways.{Move, eat, turn, Step, by_range, by_mask, by_first, by_second, by_tag, Way, stay, go, eaten, since, Admissible}
use Rattle.ground.specs.Lists.{each}
use Rattle.paths.specs.Search.{Thread, paths}
use Rattle.paths.specs.Situation.{quiet, bite, follow, on_quiet, on_byte, every}
pub use Rattle.ground.proofs.Members.{each_cases, each_has}
use Rattle.paths.proofs.Member.{mem→has, not→hasnt, mem_or_not}

-- a thread that gathers its moves
abbrev pub onto : Move → List Move → List Move
onto m p = p ++ (m ∷ [])

abbrev pub Trail : Type 0
Trail = Thread (List Move)

abbrev pub Quiet : Move → Type 0
Quiet (eat b) = ⊥
Quiet (turn q) = Unit {0}

-- ---- membership in `follow`

module _ {X : Type 0} (f : Move → X → X) (x : X) where
  pub follow_cases : (es : List (Move × ℕ)) {t : Thread X} → Memᴰ t (follow f x es)
      → (e : Move × ℕ) × Memᴰ e es × (t ≡ record { on = e.1; had = f e.0 x })
  follow_cases [] m = absurd (elim m [ ])
  follow_cases (e ∷ es) {t} m = by (λ k. follow_cases es k) (Memᴰ.cases_cons m)
    where
      by : (Memᴰ t (follow f x es) → (e : Move × ℕ) × Memᴰ e es × (t ≡ record { on = e.1; had = f e.0 x }))
          → (t ≡ record { on = e.1; had = f e.0 x }) ⊎ Memᴰ t (follow f x es)
          → (e' : Move × ℕ) × Memᴰ e' (e ∷ es) × (t ≡ record { on = e'.1; had = f e'.0 x })
      by ih (inl p) = (e, Memᴰ.head refl, p)
      by ih (inr k) = let r = ih k in (r.0, Memᴰ.tail r.1, r.2)

  pub follow_has : {e : Move × ℕ} {es : List (Move × ℕ)} → Memᴰ e es → Memᴰ (record { on = e.1; had = f e.0 x }) (follow f x es)
  follow_has (Memᴰ.head p) = Memᴰ.head (ap (λ e. record { on = e.1; had = f e.0 x }) p)
  follow_has (Memᴰ.tail m) = Memᴰ.tail (follow_has m)

-- ---- the moves of `quiet` and `bite` are the steps of document 01

abbrev pub All : {B : Type 0} → (B → Type 0) → List B → Type 0
All P [] = Unit {0}
All P (x ∷ l) = P x × All P l

pub all_at : {B : Type 0} (P : B → Type 0) {x : B} {l : List B} → All P l → Memᴰ x l → P x
all_at P a (Memᴰ.head e) = rw e a.0
all_at P a (Memᴰ.tail m) = all_at P a.1 m

and_T : (a b : Bool) → T (a && b) → T a × T b
and_T true b t = (tt, t)
and_T false b t = absurd t

T_and : (a b : Bool) → T a → T b → a && b ≡ true
T_and true true s t = refl
T_and true false s t = absurd t
T_and false b s t = absurd s

module _ (A : Net) (r : ℕ) where
  abbrev pub QuietStep : Move × ℕ → Type 0
  QuietStep e = Step A r e.0 e.1 × Quiet e.0

  pub quiet_steps : (k : Rec) → rec A r ≡ k → All QuietStep (quiet k)
  quiet_steps (range lo hi n) p = tt
  quiet_steps (mask bits n) p = tt
  quiet_steps (end a) p = tt
  quiet_steps (tag t n) p = ((by_tag p, tt), tt)
  quiet_steps (fork x y) p = ((by_first p, tt), ((by_second p, tt), tt))

  -- to the eating of b
  abbrev pub Bite : ℕ → Move × ℕ → Type 0
  Bite b e = (e.0 ≡ eat b) × Step A r (eat b) e.1

  by_test : (b n : ℕ) (c : Bool) → (T c → Step A r (eat b) n) → All (Bite b) (cond c ((eat b, n) ∷ []) [])
  by_test b n true h = ((refl, h tt), tt)
  by_test b n false h = tt

  pub bites : (b : ℕ) (k : Rec) → rec A r ≡ k → All (Bite b) (bite b k)
  bites b (range lo hi n) p = by_test b n (leb lo b && leb b hi) (λ t. let u = and_T (leb lo b) (leb b hi) t in by_range p (leb→le lo b u.0) (leb→le b hi u.1))
  bites b (mask bits n) p = by_test b n (eqb (bit bits b) 1) (λ t. by_mask p (eqb→eq (bit bits b) 1 t))
  bites b (end a) p = tt
  bites b (tag t n) p = tt
  bites b (fork x y) p = tt

  pub step_quiet : {m : Move} {n : ℕ} → Step A r m n → Quiet m → Memᴰ (m, n) (quiet (rec A r))
  step_quiet (by_range p l h) q = absurd q
  step_quiet (by_mask p h) q = absurd q
  step_quiet (by_first p) q = rw p (Memᴰ.head refl)
  step_quiet (by_second p) q = rw p (Memᴰ.tail (Memᴰ.head refl))
  step_quiet (by_tag p) q = rw p (Memᴰ.head refl)

  pub step_bite : {b n : ℕ} → Step A r (eat b) n → Memᴰ (eat b, n) (bite b (rec A r))
  step_bite {b} {n} (by_range {lo = lo} {hi = hi} p l h) = rw (p, T_and (leb lo b) (leb b hi) (le→leb lo b l) (le→leb b hi h)) (Memᴰ.head refl)
  step_bite {b} {n} (by_mask p h) = rw (p, h) (Memᴰ.head refl)

-- ---- every thread of `every` is an admissible path

-- t is reached from s by an admissible path that consumes w, `seen` being what s stood on since the last byte
pub record Reached (A : Net) (seen : List ℕ) (w : List ℕ) (s t : Trail) : Type 0 where
  pub moves : List Move
  pub gathered : t.had ≡ s.had ++ moves
  pub path : Way A s.on moves t.on
  pub admissible : Admissible seen path
  pub consumed : eaten moves ≡ w

module _ (A : Net) where
  -- a quiet step before an admissible path
  before : (S : List ℕ) (s : Trail) (m : Move) (n : ℕ) (w : List ℕ) (t : Trail) → (¬ Memᴰ s.on S) → Step A s.on m n → Quiet m
      → Reached A (s.on ∷ S) w (record { on = n; had = onto m s.had }) t → Reached A S w s t
  before S s (eat b) n w t h st q d = absurd q
  before S s (turn u) n w t h st q d =
      record {
        moves = turn u ∷ d.moves;
        gathered = d.gathered ∙ append_snoc s.had (turn u) d.moves;
        path = go st d.path;
        admissible = (h, d.admissible);
        consumed = d.consumed;
      }

  abbrev Sound : ℕ → Type 0
  Sound n = (S : List ℕ) (s t : Trail) → Memᴰ t (paths (on_quiet onto A) n S s) → Reached A S [] s t

  sound_step : (n : ℕ) → Sound n → Sound (suc n)
  unfolding paths on_quiet
  sound_step n ih S s t m = by (mem_or_not s.on S)
    where
      rest : List Trail
      rest = each (paths (on_quiet onto A) n (s.on ∷ S)) (on_quiet onto A s)

      through : (¬ Memᴰ s.on S) → (u : Trail) → Memᴰ u (on_quiet onto A s) → Reached A (s.on ∷ S) [] u t → Reached A S [] s t
      through h u k d =
          let c = follow_cases onto s.had (quiet (rec A s.on)) k in
          let e = c.0 in
          let q = all_at (QuietStep A s.on) (quiet_steps A s.on (rec A s.on) refl) c.1 in
          before S s e.0 e.1 [] t h q.0 q.1 (subst (λ v. Reached A (s.on ∷ S) [] v t) c.2 d)

      here : (¬ Memᴰ s.on S) → (t ≡ s) ⊎ Memᴰ t rest → Reached A S [] s t
      here h (inl e) = rw e (record { moves = []; gathered = sym (append-nil s.had); path = stay; admissible = h; consumed = refl })
      here h (inr k) = let c = each_cases (paths (on_quiet onto A) n (s.on ∷ S)) (on_quiet onto A s) k in through h c.0 c.1 (ih (s.on ∷ S) c.0 t c.2)

      by : Memᴰ s.on S ⊎ (¬ Memᴰ s.on S) → Reached A S [] s t
      by (inl h) = absurd (elim (rw (mem→has h) at m) [ ])
      by (inr h) = here h (Memᴰ.cases_cons (rw (not→hasnt h) at m))

  pub sound : (n : ℕ) → Sound n
  unfolding paths
  sound zero S s t m = absurd (elim m [ ])
  sound (suc n) S s t m = sound_step n (sound n) S s t m

  -- a path, a byte, and a path
  join_path : {r r₁ r₂ last : ℕ} {p q : List Move} {b : ℕ} → Way A r p r₁ → Step A r₁ (eat b) r₂ → Way A r₂ q last → Way A r (p ++ eat b ∷ q) last
  join_path stay st y = go st y
  join_path (go s x) st y = go s (join_path x st y)

  join_admissible : {r r₁ r₂ last : ℕ} {p q : List Move} {b : ℕ} (S : List ℕ) (x : Way A r p r₁) (st : Step A r₁ (eat b) r₂) (y : Way A r₂ q last)
      → Admissible S x → Admissible [] y → Admissible S (join_path x st y)
  unfolding join_path
  join_admissible S stay st y h k = (h, k)
  join_admissible S (go {r = r} {m = m} s x) st y h k = (h.0, join_admissible (since m r S) x st y h.1 k)

  pub eaten_append : (p q : List Move) → eaten (p ++ q) ≡ eaten p ++ eaten q
  eaten_append [] q = refl
  eaten_append (eat b ∷ p) q = ap (λ r. b ∷ r) (eaten_append p q)
  eaten_append (turn u ∷ p) q = eaten_append p q

  join : (b : ℕ) (w : List ℕ) (s u t : Trail) (n : ℕ) → Reached A [] [] s u → Step A u.on (eat b) n
      → Reached A [] w (record { on = n; had = onto (eat b) u.had }) t → Reached A [] (b ∷ w) s t
  join b w s u t n d st e =
      record {
        moves = d.moves ++ eat b ∷ e.moves;
        gathered = e.gathered ∙ append_snoc u.had (eat b) e.moves ∙ ap (λ h. h ++ (eat b ∷ e.moves)) d.gathered ∙ append_assoc s.had d.moves (eat b ∷ e.moves);
        path = join_path d.path st e.path;
        admissible = join_admissible [] d.path st e.path d.admissible e.admissible;
        consumed = eaten_append d.moves (eat b ∷ e.moves) ∙ ap (λ h. h ++ (b ∷ eaten e.moves)) d.consumed ∙ ap (λ h. b ∷ h) e.consumed;
      }

  pub every_sound : (w : List ℕ) (s t : Trail) → Memᴰ t (every onto A w s) → Reached A [] w s t
  unfolding every on_byte
  every_sound [] s t m = sound (suc (length A)) [] s t m
  every_sound (b ∷ w) s t m =
      let c = each_cases (every onto A w) (each (on_byte onto A b) (paths (on_quiet onto A) (suc (length A)) [] s)) m in
      let d = each_cases (on_byte onto A b) (paths (on_quiet onto A) (suc (length A)) [] s) c.1 in
      let e = follow_cases onto d.0.had (bite b (rec A d.0.on)) d.2 in
      let q = all_at (Bite A d.0.on b) (bites A d.0.on b (rec A d.0.on) refl) e.1 in
      join b w s d.0 t e.0.1 (sound (suc (length A)) [] s d.0 d.1) q.1
      (subst (λ v. Reached A [] w v t) (e.2 ∙ ap (λ v. record { on = e.0.1; had = onto v d.0.had }) q.0) (every_sound w c.0 t c.2))
