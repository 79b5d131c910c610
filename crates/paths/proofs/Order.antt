-- `every` lists the earlier path first. Assumes nothing.
use mathlib.Core.Path.{◌≡◌, refl, ap, ◌∙◌}
use mathlib.Core.Logic.{◌⊎◌, inl, inr}
use mathlib.Core.Bool.{Bool, true, false, ◌&&◌, cond}
use mathlib.Core.List.Memᴰ
use mathlib.Core.List.{List, [], ◌∷◌, ◌++◌, append_assoc, Memᴰ}
use Prim.Native.Nat.{ℕ, zero, suc}
use native.Mathlib.Omega.{arith}
use lib.Dec.{leb, eqb}
use lib.ListN.{length}
use lib.Seq.{append_snoc}
use Rattle.net.specs.Rec.{Rec, range, mask, fork, tag, end, Net, rec, bit}
use Rattle.paths.specs.Ways.{Turn, first, second, Move, eat, turn, Step, by_range, by_mask, by_first, by_second, by_tag, Way, stay, go, Earlier, parts, later}
use Rattle.ground.specs.Lists.{each}
use Rattle.paths.specs.Search.{paths}
use Rattle.paths.specs.Situation.{quiet, bite, follow, on_quiet, on_byte, every}
pub use Rattle.ground.proofs.Members.{Ordered}
use Rattle.ground.proofs.Members.{ordered_each}
use Rattle.paths.proofs.Member.{mem→has, not→hasnt, mem_or_not}
use Rattle.paths.proofs.Heart.{each_each}
use Rattle.paths.proofs.Faithful.{onto, Trail, Quiet, each_cases, follow_cases, all_at, QuietStep, quiet_steps, Bite, bites, Reached, sound, every_sound}

-- ---- an order on the moves alone

-- they part: at a fork, or where p consumes a byte and q goes on without one (which no record allows: `parted_earlier`)
pub data Parted : List Move → List Move → Type 0 where
  forks : {p q : List Move} → Parted (turn first ∷ p) (turn second ∷ q)
  eats : {b : ℕ} {u : Turn} {p q : List Move} → Parted (eat b ∷ p) (turn u ∷ q)
  same : {m : Move} {p q : List Move} → Parted p q → Parted (m ∷ p) (m ∷ q)

-- or q is p and a turn more
pub data Before (p q : List Move) : Type 0 where
  apart : Parted p q → Before p q
  stops : (u : Turn) (v : List Move) → q ≡ p ++ turn u ∷ v → Before p q

further : {p q : List Move} → Parted p q → (x y : List Move) → Parted (p ++ x) (q ++ y)
further forks x y = forks
further eats x y = eats
further (same d) x y = same (further d x y)

under : (x : List Move) {p q : List Move} → Parted p q → Parted (x ++ p) (x ++ q)
under [] d = d
under (m ∷ x) d = same (under x d)

bitten : {p q : List Move} (b : ℕ) (x y : List Move) → Before p q → Parted (p ++ eat b ∷ x) (q ++ eat b ∷ y)
bitten b x y (apart d) = further d (eat b ∷ x) (eat b ∷ y)
bitten {p} {q} b x y (stops u v e) =
    rw (e, append_assoc p (turn u ∷ v) (eat b ∷ y)) (under p eats)

-- ---- `every` is in order

abbrev pub Bef : Trail → Trail → Type 0
Bef s t = Before s.had t.had

abbrev pub Par : Trail → Trail → Type 0
Par s t = Parted s.had t.had

-- the records that consume a byte, those that turn, and END
unfoldable pub sort : Rec → ℕ
sort (range lo hi n) = 0
sort (mask bits n) = 0
sort (fork x y) = 1
sort (tag t n) = 1
sort (end a) = 2

module _ (A : Net) where
  turns_ordered : (x : List Move) (k : Rec) → Ordered Par (follow onto x (quiet k))
  turns_ordered x (range lo hi n) = tt
  turns_ordered x (mask bits n) = tt
  turns_ordered x (end a) = tt
  turns_ordered x (tag t n) = (λ u m. absurd (elim m [ ]), tt)
  turns_ordered x (fork y z) = (λ u m. rw (Memᴰ.eq_of_singleton m) (under x forks), (λ u m. absurd (elim m [ ]), tt))

  one_or_none : (x : List Move) (e : Move × ℕ) (c : Bool) → Ordered Par (follow onto x (cond c (e ∷ []) []))
  one_or_none x e true = (λ u m. absurd (elim m [ ]), tt)
  one_or_none x e false = tt

  bite_ordered : (b : ℕ) (x : List Move) (k : Rec) → Ordered Par (follow onto x (bite b k))
  bite_ordered b x (range lo hi n) = one_or_none x (eat b, n) (leb lo b && leb b hi)
  bite_ordered b x (mask bits n) = one_or_none x (eat b, n) (eqb (bit bits b) 1)
  bite_ordered b x (end a) = tt
  bite_ordered b x (tag t n) = tt
  bite_ordered b x (fork y z) = tt

  from_parted : {S S' w w' : List ℕ} {s t a c : Trail} → Par s t → Reached A S w s a → Reached A S' w' t c → Par a c
  from_parted d x y = rw (x.gathered, y.gathered) (further d x.moves y.moves)

  abbrev InOrder : ℕ → Type 0
  InOrder n = (S : List ℕ) (s : Trail) → Ordered Bef (paths (on_quiet onto A) n S s)

  paths_step : (n : ℕ) → InOrder n → InOrder (suc n)
  unfolding paths on_quiet
  paths_step n ih S s = by (mem_or_not s.on S)
    where
      deep : Trail → List Trail
      deep = paths (on_quiet onto A) n (s.on ∷ S)

      after : (t : Trail) → Memᴰ t (each deep (on_quiet onto A s)) → Before s.had t.had
      after t m =
          let c = each_cases deep (on_quiet onto A s) m in
          let f = follow_cases onto s.had (quiet (rec A s.on)) c.1 in
          let q = all_at (QuietStep A s.on) (quiet_steps A s.on (rec A s.on) refl) f.1 in
          turned f.0.0 q.1 c.0 (ap (λ v. v.had) f.2) (sound A n (s.on ∷ S) c.0 t c.2)
        where
          turned : (m : Move) → Quiet m → (v : Trail) → v.had ≡ onto m s.had → Reached A (s.on ∷ S) [] v t → Before s.had t.had
          turned (eat b) q v e d = absurd q
          turned (turn u) q v e d = stops u d.moves (d.gathered ∙ ap (λ h. h ++ d.moves) e ∙ append_snoc s.had (turn u) d.moves)

      by : Memᴰ s.on S ⊎ (¬ Memᴰ s.on S) → Ordered Bef (paths (on_quiet onto A) (suc n) S s)
      by (inl h) = rw (mem→has h) tt
      by (inr h) =
          rw (not→hasnt h) (
            after,
            ordered_each Par Bef deep (on_quiet onto A s) (turns_ordered s.had (rec A s.on)) (ih (s.on ∷ S))
                (λ u v d a c m k. apart (from_parted d (sound A n (s.on ∷ S) u a m) (sound A n (s.on ∷ S) v c k))),
          )

  paths_ordered : (n : ℕ) → InOrder n
  unfolding paths
  paths_ordered zero S s = tt
  paths_ordered (suc n) S s = paths_step n (paths_ordered n) S s

  pub every_ordered : (w : List ℕ) (s : Trail) → Ordered Bef (every onto A w s)
  unfolding every on_byte
  every_ordered [] s = paths_ordered (suc (length A)) [] s
  every_ordered (b ∷ w) s =
      rw (each_each (every onto A w) (on_byte onto A b) from)
      (ordered_each Bef Bef past from (paths_ordered (suc (length A)) [] s)
      (λ t. ordered_each Par Bef (every onto A w) (on_byte onto A b t) (bite_ordered b t.had (rec A t.on)) (every_ordered w)
      (λ u v d a c m k. apart (from_parted d (every_sound A w u a m) (every_sound A w v c k))))
      (λ u v d a c m k. let x = eaten_by u a m in let y = eaten_by v c k in apart (rw (x.1, y.1) (bitten b x.0 y.0 d))))
    where
      from : List Trail
      from = paths (on_quiet onto A) (suc (length A)) [] s

      past : Trail → List Trail
      past t = each (every onto A w) (on_byte onto A b t)

      eaten_by : (u a : Trail) → Memᴰ a (past u) → (x : List Move) × (a.had ≡ u.had ++ eat b ∷ x)
      eaten_by u a m =
          let c = each_cases (every onto A w) (on_byte onto A b u) m in
          let f = follow_cases onto u.had (bite b (rec A u.on)) c.1 in
          let q = all_at (Bite A u.on b) (bites A u.on b (rec A u.on) refl) f.1 in
          let d = every_sound A w c.0 a c.2 in
          (d.moves, d.gathered ∙ ap (λ v. v.had ++ d.moves) f.2 ∙ ap (λ v. onto v u.had ++ d.moves) q.0 ∙ append_snoc u.had (eat b) d.moves)

  -- ---- for two paths of the automaton that is document 01's order

  pub one_next : {r : ℕ} {m : Move} {x y : ℕ} → Step A r m x → Step A r m y → x ≡ y
  one_next (by_range p l h) (by_range q l' h') = cc
  one_next (by_range p l h) (by_mask q h') = cc
  one_next (by_mask p h) (by_range q l' h') = cc
  one_next (by_mask p h) (by_mask q h') = cc
  one_next (by_first p) (by_first q) = cc
  one_next (by_second p) (by_second q) = cc
  one_next (by_tag p) (by_tag q) = cc

  eating : {r b x : ℕ} → Step A r (eat b) x → sort (rec A r) ≡ 0
  unfolding sort
  eating (by_range p l h) = ap sort p
  eating (by_mask p h) = ap sort p

  turning : {r x : ℕ} {u : Turn} → Step A r (turn u) x → sort (rec A r) ≡ 1
  unfolding sort
  turning (by_first p) = ap sort p
  turning (by_second p) = ap sort p
  turning (by_tag p) = ap sort p

  not_both : {r b : ℕ} {u : Turn} {x y : ℕ} → Step A r (eat b) x → Step A r (turn u) y → ⊥
  not_both s t = let h = eating s in let k = turning t in omega arith

  parted_earlier : {r : ℕ} {p q : List Move} {x y : ℕ} → Parted p q → Way A r p x → Way A r q y → Earlier p q
  parted_earlier forks s t = parts
  parted_earlier eats (go s c) (go t d) = absurd (not_both s t)
  parted_earlier (same d) (go s c) (go t e) = later (parted_earlier d c (rw (one_next t s) at e))

  goes_on : {r : ℕ} (p : List Move) (u : Turn) (v : List Move) {x y : ℕ} → Way A r p x → Way A r (p ++ turn u ∷ v) y → sort (rec A x) ≡ 1
  goes_on [] u v stay (go t d) = turning t
  goes_on (m ∷ p) u v (go s c) (go t d) = goes_on p u v c (rw (one_next t s) at d)

  -- p ends where no turn leads on
  pub before_waiting : {p q : List Move} {r x y : ℕ} → Way A r p x → ¬ (sort (rec A x) ≡ 1) → Way A r q y → Before p q → Earlier p q
  before_waiting c e d (apart h) = parted_earlier h c d
  before_waiting {p} c e d (stops u v h) = absurd (e (goes_on p u v c (rw h at d)))

  pub before_earlier : {p q : List Move} {r x y a : ℕ} → Way A r p x → rec A x ≡ end a → Way A r q y → Before p q → Earlier p q
  unfolding sort
  before_earlier c e d h = before_waiting c (λ k. let j = ap sort e in omega arith) d h
