-- The commands from one numbering to the next: their targets rise, they read only registers that the situation before needs, and what they
-- leave in the bank is the place of each origin. Assumes nothing.
use mathlib.Core.Path.{◌≡◌, refl, sym, ap, ◌∙◌}
use mathlib.Core.Logic.{◌⊎◌, inl, inr}
use mathlib.Core.Bool.{Bool, true, false, cond}
use mathlib.Core.List.Memᴰ
use mathlib.Core.List.{List, [], ◌∷◌, map, Memᴰ}
use Prim.Native.Nat.{ℕ, zero, suc, ◌+◌, ◌≤◌, ◌<◌}
use native.Mathlib.Numerals.{add-one}
use native.Mathlib.Omega.{arith}
use lib.Dec.{eqb}
use lib.IntN.{ℤ, pos}
use lib.ListN.{length, get_or, set, replicate, length-set, length-map}
use lib.Seq.{get_or-set_same, get_or-set_other}
use borrow.Author.Tests.{eqb-true, eqb-false}
use Rattle.net.specs.Rec.{Net}
use Rattle.paths.specs.Registers.{Key, held_by, registers, step, situation, after, begin, next, origins}
use Rattle.paths.proofs.Numbers.{registers_held}
use Rattle.paths.proofs.Next.{held_step, as_many_registers}
use Rattle.paths.proofs.Run.{sound_number}
use Rattle.card.specs.Table.{move, put, Rising, Sets}
use Rattle.card.specs.Run.{Bank, reg, Out, ok, moved, apply}
use Rattle.explore.specs.Lists.{span}
use Rattle.build.specs.Card.{State, need, commands}

-- ---- origins

-- the registers of a situation are below its need
abbrev pub Sound : State → Type 0
Sound s = (k : Key) → Memᴰ k (held_by s) → k.1 < need s

pub sound : (A : Net) (w : List ℕ) → Sound (situation A w)
unfolding situation
sound A w = sound_number (after A 0 (begin A) w)

pub origins_bound : (A : Net) (b : ℕ) (s : State) → Sound s → (o : ℕ) → Memᴰ o (origins A b s) → o ≤ need s
unfolding origins
origins_bound A b s h o m = by (held_step A (need s) b s c.0 (registers_held (step A (need s) b s) c.1))
  where
    c : (k : Key) × Memᴰ k (registers (step A (need s) b s)) × (k.1 ≡ o)
    c = Memᴰ.of_map (λ k. k.1) (registers (step A (need s) b s)) m

    by : (c.0.1 ≡ need s) ⊎ Memᴰ c.0 (held_by s) → o ≤ need s
    by (inl e) = omega (arith, c.2)
    by (inr n) = omega (arith, c.2, h c.0 n)

pub origins_many : (A : Net) (b : ℕ) (s : State) → length (origins A b s) ≡ need (next A b s)
unfolding origins next
origins_many A b s = length-map (registers (step A (need s) b s)) (λ k. k.1) ∙ sym (as_many_registers (step A (need s) b s))

-- ---- targets rise, numbers stay below the count

pub rising : (R now k low : ℕ) (os : List ℕ) → low ≤ k → k + length os ≤ R → now ≤ R → ((o : ℕ) → Memᴰ o os → o ≤ now) → Rising R low (commands now k os)
unfolding commands
rising R now k low [] a b c h = tt
rising R now k low (o ∷ os) a b c h = by (λ l d. rising R now (suc k) l os d (omega arith) c (λ p m. h p (Memᴰ.tail m))) (eqb o now) refl (eqb o k)
  where
    by : ((l : ℕ) → l ≤ suc k → Rising R l (commands now (suc k) os)) → (d : Bool) → eqb o now ≡ d → (e : Bool)
        → Rising R low (cond d (put k ∷ commands now (suc k) os) (cond e (commands now (suc k) os) (move k o ∷ commands now (suc k) os)))
    by ih true p e = (a, omega arith, ih (suc k) (omega arith))
    by ih false p true = ih low (omega arith)
    by ih false p false =
        let m = h o (Memᴰ.head refl) in
        let n : ¬ (o ≡ now) = eqb-false o now p in
        (a, omega arith, omega arith, ih (suc k) (omega arith))

-- ---- what they leave

-- the place of an origin: the new one, or what the old bank holds
abbrev pub fetched : (now place : ℕ) → Bank → ℕ → ℤ
fetched now p old o = cond (eqb o now) (pos p) (reg old o)

pub record Applied (now k p : ℕ) (os : List ℕ) (old cur : Bank) (out : Out) : Type 0 where
  pub bank : Bank
  pub done : out ≡ ok bank
  pub size : length bank ≡ length cur
  pub below : (j : ℕ) → j < k → reg bank j ≡ reg cur j
  pub above : (i : ℕ) → i < length os → reg bank (k + i) ≡ fetched now p old (get_or os i 0)

one_more : (now k p o : ℕ) (os : List ℕ) (old cur cur' : Bank) (out : Out) → length cur' ≡ length cur → ((j : ℕ) → j < k → reg cur' j ≡ reg cur j) → reg cur' k ≡ fetched now p old o
    → Applied now (suc k) p os old cur' out → Applied now k p (o ∷ os) old cur out
one_more now k p o os old cur cur' out l b e r =
    record { bank = r.bank; done = r.done; size = r.size ∙ l; below = λ j h. r.below j (omega arith) ∙ b j h; above = above }
  where
    above : (i : ℕ) → i < suc (length os) → reg r.bank (k + i) ≡ fetched now p old (get_or (o ∷ os) i 0)
    above zero h = let z : k + 0 ≡ k = omega arith in ap (reg r.bank) z ∙ r.below k (omega arith) ∙ e
    above (suc i) h = let z : k + suc i ≡ suc k + i = omega arith in ap (reg r.bank) z ∙ r.above i (omega arith)

applied_as : {now k p : ℕ} {os : List ℕ} {old cur : Bank} {out out' : Out} → out' ≡ out → Applied now k p os old cur out → Applied now k p os old cur out'
applied_as e r = record { bank = r.bank; done = e ∙ r.done; size = r.size; below = r.below; above = r.above }

-- all sources are read from the old bank; none is empty
pub applies : (now k p : ℕ) (os : List ℕ) (old cur : Bank) → k + length os ≤ length cur → ((o : ℕ) → Memᴰ o os → o ≤ now)
    → ((i : ℕ) → i < now → (n : ℕ) × (reg old i ≡ pos n)) → ((j : ℕ) → k ≤ j → reg cur j ≡ reg old j) → Applied now k p os old cur (apply (commands now k os) p old cur)
unfolding commands apply
applies now k p [] old cur a h g e = record { bank = cur; done = refl; size = refl; below = λ j _. refl; above = λ i l. absurd (omega arith) }
applies now k p (o ∷ os) old cur a h g e = by (λ c l d. applies now (suc k) p os old c l (λ q m. h q (Memᴰ.tail m)) g d) (eqb o now) refl (eqb o k) refl
  where
    -- one register is written
    written : (v : ℤ) → v ≡ fetched now p old o
        → ((c : Bank) → suc k + length os ≤ length c → ((j : ℕ) → suc k ≤ j → reg c j ≡ reg old j) → Applied now (suc k) p os old c (apply (commands now (suc k) os) p old c))
        → Applied now k p (o ∷ os) old cur (apply (commands now (suc k) os) p old (set cur k v))
    written v f ih =
        one_more now k p o os old cur (set cur k v) (apply (commands now (suc k) os) p old (set cur k v)) (length-set cur k v)
        (λ j l. get_or-set_other cur k j v (pos 0) (omega arith)) (get_or-set_same cur k v (pos 0) (omega arith) ∙ f)
        (ih (set cur k v) (omega (arith, length-set cur k v)) (λ j l. get_or-set_other cur k j v (pos 0) (omega arith) ∙ e j (omega arith)))

    by : ((c : Bank) → suc k + length os ≤ length c → ((j : ℕ) → suc k ≤ j → reg c j ≡ reg old j) → Applied now (suc k) p os old c (apply (commands now (suc k) os) p old c))
        → (d : Bool) → eqb o now ≡ d → (f : Bool) → eqb o k ≡ f
        → Applied now k p (o ∷ os) old cur (apply (cond d (put k ∷ commands now (suc k) os) (cond f (commands now (suc k) os) (move k o ∷ commands now (suc k) os))) p old cur)
    by ih true q f r = written (pos p) (sym (ap (λ c. cond c (pos p) (reg old o)) q)) ih
    by ih false q true r =
        one_more now k p o os old cur cur (apply (commands now (suc k) os) p old cur) refl (λ j l. refl)
        (e k (omega arith) ∙ ap (reg old) (sym (eqb-true o k r)) ∙ sym (ap (λ c. cond c (pos p) (reg old o)) q))
        (ih cur (omega arith) (λ j l. e j (omega arith)))
    by ih false q false r =
        let m = h o (Memᴰ.head refl) in
        let n : ¬ (o ≡ now) = eqb-false o now q in
        applied_as (ap (λ v. moved v (apply (commands now (suc k) os) p old (set cur k (reg old o)))) (g o (omega arith)).1)
        (written (reg old o) (sym (ap (λ c. cond c (pos p) (reg old o)) q)) ih)

-- ---- the start: a list of origins that are all new

pub start_commands : (k n : ℕ) → map put (span k n) ≡ commands 0 k (replicate n 0)
unfolding span commands
start_commands k zero = refl
start_commands k (suc n) = ap (λ l. put k ∷ l) (ap (λ v. map put (span v n)) (add-one k) ∙ start_commands (suc k) n)

pub start_sets : (k n : ℕ) → Sets (map put (span k n))
unfolding span
start_sets k zero = tt
start_sets k (suc n) = start_sets (k + 1) n
