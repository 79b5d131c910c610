-- What the machine does with the words of the grammar, and how deep it goes. Assumes nothing.
use Prim.Native.Nat.{ℕ, suc, ◌+◌, ◌≤◌, ◌<◌}
use mathlib.Core.Path.{◌≡◌, refl, sym, ap, subst, ◌∙◌}
use mathlib.Core.List.{List, [], ◌∷◌, ◌++◌}
use mathlib.Core.Bool.{Bool, true, false, ◌&&◌}
use native.Mathlib.Omega.{arith}
use lib.Dec.{leb}
use borrow.Author.Tests.{le-leb}
use Rattle.ground.specs.Pick.{pick}
use Rattle.pattern.specs.Pat.{Pat}
use Rattle.pattern.specs.Sets.{Item, Step, fresh, shut, bad, set_on}
use Rattle.pattern.specs.Reader.{Lvl, alts, seq, piece, atom, repeating}
use Rattle.pattern.specs.Grammar as grammar
use Rattle.pattern.specs.Grammar.{Spells, ItemsSpell, SetSpells}
use Rattle.grammar.proofs.SetRun.{set_run, Going, going_first}
use Rattle.grammar.proofs.SetSpelled.{set_run_lem}
use Rattle.grammar.proofs.Machine.{St, at, esc, mark, box, inset, dead, into, tag_end, box_on, s0, on, run, run_append, ordinary, into_going, inset_run, stand, no_caret, box_run}

-- a set has items
pub not_empty : {xs : List Item} → ItemsSpell [] xs → ⊥
unfolding set_on pick
not_empty h = let s : bad ≡ shut = (set_run_lem h).ends in let n : ◌≡◌ {A = ℕ} 0 1 = cc in omega arith

-- a set leads from between atoms to between atoms
items_end : (k : ℕ) (w : List ℕ) {xs : List Item} → ItemsSpell w xs → run (stand k w) (93 ∷ []) ≡ at k true
items_end k [] h = absurd (not_empty h)
items_end k (c ∷ w) h = ap (into k) (set_run_lem h).ends

pub set_runs : {w bits : List ℕ} → SetSpells w bits → (k : ℕ) (b : Bool) → run (at k b) w ≡ at k true
set_runs (grammar.these {w = w} h) k b = run_append (box k) w (93 ∷ []) ∙ ap (λ x. run x (93 ∷ [])) (box_run k w (set_run_lem h).going) ∙ items_end k w h
set_runs (grammar.others {w = w} h) k b = run_append (inset k fresh) w (93 ∷ []) ∙ ap (λ x. run x (93 ∷ [])) (inset_run k w fresh (set_run_lem h).going) ∙ ap (into k) (set_run_lem h).ends

abbrev pub Ends : Lvl → Bool → Type 0
Ends alts b = Unit {0}
Ends seq b = Unit {0}
Ends piece b = Unit {0}
Ends atom b = b ≡ true

pub record To (l : Lvl) (k : ℕ) (b : Bool) (w : List ℕ) : Type 0 where
  pub free : Bool
  pub gets : run (at k b) w ≡ at k free
  pub ends : Ends l free

unfoldable pub repeat_to : (k : ℕ) (b : Bool) (w : List ℕ) (c : ℕ) → repeating c ≡ true → To atom k b w → To piece k b (w ++ c ∷ [])
repeat_to k b w c r a = record {
  free = false;
  gets = run_append (at k b) w (c ∷ []) ∙ ap (λ t. run t (c ∷ [])) a.gets ∙ ap (λ f. s0 (repeating c) f c k) a.ends ∙ ap (λ x. s0 x true c k) r;
  ends = tt;
}

-- a word of the grammar leads from between atoms to between atoms
unfoldable pub runs : {l : Lvl} {w : List ℕ} {p : Pat} → Spells l w p → (k : ℕ) (b : Bool) → To l k b w
runs (grammar.last_alt x) k b = let a = runs x k b in record { free = a.free; gets = a.gets; ends = tt }
runs (grammar.more_alts {w = w} {v = v} x y) k b =
    let a = runs x k b in let z = runs y k false in
    record { free = z.free; gets = run_append (at k b) w (124 ∷ v) ∙ ap (λ t. run t (124 ∷ v)) a.gets ∙ z.gets; ends = tt }
runs grammar.no_more k b = record { free = b; gets = refl; ends = tt }
runs (grammar.more {w = w} {v = v} x y) k b =
    let a = runs x k b in let z = runs y k a.free in
    record { free = z.free; gets = run_append (at k b) w v ∙ ap (λ t. run t v) a.gets ∙ z.gets; ends = tt }
runs (grammar.bare x) k b = let a = runs x k b in record { free = a.free; gets = a.gets; ends = tt }
runs (grammar.star {w = w} x) k b = repeat_to k b w 42 refl (runs x k b)
runs (grammar.plus {w = w} x) k b = repeat_to k b w 43 refl (runs x k b)
runs (grammar.opt {w = w} x) k b = repeat_to k b w 63 refl (runs x k b)
runs (grammar.group {w = w} x) k b =
    let a = runs x (suc k) false in
    record { free = true; gets = run_append (at (suc k) false) w (41 ∷ []) ∙ ap (λ t. run t (41 ∷ [])) a.gets; ends = refl }
runs (grammar.byte {c = c} o) k b = record { free = true; gets = ordinary c k b o; ends = refl }
runs grammar.any k b = record { free = true; gets = refl; ends = refl }
runs (grammar.escaped h) k b = record { free = true; gets = refl; ends = refl }
runs (grammar.tag {t = t} h) k b = record { free = true; gets = ap (λ x. tag_end x k) (ap (λ x. x && leb (t + 48) 55) (le-leb 48 (t + 48) (omega arith)) ∙ le-leb (t + 48) 55 (omega arith)); ends = refl }
runs (grammar.set h) k b = record { free = true; gets = set_runs h k b; ends = refl }

-- No group of the word is the 17th open one, where d are open before it. With d above 16 there is no limit.
abbrev pub Fit : {l : Lvl} {w : List ℕ} {p : Pat} → Spells l w p → ℕ → Type 0
Fit (grammar.last_alt x) d = Fit x d
Fit (grammar.more_alts x y) d = Fit x d × Fit y d
Fit grammar.no_more d = Unit {0}
Fit (grammar.more x y) d = Fit x d × Fit y d
Fit (grammar.bare x) d = Fit x d
Fit (grammar.star x) d = Fit x d
Fit (grammar.plus x) d = Fit x d
Fit (grammar.opt x) d = Fit x d
Fit (grammar.group x) d = (d ≡ 16 → ⊥) × Fit x (d + 1)
Fit (grammar.byte o) d = Unit {0}
Fit grammar.any d = Unit {0}
Fit (grammar.escaped h) d = Unit {0}
Fit (grammar.tag h) d = Unit {0}
Fit (grammar.set h) d = Unit {0}

pub fit_far : {l : Lvl} {w : List ℕ} {p : Pat} (x : Spells l w p) (d : ℕ) → 16 < d → Fit x d
fit_far (grammar.last_alt x) d h = fit_far x d h
fit_far (grammar.more_alts x y) d h = (fit_far x d h, fit_far y d h)
fit_far grammar.no_more d h = tt
fit_far (grammar.more x y) d h = (fit_far x d h, fit_far y d h)
fit_far (grammar.bare x) d h = fit_far x d h
fit_far (grammar.star x) d h = fit_far x d h
fit_far (grammar.plus x) d h = fit_far x d h
fit_far (grammar.opt x) d h = fit_far x d h
fit_far (grammar.group x) d h = (λ e. omega arith, fit_far x (d + 1) (omega arith))
fit_far (grammar.byte o) d h = tt
fit_far grammar.any d h = tt
fit_far (grammar.escaped h') d h = tt
fit_far (grammar.tag h') d h = tt
fit_far (grammar.set h') d h = tt

-- the groups open in a state, and a bound of them on the way through a word
abbrev pub depth : St → ℕ
depth (at k b) = k
depth (esc k) = k
depth (mark k) = k
depth (box k) = k
depth (inset k st) = k
depth dead = 0

abbrev pub Low : ℕ → St → List ℕ → Type 0
Low n x [] = Unit {0}
Low n x (c ∷ w) = (depth (on x c) ≤ n) × Low n (on x c) w

pub low_append : (n : ℕ) (x : St) (v w : List ℕ) → Low n x v → Low n (run x v) w → Low n x (v ++ w)
low_append n x [] w a b = b
low_append n x (c ∷ v) w a b = (a.0, low_append n (on x c) v w a.1 b)

pub low_at : (n : ℕ) (x : St) (v w : List ℕ) → depth x ≤ n → Low n x (v ++ w) → depth (run x v) ≤ n
low_at n x [] w h l = h
low_at n x (c ∷ v) w h l = low_at n (on x c) v w l.0 l.1

-- a part of the way, by where it leads
pub low_then : (n : ℕ) (x y : St) (v w : List ℕ) → run x v ≡ y → Low n x v → Low n y w → Low n x (v ++ w)
low_then n x y v w e a b = low_append n x v w a (subst (λ (z : St). Low n z w) (sym e) b)

pub low_one : (n : ℕ) (x y : St) (c : ℕ) (w : List ℕ) → on x c ≡ y → depth y ≤ n → Low n y w → Low n x (c ∷ w)
low_one n x y c w e h l = (subst (λ (z : St). depth z ≤ n) (sym e) h, subst (λ (z : St). Low n z w) (sym e) l)

-- a set opens no group
pub inset_low : (n k : ℕ) (v : List ℕ) (st : Step) → k ≤ n → Going (set_run st v) → Low n (inset k st) v
inset_low n k [] st h g = tt
inset_low n k (c ∷ v) st h g = low_one n (inset k st) (inset k (set_on st c)) c v (into_going k (set_on st c) (going_first (set_on st c) v g)) h (inset_low n k v (set_on st c) h g)

pub box_low : (n k : ℕ) (v : List ℕ) → k ≤ n → Going (set_run fresh v) → Low n (box k) v
box_low n k [] h g = tt
box_low n k (c ∷ v) h g =
    low_one n (box k) (inset k (set_on fresh c)) c v (ap (λ x. box_on x k c) (no_caret c v g) ∙ into_going k (set_on fresh c) (going_first (set_on fresh c) v g)) h (inset_low n k v (set_on fresh c) h g)

set_low : {w bits : List ℕ} → SetSpells w bits → (n k : ℕ) (b : Bool) → k ≤ n → Low n (at k b) w
set_low (grammar.these {w = w} h) n k b l =
    (l, low_then n (box k) (stand k w) w (93 ∷ []) (box_run k w (set_run_lem h).going) (box_low n k w l (set_run_lem h).going) (low_one n (stand k w) (at k true) 93 [] (items_end k w h) l tt))
set_low (grammar.others {w = w} h) n k b l =
    (l, (l, low_then n (inset k fresh) (inset k (set_run fresh w)) w (93 ∷ []) (inset_run k w fresh (set_run_lem h).going) (inset_low n k w fresh l (set_run_lem h).going) (low_one n (inset k (set_run fresh w)) (at k true) 93 [] (ap (into k) (set_run_lem h).ends) l tt)))

-- with d groups open for the reader and k for the machine, n is the machine's bound
pub record Room (n d k : ℕ) : Type 0 where
  pub few : d ≤ 16
  pub sum : n + d ≡ k + 16

repeat_low : (n k : ℕ) (b : Bool) (w : List ℕ) (c : ℕ) → repeating c ≡ true → k ≤ n → To atom k b w → Low n (at k b) w → Low n (at k b) (w ++ c ∷ [])
repeat_low n k b w c r h a l = low_then n (at k b) (at k true) w (c ∷ []) (a.gets ∙ ap (at k) a.ends) l (low_one n (at k true) (at k false) c [] (ap (λ x. s0 x true c k) r) h tt)

-- a word that fits stays within the bound
pub fit_low : {l : Lvl} {w : List ℕ} {p : Pat} (x : Spells l w p) (n d k : ℕ) (b : Bool) → Fit x d → Room n d k → Low n (at k b) w
fit_low (grammar.last_alt x) n d k b f r = fit_low x n d k b f r
fit_low (grammar.more_alts {w = w} {v = v} x y) n d k b f r =
    let a = runs x k b in
    low_then n (at k b) (at k a.free) w (124 ∷ v) a.gets (fit_low x n d k b f.0 r) (omega arith, fit_low y n d k false f.1 r)
fit_low grammar.no_more n d k b f r = tt
fit_low (grammar.more {w = w} {v = v} x y) n d k b f r =
    let a = runs x k b in
    low_then n (at k b) (at k a.free) w v a.gets (fit_low x n d k b f.0 r) (fit_low y n d k a.free f.1 r)
fit_low (grammar.bare x) n d k b f r = fit_low x n d k b f r
fit_low (grammar.star {w = w} x) n d k b f r = repeat_low n k b w 42 refl (omega arith) (runs x k b) (fit_low x n d k b f r)
fit_low (grammar.plus {w = w} x) n d k b f r = repeat_low n k b w 43 refl (omega arith) (runs x k b) (fit_low x n d k b f r)
fit_low (grammar.opt {w = w} x) n d k b f r = repeat_low n k b w 63 refl (omega arith) (runs x k b) (fit_low x n d k b f r)
fit_low (grammar.group {w = w} x) n d k b f r =
    let a = runs x (suc k) false in
    let m : d + 1 ≤ 16 = fewer r.few f.0 in
    (omega (arith, r.sum), low_then n (at (suc k) false) (at (suc k) a.free) w (41 ∷ []) a.gets (fit_low x n (d + 1) (suc k) false f.1 (record { few = m; sum = omega (arith, r.sum) })) (omega (arith, r.sum), tt))
  where
    fewer : d ≤ 16 → (d ≡ 16 → ⊥) → d + 1 ≤ 16
    fewer h z = omega arith
fit_low (grammar.byte {c = c} o) n d k b f r = low_one n (at k b) (at k true) c [] (ordinary c k b o) (omega arith) tt
fit_low grammar.any n d k b f r = (omega arith, tt)
fit_low (grammar.escaped h) n d k b f r = (omega arith, (omega arith, tt))
fit_low (grammar.tag {t = t} h) n d k b f r = (omega arith, low_one n (mark k) (at k true) (t + 48) [] (ap (λ x. tag_end x k) (ap (λ x. x && leb (t + 48) 55) (le-leb 48 (t + 48) (omega arith)) ∙ le-leb (t + 48) 55 (omega arith))) (omega arith) tt)
fit_low (grammar.set h) n d k b f r = set_low h n k b (omega arith)
