-- What a reading says of the text, by the grammar and the machine: the word that was read, where no pattern goes on, where a group is too deep. Assumes nothing.
use Prim.Native.Nat.{ℕ, zero, suc, ◌+◌, ◌-◌, ◌≤◌, ◌<◌}
use mathlib.Core.Path.{◌≡◌, refl, sym, ap, subst, ◌∙◌}
use mathlib.Core.List.{List, [], ◌∷◌, ◌++◌, append_assoc}
use mathlib.Core.Bool.{Bool, true, false, ◌||◌}
use native.Mathlib.Omega.{arith}
use lib.ListN.{length}
use lib.Dec.{eqb}
use Rattle.ground.specs.Pick.{look}
use Rattle.pattern.specs.Pat.{Pat}
use Rattle.pattern.specs.Sets.{Item}
use Rattle.pattern.specs.Reader.{Res, ok, form, deep, Lvl, alts, seq, piece, atom, and_then, stops, repeating}
use Rattle.pattern.specs.Grammar as grammar
use Rattle.pattern.specs.Grammar.{Spells, Legal, Open}
use Rattle.grammar.proofs.SetRun.{Going}
use Rattle.grammar.proofs.SetHeard.{Sofar}
use Rattle.grammar.proofs.Machine.{St, at, esc, mark, box, inset, dead, on, run, run_append}
use Rattle.grammar.proofs.Runs.{runs, Fit, Low, low_then, Room}
use Rattle.grammar.proofs.Parts.{Part, join, byte_then}

-- a state in which some pattern goes on, and one in which it may end
abbrev pub Alive : St → Type 0
Alive (at k b) = Unit {0}
Alive (esc k) = Unit {0}
Alive (mark k) = Unit {0}
Alive (box k) = Unit {0}
Alive (inset k st) = (u : List ℕ) × (xs : List Item) × Going st × Sofar u st xs
Alive dead = ⊥

abbrev pub Final : St → Type 0
Final (at zero b) = Unit {0}
Final (at (suc k) b) = ⊥
Final (esc k) = ⊥
Final (mark k) = ⊥
Final (box k) = ⊥
Final (inset k st) = ⊥
Final dead = ⊥

-- from between atoms at i, the machine comes to q alive and no further, and not too deep
pub record Fail (s : List ℕ) (d i q k : ℕ) (b : Bool) : Type 0 where
  pub word : List ℕ
  pub part : Part s i q word
  pub stood : St
  pub gets : run (at k b) word ≡ stood
  pub alive : Alive stood
  pub stuck : q < length s → on stood (look s q) ≡ dead
  pub short : q ≡ length s → Final stood → ⊥
  pub low : (n : ℕ) → Room n d k → Low n (at k b) word

abbrev pub Fails : List ℕ → ℕ → ℕ → ℕ → Type 0
Fails s d i q = (k : ℕ) (b : Bool) → (b ≡ true → repeating (look s i) ≡ false) → Fail s d i q k b

-- what stands after a part of each level
abbrev pub After : List ℕ → (l : Lvl) → ℕ → (w : List ℕ) (p : Pat) → Spells l w p → Type 0
After s alts e w p x = (eqb (look s e) 41 || eqb (look s e) 256) ≡ true
After s seq e w p x = stops (look s e) ≡ true
After s piece e w p x = (k : ℕ) (b : Bool) → (runs x k b).free ≡ true → repeating (look s e) ≡ false
After s atom e w p x = Unit {0}

pub record Found (s : List ℕ) (l : Lvl) (d i e : ℕ) (p : Pat) : Type 0 where
  pub word : List ℕ
  pub spells : Spells l word p
  pub part : Part s i e word
  pub after : After s l e word p spells
  pub fit : Fit spells d

-- a group that opens at q while sixteen are open, d of them before i
pub record Dives (s : List ℕ) (d i q : ℕ) : Type 0 where
  pub few : d ≤ 16
  pub word : List ℕ
  pub part : Part s i q word
  pub opened : Open (16 - d) word
  pub brace : look s q ≡ 40
  pub low : (n k : ℕ) (b : Bool) → Room n d k → Low n (at k b) word

abbrev pub Track : List ℕ → Lvl → ℕ → ℕ → Res → Type 0
Track s l d i (ok e p) = Found s l d i e p
Track s l d i (form q) = Fails s d i q
Track s l d i (deep q) = Dives s d i q

pub track_then : (s : List ℕ) (l l' : Lvl) (d d' i i' : ℕ) (r : Res) (f : ℕ → Pat → Res) → ((e : ℕ) (p : Pat) → r ≡ ok e p → Found s l d i e p → Track s l' d' i' (f e p)) → ((q : ℕ) → Fails s d i q → Fails s d' i' q) → ((q : ℕ) → Dives s d i q → Dives s d' i' q) → Track s l d i r → Track s l' d' i' (and_then r f)
track_then s l l' d d' i i' (ok e p) f a b c t = a e p refl t
track_then s l l' d d' i i' (form q) f a b c t = b q t
track_then s l l' d d' i i' (deep q) f a b c t = c q t

-- a failure further on is a failure from here
pub shift : (s : List ℕ) (d d' i e q : ℕ) (w : List ℕ) → Part s i e w → (k k' : ℕ) (b b' : Bool) → run (at k b) w ≡ at k' b' → ((n : ℕ) → Room n d k → Room n d' k' × Low n (at k b) w) → Fail s d' e q k' b' → Fail s d i q k b
shift s d d' i e q w x k k' b b' g room f = record {
  word = w ++ f.word;
  part = join s i e q w f.word x f.part;
  stood = f.stood;
  gets = run_append (at k b) w f.word ∙ ap (λ t. run t f.word) g ∙ f.gets;
  alive = f.alive;
  stuck = f.stuck;
  short = f.short;
  low = λ n r. let z = room n r in low_then n (at k b) (at k' b') w f.word g z.1 (f.low n z.0);
}

-- a word before it at the same level
ahead : (n : ℕ) (w v : List ℕ) → ((u : List ℕ) → Legal u → Legal (w ++ u)) → Open n v → Open n (w ++ v)
ahead zero w v f o = f v o
ahead (suc n) w v f o = (w ++ o.0, o.1, f o.0 o.2, o.3, ap (λ l. w ++ l) o.4 ∙ sym (append_assoc w o.0 (40 ∷ o.1)))

pub before : (s : List ℕ) (d i e q : ℕ) (w : List ℕ) → ((u : List ℕ) → Legal u → Legal (w ++ u)) → ((k : ℕ) (b : Bool) → (b' : Bool) × (run (at k b) w ≡ at k b') × ((n : ℕ) → Room n d k → Low n (at k b) w)) → Part s i e w → Dives s d e q → Dives s d i q
before s d i e q w f g x v = record {
  few = v.few;
  word = w ++ v.word;
  part = join s i e q w v.word x v.part;
  opened = ahead (16 - d) w v.word f v.opened;
  brace = v.brace;
  low = λ n k b r. let z = g k b in low_then n (at k b) (at k z.0) w v.word z.1 (z.2 n r) (v.low n k z.0 r);
}

-- a piece, or an alternative and its bar, before a legal pattern
pub piece_ahead : {w : List ℕ} {p : Pat} → Spells piece w p → (u : List ℕ) → Legal u → Legal (w ++ u)
piece_ahead {w} {p} x u l = go l.1
  where
    go : {u : List ℕ} {q : Pat} → Spells alts u q → Legal (w ++ u)
    go (grammar.last_alt z) = (_, grammar.last_alt (grammar.more x z))
    go (grammar.more_alts {w = a} {v = b} z r) = subst Legal (append_assoc w a (124 ∷ b)) (_, grammar.more_alts (grammar.more x z) r)

pub bar_ahead : {w : List ℕ} {p : Pat} → Spells seq w p → (u : List ℕ) → Legal u → Legal ((w ++ 124 ∷ []) ++ u)
bar_ahead {w} x u l = subst Legal (sym (append_assoc w (124 ∷ []) u)) (_, grammar.more_alts x l.1)

-- a group around it
pub room_in : (n d k : ℕ) → (d ≡ 16 → ⊥) → Room n d k → Room n (d + 1) (suc k)
room_in n d k z r = record { few = fewer r.few z; sum = omega (arith, r.sum) }
  where
    fewer : d ≤ 16 → (d ≡ 16 → ⊥) → d + 1 ≤ 16
    fewer h z = omega arith

pub around : (s : List ℕ) (d i q : ℕ) → (d ≡ 16 → ⊥) → d ≤ 16 → look s i ≡ 40 → Dives s (d + 1) (i + 1) q → Dives s d i q
around s d i q n h o v = record {
  few = h;
  word = 40 ∷ v.word;
  part = byte_then s i q 40 v.word (omega arith) o v.part;
  opened = let e : suc (16 - (d + 1)) ≡ 16 - d = omega arith in subst (λ (k : ℕ). Open k (40 ∷ v.word)) e ([], v.word, (_, grammar.last_alt grammar.no_more), v.opened, refl);
  brace = v.brace;
  low = λ m k b r. let z = room_in m d k n r in (omega (arith, z.few, z.sum), v.low m (suc k) false z);
}
