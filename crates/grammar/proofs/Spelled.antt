-- What the grammar spells the reader reads, as that tree; so the tree is unique. Assumes nothing.
use Prim.Native.Nat.{ℕ, suc, ◌+◌, ◌-◌, ◌≤◌}
use mathlib.Core.Path.{◌≡◌, refl, sym, ap, ◌∙◌}
use mathlib.Core.List.{List, [], ◌∷◌, ◌++◌, append_assoc, append-nil}
use mathlib.Core.Bool.{Bool, true, false, ◌||◌}
use native.Mathlib.Omega.{arith}
use lib.ListN.{length, drop, length-append, length-drop}
use lib.Seq.{get_or-drop}
use lib.Dec.{eqb}
use borrow.Author.Tests.{eqb-true, eqb-false}
use Rattle.ground.specs.Pick.{look}
use Rattle.ground.proofs.Lists.{follows}
use Rattle.pattern.specs.Pat.{Pat, Empty, Byte, Set, Tag, Seq, Alt, Star, Plus, Opt}
use Rattle.pattern.specs.Sets.{Item, fresh, scan, allows, mask_of}
use Rattle.pattern.specs.Reader.{ok, Lvl, alts, seq, piece, atom, and_then, stops, repeating, barred, set_read, set_from, set_at, repeated, closed, read}
use Rattle.pattern.specs.Grammar as grammar
use Rattle.pattern.specs.Grammar.{Spells, ItemsSpell, SetSpells}
use Rattle.pattern.proofs.Laws.{alts_one, alts_more, seq_none, seq_some, piece_ok, atom_lone, atom_closed, single_escaped, single_tag, single_dot, single_set, single_plain}
use Rattle.ground.proofs.Tests.{true_false}
use Rattle.pattern.proofs.Steps.{once}
use Rattle.grammar.proofs.SetSpelled.{set_run_lem, scan_spelled}
use Rattle.grammar.proofs.Machine.{passes, no_caret}
use Rattle.grammar.proofs.Runs.{Fit, fit_far, not_empty}

-- a byte that stops a sequence repeats nothing
stop_free : (c : ℕ) → stops c ≡ true → repeating c ≡ false
stop_free c h = by (eqb c 124) (eqb c 41) (eqb c 256) refl refl refl
  where
    by : (x y z : Bool) → eqb c 124 ≡ x → eqb c 41 ≡ y → eqb c 256 ≡ z → repeating c ≡ false
    by true y z a b d = ap repeating (eqb-true c 124 a)
    by false true z a b d = ap repeating (eqb-true c 41 b)
    by false false true a b d = ap repeating (eqb-true c 256 d)
    by false false false a b d = absurd (true_false (sym h ∙ ap (λ x. x || (eqb c 41 || eqb c 256)) a ∙ ap (λ x. x || eqb c 256) b ∙ d))

-- the first byte of an atom neither stops a sequence nor repeats anything
pub record Begun (w : List ℕ) : Type 0 where
  pub head : ℕ
  pub tail : List ℕ
  pub is : w ≡ head ∷ tail
  pub unstopped : stops head ≡ false
  pub unrepeated : repeating head ≡ false

longer : (w v : List ℕ) → Begun w → Begun (w ++ v)
longer w v b = record { head = b.head; tail = b.tail ++ v; is = ap (λ l. l ++ v) b.is; unstopped = b.unstopped; unrepeated = b.unrepeated }

set_begun : {w bits : List ℕ} → SetSpells w bits → Begun w
set_begun (grammar.these h) = record { head = 91; tail = _; is = refl; unstopped = refl; unrepeated = refl }
set_begun (grammar.others h) = record { head = 91; tail = _; is = refl; unstopped = refl; unrepeated = refl }

-- of an atom or a piece
abbrev Starts : Lvl → List ℕ → Type 0
Starts alts w = Unit {0}
Starts seq w = Unit {0}
Starts piece w = Begun w
Starts atom w = Begun w

starts : {l : Lvl} {w : List ℕ} {p : Pat} → Spells l w p → Starts l w
starts (grammar.last_alt x) = tt
starts (grammar.more_alts x y) = tt
starts grammar.no_more = tt
starts (grammar.more x y) = tt
starts (grammar.bare x) = starts x
starts (grammar.star {w = w} x) = longer w (42 ∷ []) (starts x)
starts (grammar.plus {w = w} x) = longer w (43 ∷ []) (starts x)
starts (grammar.opt {w = w} x) = longer w (63 ∷ []) (starts x)
starts (grammar.group x) = record { head = 40; tail = _; is = refl; unstopped = refl; unrepeated = refl }
starts (grammar.byte {c = c} o) = let p = passes c o in record { head = c; tail = []; is = refl; unstopped = p.unstopped; unrepeated = p.no_repeat }
starts grammar.any = record { head = 46; tail = []; is = refl; unstopped = refl; unrepeated = refl }
starts (grammar.escaped h) = record { head = 92; tail = _; is = refl; unstopped = refl; unrepeated = refl }
starts (grammar.tag h) = record { head = 64; tail = _; is = refl; unstopped = refl; unrepeated = refl }
starts (grammar.set h) = set_begun h

-- no sequence begins with a repetition
unrepeated : {w : List ℕ} {p : Pat} → Spells seq w p → (r : List ℕ) → stops (look r 0) ≡ true → repeating (look (w ++ r) 0) ≡ false
unrepeated grammar.no_more r h = stop_free (look r 0) h
unrepeated (grammar.more {w = w} {v = v} x y) r h = let b = starts x in ap (λ l. repeating (look ((l ++ v) ++ r) 0)) b.is ∙ b.unrepeated

-- what may follow a part of each level
abbrev pub Follows : Lvl → ℕ → Type 0
Follows alts c = (eqb c 41 || eqb c 256) ≡ true
Follows seq c = stops c ≡ true
Follows piece c = repeating c ≡ false
Follows atom c = Unit {0}

-- the bytes at i are w and then r
pub look_at : (s : List ℕ) (i : ℕ) (r : List ℕ) → drop i s ≡ r → look s i ≡ look r 0
look_at s i r e = let z : i + 0 ≡ i = omega arith in sym (get_or-drop i s 0 256 ∙ ap (look s) z) ∙ ap (λ l. look l 0) e

after_stop : (c : ℕ) → Follows alts c → (stops c ≡ true) × (c ≡ 124 → ⊥)
after_stop c h = (by (eqb c 124) refl, λ e. true_false (sym h ∙ ap (λ x. eqb x 41 || eqb x 256) e))
  where
    by : (b : Bool) → eqb c 124 ≡ b → stops c ≡ true
    by true t = ap (λ x. x || (eqb c 41 || eqb c 256)) t
    by false t = ap (λ x. x || (eqb c 41 || eqb c 256)) t ∙ h

module _ (s : List ℕ) where
  -- a place that the bytes from i on reach
  inside : (i : ℕ) (w r : List ℕ) → i ≤ length s → drop i s ≡ w ++ r → i + length w ≤ length s
  inside i w r h e = let a = ap length e in let b = length-drop i s in let c = length-append w r in omega arith

  pub set_spelled : {w bits : List ℕ} → SetSpells w bits → (i : ℕ) (r : List ℕ) → drop i s ≡ w ++ r → set_at s i ≡ ok (i + length w) (Set bits)
  unfolding set_at
  set_spelled (grammar.these {w = w} {xs = xs} h) i r e =
      let e₁ : drop (i + 1) s ≡ w ++ 93 ∷ r = follows s (91 ∷ []) ((w ++ 93 ∷ []) ++ r) i e ∙ append_assoc w (93 ∷ []) r in
      let n : i + 1 + length w + 1 ≡ i + suc (length (w ++ 93 ∷ [])) = let a = length-append w (93 ∷ []) in omega arith in
      ap (λ b. set_from b s i) (ap (λ c. eqb c 94) (look_at s (i + 1) (w ++ 93 ∷ r) e₁) ∙ no_caret_in w h)
      ∙ ap (λ l. set_read false (scan l (i + 1) fresh [])) e₁ ∙ ap (set_read false) (scan_spelled h r (i + 1)) ∙ ap (λ k. ok k (Set (mask_of (allows false xs)))) n
    where
      no_caret_in : (v : List ℕ) {ys : List Item} → ItemsSpell v ys → eqb (look (v ++ 93 ∷ r) 0) 94 ≡ false
      no_caret_in [] g = absurd (not_empty g)
      no_caret_in (c ∷ v) g = no_caret c v (set_run_lem g).going
  set_spelled (grammar.others {w = w} {xs = xs} h) i r e =
      let e₁ : drop (i + 1) s ≡ 94 ∷ ((w ++ 93 ∷ []) ++ r) = follows s (91 ∷ []) (94 ∷ ((w ++ 93 ∷ []) ++ r)) i e in
      let e₂ : drop (i + 2) s ≡ w ++ 93 ∷ r = follows s (91 ∷ 94 ∷ []) ((w ++ 93 ∷ []) ++ r) i e ∙ append_assoc w (93 ∷ []) r in
      let n : i + 2 + length w + 1 ≡ i + suc (suc (length (w ++ 93 ∷ []))) = let a = length-append w (93 ∷ []) in omega arith in
      ap (λ b. set_from b s i) (ap (λ c. eqb c 94) (look_at s (i + 1) _ e₁))
      ∙ ap (λ l. set_read true (scan l (i + 2) fresh [])) e₂ ∙ ap (set_read true) (scan_spelled h r (i + 2)) ∙ ap (λ k. ok k (Set (mask_of (allows true xs)))) n

  -- an atom's repetition
  repeat_spelled : (d i c : ℕ) (w : List ℕ) (p q : Pat) (r : List ℕ) → i ≤ length s → drop i s ≡ (w ++ c ∷ []) ++ r → ((e : ℕ) → repeated (eqb c 42) c e p ≡ ok (e + 1) q) → read s atom d i ≡ ok (i + length w) p → read s piece d i ≡ ok (i + length (w ++ c ∷ [])) q
  repeat_spelled d i c w p q r h e f g =
      let a : look s (i + length w) ≡ c = look_at s (i + length w) (c ∷ r) (follows s w (c ∷ r) i (e ∙ append_assoc w (c ∷ []) r)) in
      let n : i + length w + 1 ≡ i + length (w ++ c ∷ []) = let b = length-append w (c ∷ []) in omega arith in
      piece_ok s d i h (i + length w) p g ∙ ap (λ x. repeated (eqb x 42) x (i + length w) p) a ∙ f (i + length w) ∙ ap (λ k. ok k q) n

  -- What is spelled is read, where what follows ends the part and no group is too deep.
  pub spelled : {l : Lvl} {w : List ℕ} {p : Pat} (x : Spells l w p) (d i : ℕ) (r : List ℕ) → i ≤ length s → drop i s ≡ w ++ r → Follows l (look r 0) → Fit x d → read s l d i ≡ ok (i + length w) p
  spelled (grammar.last_alt {w = w} {p = p} x) d i r h e f t =
      let a = after_stop (look r 0) f in
      alts_one s d i h (i + length w) p (spelled x d i r h e a.0 t) (λ c. a.1 (sym (look_at s (i + length w) r (follows s w r i e)) ∙ c))
  spelled (grammar.more_alts {w = w} {v = v} {p = p} {q = q} x y) d i r h e f t =
      let e₀ : drop i s ≡ w ++ 124 ∷ (v ++ r) = e ∙ append_assoc w (124 ∷ v) r in
      let e₁ = follows s w (124 ∷ (v ++ r)) i e₀ in
      let e₂ : drop (i + length w + 1) s ≡ v ++ r = follows s (124 ∷ []) (v ++ r) (i + length w) e₁ in
      let n : i + length w + 1 + length v ≡ i + length (w ++ 124 ∷ v) = let a = length-append w (124 ∷ v) in omega arith in
      let b : i + length w + 1 ≤ length s = let a = inside (i + length w) (124 ∷ []) (v ++ r) (inside i w (124 ∷ (v ++ r)) h e₀) e₁ in omega arith in
      alts_more s d i h (i + length w) p (spelled x d i (124 ∷ (v ++ r)) h e₀ refl t.0) (look_at s (i + length w) (124 ∷ (v ++ r)) e₁)
      ∙ ap (λ z. and_then z (λ e' q. ok e' (Alt p q))) (spelled y d (i + length w + 1) r b e₂ f t.1) ∙ ap (λ k. ok k (Alt p q)) n
  spelled grammar.no_more d i r h e f t =
      let n : i ≡ i + 0 = omega arith in
      seq_none s d i h (ap stops (look_at s i r e) ∙ f) ∙ ap (λ k. ok k Empty) n
  spelled (grammar.more {w = w} {v = v} {p = p} {q = q} x y) d i r h e f t =
      let e₀ : drop i s ≡ w ++ (v ++ r) = e ∙ append_assoc w v r in
      let e₁ = follows s w (v ++ r) i e₀ in
      let b = starts x in
      let n : i + length w + length v ≡ i + length (w ++ v) = let a = length-append w v in omega arith in
      seq_some s d i h (ap stops (look_at s i (w ++ (v ++ r)) e₀) ∙ ap (λ l. stops (look (l ++ (v ++ r)) 0)) b.is ∙ b.unstopped)
      ∙ ap (λ z. and_then z (λ e p. and_then (read s seq d e) (λ e' q. ok e' (Seq p q)))) (spelled x d i (v ++ r) h e₀ (unrepeated y r f) t.0)
      ∙ ap (λ z. and_then z (λ e' q. ok e' (Seq p q))) (spelled y d (i + length w) r (inside i w (v ++ r) h e₀) e₁ f t.1) ∙ ap (λ k. ok k (Seq p q)) n
  spelled (grammar.bare {w = w} {p = p} x) d i r h e f t =
      piece_ok s d i h (i + length w) p (spelled x d i r h e tt t) ∙ once (look s (i + length w)) (i + length w) p (ap repeating (look_at s (i + length w) r (follows s w r i e)) ∙ f)
  spelled (grammar.star {w = w} {p = p} x) d i r h e f t = repeat_spelled d i 42 w p (Star p) r h e (λ k. refl) (spelled x d i (42 ∷ r) h (e ∙ append_assoc w (42 ∷ []) r) tt t)
  spelled (grammar.plus {w = w} {p = p} x) d i r h e f t = repeat_spelled d i 43 w p (Plus p) r h e (λ k. refl) (spelled x d i (43 ∷ r) h (e ∙ append_assoc w (43 ∷ []) r) tt t)
  spelled (grammar.opt {w = w} {p = p} x) d i r h e f t = repeat_spelled d i 63 w p (Opt p) r h e (λ k. refl) (spelled x d i (63 ∷ r) h (e ∙ append_assoc w (63 ∷ []) r) tt t)
  spelled (grammar.group {w = w} {p = p} x) d i r h e f t =
      let e₀ : drop (i + 1) s ≡ w ++ 41 ∷ r = follows s (40 ∷ []) ((w ++ 41 ∷ []) ++ r) i e ∙ append_assoc w (41 ∷ []) r in
      let b : i + 1 ≤ length s = inside i (40 ∷ []) ((w ++ 41 ∷ []) ++ r) h e in
      let c : look s (i + 1 + length w) ≡ 41 = look_at s (i + 1 + length w) (41 ∷ r) (follows s w (41 ∷ r) (i + 1) e₀) in
      let n : i + 1 + length w + 1 ≡ i + suc (length (w ++ 41 ∷ [])) = let a = length-append w (41 ∷ []) in omega arith in
      atom_closed s d i h (i + 1 + length w) p (look_at s i _ e) t.0 (spelled x (d + 1) (i + 1) (41 ∷ r) b e₀ refl t.1)
      ∙ ap (λ x. closed (eqb x 41) (i + 1 + length w) p) c ∙ ap (λ k. ok k p) n
  spelled (grammar.byte {c = c} o) d i r h e f t =
      let a : look s i ≡ c = look_at s i (c ∷ r) e in
      let p = passes c o in
      atom_lone s d i h (λ z. eqb-false c 40 p.no_open (sym a ∙ z))
      ∙ single_plain s i (λ z. eqb-false c 92 p.no_esc (sym a ∙ z)) (λ z. eqb-false c 64 p.no_mark (sym a ∙ z)) (λ z. eqb-false c 46 p.no_dot (sym a ∙ z)) (λ z. eqb-false c 91 p.no_set (sym a ∙ z)) (ap barred a ∙ p.unbarred)
      ∙ ap (λ x. ok (i + 1) (Byte x)) a
  spelled grammar.any d i r h e f t =
      let a : look s i ≡ 46 = look_at s i (46 ∷ r) e in
      atom_lone s d i h (λ z. let y : 46 ≡ 40 = sym a ∙ z in omega arith) ∙ single_dot s i a
  spelled (grammar.escaped {c = c} small) d i r h e f t =
      let a : look s i ≡ 92 = look_at s i (92 ∷ c ∷ r) e in
      let b : look s (i + 1) ≡ c = look_at s (i + 1) (c ∷ r) (follows s (92 ∷ []) (c ∷ r) i e) in
      atom_lone s d i h (λ z. let y : 92 ≡ 40 = sym a ∙ z in omega arith) ∙ single_escaped s i a (λ z. let y : c ≡ 256 = sym b ∙ z in omega arith) ∙ ap (λ x. ok (i + 2) (Byte x)) b
  spelled (grammar.tag {t = m} small) d i r h e f t =
      let a : look s i ≡ 64 = look_at s i (64 ∷ (m + 48) ∷ r) e in
      let b : look s (i + 1) ≡ m + 48 = look_at s (i + 1) ((m + 48) ∷ r) (follows s (64 ∷ []) ((m + 48) ∷ r) i e) in
      let c : look s (i + 1) - 48 ≡ m = omega arith in
      atom_lone s d i h (λ z. let y : 64 ≡ 40 = sym a ∙ z in omega arith) ∙ single_tag s i a (omega arith) (omega arith) ∙ ap (λ x. ok (i + 2) (Tag x)) c
  spelled (grammar.set {w = w} g) d i r h e f t =
      let a : look s i ≡ 91 = first g e in
      atom_lone s d i h (λ z. let y : 91 ≡ 40 = sym a ∙ z in omega arith) ∙ single_set s i a ∙ set_spelled g i r e
    where
      first : {w bits : List ℕ} → SetSpells w bits → drop i s ≡ w ++ r → look s i ≡ 91
      first (grammar.these g) e = look_at s i _ e
      first (grammar.others g) e = look_at s i _ e

-- A text is read to its end as what it spells, without a limit of open groups and with one.
pub read_spelled : (s : List ℕ) (p : Pat) (x : Spells alts s p) (d : ℕ) → Fit x d → read s alts d 0 ≡ ok (length s) p
read_spelled s p x d t = let n : 0 + length s ≡ length s = omega arith in spelled s x d 0 [] (omega arith) (sym (append-nil s)) refl t ∙ ap (λ k. ok k p) n

pub read_legal : (s : List ℕ) (p : Pat) → Spells alts s p → read s alts 17 0 ≡ ok (length s) p
read_legal s p x = read_spelled s p x 17 (fit_far x 17 (omega arith))

-- The tree is unique.
pub spells_one : (s : List ℕ) (p q : Pat) → Spells alts s p → Spells alts s q → p ≡ q
spells_one s p q x y = let e : ok (length s) p ≡ ok (length s) q = sym (read_legal s p x) ∙ read_legal s q y in cc

-- and so is the MASK of a set
pub set_one : {w a b : List ℕ} → SetSpells w a → SetSpells w b → a ≡ b
set_one {w} {a} {b} x y = let e : ok (0 + length w) (Set a) ≡ ok (0 + length w) (Set b) = sym (set_spelled w x 0 [] (sym (append-nil w))) ∙ set_spelled w y 0 [] (sym (append-nil w)) in cc
