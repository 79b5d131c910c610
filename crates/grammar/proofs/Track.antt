-- Of every reading: what it says of the text, by the grammar and the machine. Assumes nothing.
use Prim.Native.Nat.{ℕ, zero, suc, ◌+◌, ◌-◌, ◌≤◌, ◌<◌}
use mathlib.Core.Path.{◌≡◌, refl, sym, ap, subst, ◌∙◌}
use mathlib.Core.List.{List, [], ◌∷◌, ◌++◌}
use mathlib.Core.Bool.{Bool, true, false, ◌||◌}
use native.Mathlib.Omega.{arith}
use native.Mathlib.Nat.{not-suc-le-zero}
use lib.ListN.{length}
use lib.Dec.{eqb}
use borrow.Author.Tests.{eqb-true, eqb-false}
use Rattle.ground.specs.Pick.{look}
use Rattle.ground.specs.Lists.{Bytes}
use Rattle.ground.proofs.Tests.{true_false}
use Rattle.ground.proofs.Every.{byte_at}
use Rattle.pattern.specs.Pat.{Pat, Star, Plus, Opt}
use Rattle.pattern.specs.Reader.{Lvl, alts, seq, piece, atom, stops, repeating, alt_tail, seq_tail, opt?, plus?, repeated, closed, grouped, atom_or, step, left, read}
use Rattle.pattern.specs.Grammar as grammar
use Rattle.pattern.specs.Grammar.{Open}
use Rattle.pattern.proofs.Laws.{byte_in, byte_of, went, read_good, read_step}
use Rattle.grammar.proofs.Machine.{at, run, run_append}
use Rattle.grammar.proofs.Runs.{runs, repeat_to, fit_low, Low, low_then, Room}
use Rattle.grammar.proofs.Parts.{no_bytes, join, byte_then, then_byte}
use Rattle.grammar.proofs.Tracked.{Found, Track, track_then, shift, before, piece_ahead, bar_ahead, room_in, around}
use Rattle.grammar.proofs.Atoms.{single_track}

-- atoms and pieces are read where a sequence does not stop
abbrev pub Start : List ℕ → Lvl → ℕ → Type 0
Start s alts i = Unit {0}
Start s seq i = Unit {0}
Start s piece i = stops (look s i) ≡ false
Start s atom i = stops (look s i) ≡ false

free_not : {A : Type 0} {b : Bool} → b ≡ false → b ≡ true → A
free_not e g = absurd (true_false (sym g ∙ e))

-- how the machine goes over a word, and over one and its bar
module _ (s : List ℕ) (d i e : ℕ) (p : Pat) where
  abbrev over : (f : Found s piece d i e p) (k : ℕ) (b : Bool) → (b' : Bool) × (run (at k b) f.word ≡ at k b') × ((n : ℕ) → Room n d k → Low n (at k b) f.word)
  over f k b = let z = runs f.spells k b in (z.free, z.gets, λ n r. fit_low f.spells n d k b f.fit r)

  abbrev over_bar : (f : Found s seq d i e p) (k : ℕ) (b : Bool) → (b' : Bool) × (run (at k b) (f.word ++ 124 ∷ []) ≡ at k b') × ((n : ℕ) → Room n d k → Low n (at k b) (f.word ++ 124 ∷ []))
  over_bar f k b =
      let z = runs f.spells k b in (
        false,
        run_append (at k b) f.word (124 ∷ []) ∙ ap (λ x. run x (124 ∷ [])) z.gets,
        λ n r. low_then n (at k b) (at k z.free) f.word (124 ∷ []) z.gets (fit_low f.spells n d k b f.fit r) (omega (arith, r.few, r.sum), tt),
      )

module _ (s : List ℕ) (bs : Bytes s) (n : ℕ) (ih : (l : Lvl) (d i : ℕ) → i ≤ length s → left s l i < n → Start s l i → Track s l d i (read s l d i)) where
  -- alternatives
  bar_track : (d i e : ℕ) (p : Pat) (b : Bool) → left s alts i ≤ n → i ≤ e → eqb (look s e) 124 ≡ b → Found s seq d i e p → Track s alts d i (alt_tail b (read s alts d) e p)
  bar_track d i e p true m w t f =
      let l = byte_in s e 124 (omega arith) t in
      let c = eqb-true (look s e) 124 t in
      track_then s alts alts d d (e + 1) i (read s alts d (e + 1)) _
      (λ e' q x g. record {
        word = f.word ++ 124 ∷ g.word;
        spells = grammar.more_alts f.spells g.spells;
        part = join s i e e' f.word (124 ∷ g.word) f.part (byte_then s e e' 124 g.word (omega arith) c g.part);
        after = g.after;
        fit = (f.fit, g.fit);
      })
      (λ q g k b free.
      let z = over_bar s d i e p f k b in
      shift s d d i (e + 1) q (f.word ++ 124 ∷ []) (then_byte s i e 124 f.word (omega arith) f.part c) k k b z.0 z.1 (λ n r. (r, z.2 n r))
      (g k z.0 (λ x. absurd (true_false (sym x)))))
      (λ q g. before s d i (e + 1) q (f.word ++ 124 ∷ []) (bar_ahead f.spells) (over_bar s d i e p f) (then_byte s i e 124 f.word (omega arith) f.part c) g) (ih alts d (e + 1) (omega arith) (omega arith) tt)
  bar_track d i e p false m w t f = record {
    word = f.word;
    spells = grammar.last_alt f.spells;
    part = f.part;
    after = sym (ap (λ x. x || (eqb (look s e) 41 || eqb (look s e) 256)) t) ∙ f.after;
    fit = f.fit;
  }

  -- sequences
  seq_track : (d i : ℕ) (b : Bool) → i ≤ length s → left s seq i ≤ n → stops (look s i) ≡ b → Track s seq d i (seq_tail b (read s piece d) (read s seq d) i)
  seq_track d i true h m t = record { word = []; spells = grammar.no_more; part = no_bytes s i; after = t; fit = tt }
  seq_track d i false h m t =
      track_then s piece seq d d i i (read s piece d i) _
      (λ e p x f.
      let w = went s piece i e p (read s piece d i) (read_good s piece d i h) x in
      track_then s seq seq d d e i (read s seq d e) _
      (λ e' q y g. record { word = f.word ++ g.word; spells = grammar.more f.spells g.spells; part = join s i e e' f.word g.word f.part g.part; after = g.after; fit = (f.fit, g.fit) })
      (λ q g k b free.
      let z = over s d i e p f k b in
      shift s d d i e q f.word f.part k k b z.0 z.1 (λ n r. (r, z.2 n r)) (g k z.0 (f.after k b)))
      (λ q g. before s d i e q f.word (piece_ahead f.spells) (over s d i e p f) f.part g) (ih seq d e w.inside (omega arith) tt))
      (λ q g. g) (λ q g. g) (ih piece d i h (omega arith) t)

  -- repetition
  star_track : (d i e : ℕ) (p : Pat) → look s e ≡ 42 → Found s atom d i e p → Found s piece d i (e + 1) (Star p)
  unfolding runs repeat_to
  star_track d i e p h f = record { word = f.word ++ 42 ∷ []; spells = grammar.star f.spells; part = then_byte s i e 42 f.word (omega arith) f.part h; after = λ k b. free_not refl; fit = f.fit }

  plus_track : (d i e : ℕ) (p : Pat) → look s e ≡ 43 → Found s atom d i e p → Found s piece d i (e + 1) (Plus p)
  unfolding runs repeat_to
  plus_track d i e p h f = record { word = f.word ++ 43 ∷ []; spells = grammar.plus f.spells; part = then_byte s i e 43 f.word (omega arith) f.part h; after = λ k b. free_not refl; fit = f.fit }

  opt_track : (d i e : ℕ) (p : Pat) → look s e ≡ 63 → Found s atom d i e p → Found s piece d i (e + 1) (Opt p)
  unfolding runs repeat_to
  opt_track d i e p h f = record { word = f.word ++ 63 ∷ []; spells = grammar.opt f.spells; part = then_byte s i e 63 f.word (omega arith) f.part h; after = λ k b. free_not refl; fit = f.fit }

  repeat_track : (d i e c : ℕ) (p : Pat) (x y z : Bool) → look s e ≡ c → eqb c 42 ≡ x → eqb c 43 ≡ y → eqb c 63 ≡ z → Found s atom d i e p → Track s piece d i (repeated x c e p)
  repeat_track d i e c p true y z h a b g f = star_track d i e p (h ∙ eqb-true c 42 a) f
  repeat_track d i e c p false true z h a b g f = subst (λ (x : Bool). Track s piece d i (plus? x c e p)) (sym b) (plus_track d i e p (h ∙ eqb-true c 43 b) f)
  repeat_track d i e c p false false true h a b g f = subst (λ (x : Bool). Track s piece d i (plus? x c e p)) (sym b) (subst (λ (x : Bool). Track s piece d i (opt? x e p)) (sym g) (opt_track d i e p (h ∙ eqb-true c 63 g) f))
  repeat_track d i e c p false false false h a b g f =
      subst (λ (x : Bool). Track s piece d i (plus? x c e p)) (sym b) (subst (λ (x : Bool). Track s piece d i (opt? x e p)) (sym g)
      (record { word = f.word; spells = grammar.bare f.spells; part = f.part; after = λ k b' free. ap repeating h ∙ ap (λ x. x || (eqb c 43 || eqb c 63)) a ∙ ap (λ x. x || eqb c 63) b ∙ g; fit = f.fit }))

  -- atoms
  close_track : (d i e : ℕ) (p : Pat) (b : Bool) → (d ≡ 16 → ⊥) → look s i ≡ 40 → eqb (look s e) 41 ≡ b → Found s alts (d + 1) (i + 1) e p → Track s atom d i (closed b e p)
  close_track d i e p true under o t f = record {
    word = 40 ∷ (f.word ++ 41 ∷ []);
    spells = grammar.group f.spells;
    part = byte_then s i (e + 1) 40 (f.word ++ 41 ∷ []) (omega arith) o (then_byte s (i + 1) e 41 f.word (omega arith) f.part (eqb-true (look s e) 41 t));
    after = tt;
    fit = (under, f.fit);
  }
  close_track d i e p false under o t f = λ k b free.
      let z = runs f.spells (suc k) false in
      let ended : look s e ≡ 256 = eqb-true (look s e) 256 (sym (ap (λ x. x || eqb (look s e) 256) t) ∙ f.after) in
      record {
        word = 40 ∷ f.word;
        part = byte_then s i e 40 f.word (omega arith) o f.part;
        stood = at (suc k) z.free;
        gets = z.gets;
        alive = tt;
        stuck = λ g. let x = byte_at s e bs g in absurd (omega arith);
        short = λ q f. f;
        low = λ m r. let r' = room_in m d k under r in (omega (arith, r'.few, r'.sum), fit_low f.spells m (d + 1) (suc k) false f.fit r');
      }

  group_track : (d i : ℕ) (b : Bool) → eqb d 16 ≡ b → look s i ≡ 40 → left s atom i ≤ n → Track s atom d i (grouped b (read s alts) s d i)
  group_track d i true t o m = let e = eqb-true d 16 t in record { few = omega arith; word = []; part = no_bytes s i; opened = let z : 0 ≡ 16 - d = omega arith in subst (λ (k : ℕ). Open k []) z (_, grammar.last_alt grammar.no_more); brace = o; low = λ n k b r. tt }
  group_track d i false t o m =
      let l = byte_of s i 40 (omega arith) o in
      let under = eqb-false d 16 t in
      track_then s alts atom (d + 1) d (i + 1) i (read s alts (d + 1) (i + 1)) _
      (λ e p x f. close_track d i e p _ under o refl f)
      (λ q g k b free. shift s d (d + 1) i (i + 1) q (40 ∷ []) (byte_then s i (i + 1) 40 [] (omega arith) o (no_bytes s (i + 1))) k (suc k) b false refl
      (λ m r. let r' = room_in m d k under r in (r', (omega (arith, r'.few, r'.sum), tt))) (g (suc k) false (λ x. absurd (true_false (sym x)))))
      (λ q g. let j = g.few in around s d i q under (omega arith) o g) (ih alts (d + 1) (i + 1) (omega arith) (omega arith) tt)

  atom_track : (d i : ℕ) (b : Bool) → eqb (look s i) 40 ≡ b → stops (look s i) ≡ false → left s atom i ≤ n → Track s atom d i (atom_or b (read s alts) s d i)
  atom_track d i true t st m = group_track d i _ refl (eqb-true (look s i) 40 t) m
  atom_track d i false t st m = single_track s bs i d st t

  step_track : (l : Lvl) (d i : ℕ) → i ≤ length s → left s l i ≤ n → Start s l i → Track s l d i (step (read s) s l d i)
  step_track alts d i h m st =
      track_then s seq alts d d i i (read s seq d i) _
      (λ e p x f. let w = went s seq i e p (read s seq d i) (read_good s seq d i h) x in bar_track d i e p _ m (omega (arith, w.on)) refl f)
      (λ q g. g) (λ q g. g) (ih seq d i h (omega arith) tt)
  step_track seq d i h m st = seq_track d i _ h m refl
  step_track piece d i h m st =
      track_then s atom piece d d i i (read s atom d i) _
      (λ e p x f. repeat_track d i e (look s e) p _ _ _ refl refl refl refl f)
      (λ q g. g) (λ q g. g) (ih atom d i h (omega arith) st)
  step_track atom d i h m st = atom_track d i _ refl st m

tracked : (n : ℕ) (s : List ℕ) → Bytes s → (l : Lvl) (d i : ℕ) → i ≤ length s → left s l i < n → Start s l i → Track s l d i (read s l d i)
tracked zero s bs l d i h m st = absurd (not-suc-le-zero m)
tracked (suc n) s bs l d i h m st = subst (Track s l d i) (sym (read_step s l d i h)) (step_track s bs n (tracked n s bs) l d i h (omega arith) st)

-- Of every reading of the whole text.
pub track : (s : List ℕ) → Bytes s → (d : ℕ) → Track s alts d 0 (read s alts d 0)
track s bs d = tracked (suc (left s alts 0)) s bs alts d 0 (omega arith) (omega arith) tt
