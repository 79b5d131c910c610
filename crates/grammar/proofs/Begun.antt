-- What the machine says of a whole text: where it ends the text is legal, where it goes on some legal pattern begins. Assumes nothing.
use Prim.Native.Nat.{ℕ, zero, suc, ◌≤◌, ◌<◌}
use mathlib.Core.Path.{◌≡◌, refl, sym, ap, subst, ◌∙◌}
use mathlib.Core.List.{List, ◌∷◌, ◌++◌, append_assoc, append-nil}
use mathlib.Core.Bool.{Bool, true, false}
use native.Mathlib.Omega.{arith}
use native.Mathlib.Decide.{dec_lt}
use lib.ListN.{length, take, drop, replicate, drop_of_length-le, take-append-drop}
use lib.Seq.{drop-cons, take-take}
use lib.Dec.{eqb}
use borrow.Author.Tests.{eqb-true, ne_eqb}
use Rattle.ground.specs.Pick.{pick, look}
use Rattle.ground.specs.Lists.{Bytes}
use Rattle.ground.proofs.Tests.{true_false, or_left}
use Rattle.ground.proofs.Every.{byte_at, bytes_both}
use Rattle.pattern.specs.Pat.{Pat}
use Rattle.pattern.specs.Sets.{set_on}
use Rattle.pattern.specs.Reader.{Res, ok, form, deep, alts, read}
use Rattle.pattern.specs.Grammar.{Spells, Legal, Begins}
use Rattle.pattern.proofs.Laws.{Good, read_good}
use Rattle.grammar.proofs.SetHeard.{completed}
use Rattle.grammar.proofs.Machine.{St, at, esc, mark, box, inset, dead, into, on, run, run_append, run_dead, inset_run}
use Rattle.grammar.proofs.Runs.{runs}
use Rattle.grammar.proofs.Parts.{Part}
use Rattle.grammar.proofs.Tracked.{Alive, Final, Fail, Found, Track}
use Rattle.grammar.proofs.Track.{track}

pub dead_at : {k : ℕ} {b : Bool} → dead ≡ at k b → ⊥
dead_at e = subst Alive (sym e) tt

abbrev pub start : St
start = at 0 false

-- where the machine stops within the text, the whole text leads nowhere
pub stops_dead : (t : List ℕ) (q : ℕ) (v : List ℕ) (x : St) → Part t 0 q v → run start v ≡ x → q < length t → on x (look t q) ≡ dead → run start t ≡ dead
stops_dead t q v x p g h d =
    ap (run start) p.parts ∙ run_append start v (drop q t) ∙ ap (λ y. run y (drop q t)) g ∙ ap (run x) (drop-cons t q 256 h) ∙ ap (λ y. run y (drop (suc q) t)) d ∙ run_dead (drop (suc q) t)

-- where it is at the end, the whole text leads there
pub stops_end : (t : List ℕ) (q : ℕ) (v : List ℕ) (x : St) → Part t 0 q v → run start v ≡ x → length t ≤ q → run start t ≡ x
stops_end t q v x p g h = ap (run start) (p.parts ∙ ap (λ l. v ++ l) (drop_of_length-le t h) ∙ append-nil v) ∙ g

-- a failure shows that the text leads to no end of a pattern
pub no_end : (t : List ℕ) (d q : ℕ) → q ≤ length t → Fail t d 0 q 0 false → (b : Bool) → run start t ≡ at 0 b → ⊥
no_end t d q h f b e = go (dec_lt q (length t))
  where
    go : Dec (q < length t) → ⊥
    go (yes l) = dead_at (sym (stops_dead t q f.word f.stood f.part f.gets l (f.stuck l)) ∙ e)
    go (no l) = f.short (omega arith) (subst Final (sym e ∙ stops_end t q f.word f.stood f.part f.gets (omega arith)) tt)

-- a reading that ends within the text ends before a group's end
pub close_only : (t : List ℕ) → Bytes t → (d e : ℕ) (p : Pat) → Found t alts d 0 e p → e < length t → look t e ≡ 41
close_only t bs d e p f l = eqb-true (look t e) 41 (or_left (eqb (look t e) 41) (eqb (look t e) 256) f.after (ne_eqb (look t e) 256 (λ x. let y = byte_at t e bs l in omega arith)))

-- one that ends with the text spells it
pub whole_word : (t : List ℕ) (d e : ℕ) (p : Pat) → (f : Found t alts d 0 e p) → length t ≤ e → t ≡ f.word
whole_word t d e p f l = f.part.parts ∙ ap (λ l. f.word ++ l) (drop_of_length-le t {i = e} l) ∙ append-nil f.word

-- What leads the machine to an end is a legal pattern.
pub legal_of : (t : List ℕ) → Bytes t → (b : Bool) → run start t ≡ at 0 b → Legal t
legal_of t bs b e = go (read t alts 17 0) (track t bs 17) (read_good t alts 17 0 (omega arith))
  where
    at_end : (e' : ℕ) (p : Pat) → Found t alts 17 0 e' p → Dec (e' < length t) → Legal t
    at_end e' p f (yes l) =
        let z = runs f.spells 0 false in
        absurd (dead_at (sym (stops_dead t e' f.word (at 0 z.free) f.part z.gets l (ap (on (at 0 z.free)) (close_only t bs 17 e' p f l))) ∙ e))
    at_end e' p f (no l) = (p, subst (λ (w : List ℕ). Spells alts w p) (sym (whole_word t 17 e' p f (omega arith))) f.spells)

    not_seventeen : 17 ≤ 16 → ⊥
    not_seventeen h = omega arith

    go : (r : Res) → Track t alts 17 0 r → Good t alts 0 r → Legal t
    go (ok e' p) f g = at_end e' p f (dec_lt e' (length t))
    go (form q) f g = absurd (no_end t 17 q g.1 (f 0 false (λ x. absurd (true_false (sym x)))) b e)
    go (deep q) f g = absurd (not_seventeen f.few)

-- Every state in which a pattern goes on has an end.
pub record Ended (x : St) : Type 0 where
  pub rest : List ℕ
  pub bytes : Bytes rest
  pub free : Bool
  pub gets : run x rest ≡ at 0 free

bytes_replicate : (k : ℕ) → Bytes (replicate k 41)
bytes_replicate zero = tt
bytes_replicate (suc k) = (omega arith, bytes_replicate k)

close_all : (k : ℕ) (b : Bool) → (f : Bool) × (run (at k b) (replicate k 41) ≡ at 0 f)
close_all zero b = (b, refl)
close_all (suc k) b = close_all k true

pub ended : (x : St) → Alive x → Ended x
unfolding set_on pick
ended (at k b) a = let z = close_all k b in record { rest = replicate k 41; bytes = bytes_replicate k; free = z.0; gets = z.1 }
ended (esc k) a = let z = close_all k true in record { rest = 97 ∷ replicate k 41; bytes = (omega arith, bytes_replicate k); free = z.0; gets = z.1 }
ended (mark k) a = let z = close_all k true in record { rest = 48 ∷ replicate k 41; bytes = (omega arith, bytes_replicate k); free = z.0; gets = z.1 }
ended (box k) a = let z = close_all k true in record { rest = 97 ∷ 93 ∷ replicate k 41; bytes = (omega arith, (omega arith, bytes_replicate k)); free = z.0; gets = z.1 }
ended (inset k st) a =
    let z = close_all k true in
    let c = completed st a.0 a.1 a.2 a.3 in
    record {
      rest = c.word ++ 93 ∷ replicate k 41;
      bytes = bytes_both c.word (93 ∷ replicate k 41) c.bytes (omega arith, bytes_replicate k);
      free = z.0;
      gets = run_append (inset k st) c.word (93 ∷ replicate k 41) ∙ ap (λ x. run x (93 ∷ replicate k 41)) (inset_run k c.word st c.going) ∙ ap (λ x. run (into k x) (replicate k 41)) c.shuts ∙ z.1;
    }
ended dead a = absurd a

-- where the machine is alive, some legal pattern begins
pub begins_of : (w : List ℕ) → Bytes w → (x : St) → run start w ≡ x → Alive x → Begins w
begins_of w bs x g a =
    let z = ended x a in
    (z.rest, legal_of (w ++ z.rest) (bytes_both w z.rest bs z.bytes) z.free (run_append start w z.rest ∙ ap (λ y. run y z.rest) g ∙ z.gets))

-- where it is dead, none does
pub dead_begins : (w : List ℕ) → run start w ≡ dead → Begins w → ⊥
dead_begins w d b = let z = runs b.1.1 0 false in dead_at (sym (run_append start w b.0 ∙ ap (λ y. run y b.0) d ∙ run_dead b.0) ∙ z.gets)

-- a front of what begins a pattern begins one
pub shorter : (s : List ℕ) (q k : ℕ) → k ≤ q → Begins (take q s) → Begins (take k s)
shorter s q k h b = (drop k (take q s) ++ b.0, subst Legal (ap (λ l. l ++ b.0) (sym (take-append-drop k (take q s)) ∙ ap (λ l. l ++ drop k (take q s)) (take-take k q s h)) ∙ append_assoc (take k s) (drop k (take q s)) b.0) b.1)
