-- The text of a set, byte by byte: where it stands after some bytes, and what they list. `scan` is this walk. Assumes nothing.
use Prim.Native.Nat.{ℕ, suc, ◌+◌}
use mathlib.Core.Path.{◌≡◌, refl, sym, ap, subst, ◌∙◌}
use mathlib.Core.List.{List, [], ◌∷◌, ◌++◌, append_assoc, append-nil}
use native.Mathlib.Omega.{arith}
use lib.ListN.{length}
use Rattle.pattern.specs.Sets.{Item, Step, fresh, ready, held, quote, dash, dash_quote, name, shut, bad, set_on, gained, Scanned, listing, wrong, onward, scan}

abbrev pub set_run : Step → List ℕ → Step
set_run st [] = st
set_run st (c ∷ w) = set_run (set_on st c) w

abbrev pub got : Step → List ℕ → List Item
got st [] = []
got st (c ∷ w) = gained st c ++ got (set_on st c) w

pub set_run_append : (st : Step) (v w : List ℕ) → set_run st (v ++ w) ≡ set_run (set_run st v) w
set_run_append st [] w = refl
set_run_append st (c ∷ v) w = set_run_append (set_on st c) v w

pub got_append : (st : Step) (v w : List ℕ) → got st (v ++ w) ≡ got st v ++ got (set_run st v) w
got_append st [] w = refl
got_append st (c ∷ v) w = ap (λ l. gained st c ++ l) (got_append (set_on st c) v w) ∙ sym (append_assoc (gained st c) (got (set_on st c) v) (got (set_run (set_on st c) v) w))

-- the set goes on from here
abbrev pub Going : Step → Type 0
Going fresh = Unit {0}
Going ready = Unit {0}
Going (held c) = Unit {0}
Going quote = Unit {0}
Going (dash c) = Unit {0}
Going (dash_quote c) = Unit {0}
Going (name w) = Unit {0}
Going shut = ⊥
Going bad = ⊥

pub run_bad : (v : List ℕ) → set_run bad v ≡ bad
unfolding set_on
run_bad [] = refl
run_bad (c ∷ v) = run_bad v

-- nothing goes on after the end of a set
pub run_shut : (v : List ℕ) → Going (set_run shut v) → ⊥
unfolding set_on
run_shut [] g = g
run_shut (c ∷ v) g = subst Going (run_bad v) g

-- where the walk goes on in the end it does at first
pub going_first : (st : Step) (v : List ℕ) → Going (set_run st v) → Going st
going_first fresh v g = tt
going_first ready v g = tt
going_first (held c) v g = tt
going_first quote v g = tt
going_first (dash c) v g = tt
going_first (dash_quote c) v g = tt
going_first (name w) v g = tt
going_first shut v g = run_shut v g
going_first bad v g = subst Going (run_bad v) g

onward_going : (st : Step) (f : ℕ → Step → List Item → Scanned) (i : ℕ) (xs : List Item) → Going st → onward st f i xs ≡ f (i + 1) st xs
onward_going fresh f i xs g = refl
onward_going ready f i xs g = refl
onward_going (held c) f i xs g = refl
onward_going quote f i xs g = refl
onward_going (dash c) f i xs g = refl
onward_going (dash_quote c) f i xs g = refl
onward_going (name w) f i xs g = refl
onward_going shut f i xs g = absurd g
onward_going bad f i xs g = absurd g

-- where the walk goes on over v, so does `scan`
pub scan_along : (v r : List ℕ) (i : ℕ) (st : Step) (xs : List Item) → Going (set_run st v) → scan (v ++ r) i st xs ≡ scan r (i + length v) (set_run st v) (xs ++ got st v)
unfolding scan
scan_along [] r i st xs g = ap (λ k. scan r k st xs) (omega arith) ∙ ap (scan r (i + 0) st) (sym (append-nil xs))
scan_along (c ∷ v) r i st xs g =
    onward_going (set_on st c) (scan (v ++ r)) i (xs ++ gained st c) (going_first (set_on st c) v g)
    ∙ scan_along v r (i + 1) (set_on st c) (xs ++ gained st c) g
    ∙ ap (λ k. scan r k (set_run (set_on st c) v) ((xs ++ gained st c) ++ got (set_on st c) v)) (omega arith)
    ∙ ap (scan r (i + suc (length v)) (set_run (set_on st c) v)) (append_assoc xs (gained st c) (got (set_on st c) v))

-- and where it shuts the set
pub scan_shut : (v r : List ℕ) (c i : ℕ) (st : Step) (xs : List Item) → Going (set_run st v) → set_on (set_run st v) c ≡ shut → scan (v ++ c ∷ r) i st xs ≡ listing (i + length v + 1) (xs ++ got st (v ++ c ∷ []))
unfolding scan
scan_shut v r c i st xs g e =
    scan_along v (c ∷ r) i st xs g
    ∙ ap (λ z. onward z (scan r) (i + length v) ((xs ++ got st v) ++ gained (set_run st v) c)) e
    ∙ ap (listing (i + length v + 1)) (append_assoc xs (got st v) (gained (set_run st v) c) ∙ ap (λ l. xs ++ l) (ap (λ l. got st v ++ l) (sym (append-nil (gained (set_run st v) c))) ∙ sym (got_append st v (c ∷ []))))

-- What `scan` finds, as this walk.
pub record Heard (w : List ℕ) (i : ℕ) (st : Step) (xs : List Item) (e : ℕ) (ys : List Item) : Type 0 where
  pub word : List ℕ
  pub last : ℕ
  pub rest : List ℕ
  pub parts : w ≡ word ++ last ∷ rest
  pub going : Going (set_run st word)
  pub shuts : set_on (set_run st word) last ≡ shut
  pub ends : e ≡ i + length word + 1
  pub all : ys ≡ xs ++ got st (word ++ last ∷ [])

abbrev pub Stuck : Step → List ℕ → Type 0
Stuck st [] = Unit {0}
Stuck st (c ∷ r) = set_on st c ≡ bad

pub record Broke (w : List ℕ) (i : ℕ) (st : Step) (q : ℕ) : Type 0 where
  pub word : List ℕ
  pub rest : List ℕ
  pub parts : w ≡ word ++ rest
  pub going : Going (set_run st word)
  pub stuck : Stuck (set_run st word) rest
  pub place : q ≡ i + length word

abbrev pub Follow : List ℕ → ℕ → Step → List Item → Scanned → Type 0
Follow w i st xs (listing e ys) = Heard w i st xs e ys
Follow w i st xs (wrong q) = Broke w i st q

later : (c : ℕ) (w : List ℕ) (i : ℕ) (st : Step) (xs : List Item) (r : Scanned) → Follow w (i + 1) (set_on st c) (xs ++ gained st c) r → Follow (c ∷ w) i st xs r
later c w i st xs (listing e ys) h = record {
  word = c ∷ h.word;
  last = h.last;
  rest = h.rest;
  parts = ap (λ l. c ∷ l) h.parts;
  going = h.going;
  shuts = h.shuts;
  ends = let x = h.ends in omega arith;
  all = h.all ∙ append_assoc xs (gained st c) (got (set_on st c) (h.word ++ h.last ∷ []));
}
later c w i st xs (wrong q) h = record {
  word = c ∷ h.word;
  rest = h.rest;
  parts = ap (λ l. c ∷ l) h.parts;
  going = h.going;
  stuck = h.stuck;
  place = let x = h.place in omega arith;
}

first_step : (c : ℕ) (w : List ℕ) (i : ℕ) (st : Step) (xs : List Item) → Going st → ((j : ℕ) (st' : Step) (zs : List Item) → Going st' → Follow w j st' zs (scan w j st' zs)) → (st' : Step) → set_on st c ≡ st' → Follow (c ∷ w) i st xs (onward st' (scan w) i (xs ++ gained st c))
first_step c w i st xs g ih st' e = by st' e
  where
    on : (z : Step) → set_on st c ≡ z → Going z → Follow (c ∷ w) i st xs (scan w (i + 1) z (xs ++ gained st c))
    on z h y = later c w i st xs (scan w (i + 1) z (xs ++ gained st c)) (subst (λ (u : Step). Follow w (i + 1) u (xs ++ gained st c) (scan w (i + 1) z (xs ++ gained st c))) (sym h) (ih (i + 1) z (xs ++ gained st c) y))

    by : (z : Step) → set_on st c ≡ z → Follow (c ∷ w) i st xs (onward z (scan w) i (xs ++ gained st c))
    by shut h = record { word = []; last = c; rest = w; parts = refl; going = g; shuts = h; ends = omega arith; all = ap (λ l. xs ++ l) (sym (append-nil (gained st c))) }
    by bad h = record { word = []; rest = c ∷ w; parts = refl; going = g; stuck = h; place = omega arith }
    by fresh h = on fresh h tt
    by ready h = on ready h tt
    by (held a) h = on (held a) h tt
    by quote h = on quote h tt
    by (dash a) h = on (dash a) h tt
    by (dash_quote a) h = on (dash_quote a) h tt
    by (name v) h = on (name v) h tt

pub follow : (w : List ℕ) (i : ℕ) (st : Step) (xs : List Item) → Going st → Follow w i st xs (scan w i st xs)
unfolding scan
follow [] i st xs g = record { word = []; rest = []; parts = refl; going = g; stuck = tt; place = omega arith }
follow (c ∷ w) i st xs g = first_step c w i st xs g (follow w) (set_on st c) refl
