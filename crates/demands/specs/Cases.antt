-- Document 01, "Checked examples": the cases P, from pattern text to answer and places, as one list. Assumes nothing: these are definitions.
use Rattle.std.specs.Prelude.{List, [], ◌∷◌, ℕ, eqb, ℤ, pos, length}
use Rattle.std.proofs.Math.Option.{Option, none, some}
use Rattle.ground.specs.Pick.{pick}
use Rattle.paths.specs.Ways.{Held}
use Rattle.paths.specs.Situation.{answer}
use Rattle.card.specs.Run.{Told, absent, refused}
use Rattle.built.specs.Tells.{found}
use Rattle.pattern.specs.Pat.{automaton}
use Rattle.pattern.specs.Reader.{Res, ok, form, deep, alts, read}

pub record Case : Type 0 where
  pub text : List ℕ
  pub line : List ℕ
  pub want : Told

-- OK with END 0, t0 and t1; the other tags are absent
abbrev pub gives : ℤ → ℤ → Told
gives t0 t1 = record { code = 0; answer = 0; places = t0 ∷ t1 ∷ absent ∷ absent ∷ absent ∷ absent ∷ absent ∷ absent ∷ [] }

abbrev pub no_match : Told
no_match = refused 16

abbrev pub on : List ℕ → List ℕ → Told → Case
on text line want = record { text = text; line = line; want = want }

-- `a*@0b*`
abbrev stars : List ℕ
stars = 97 ∷ 42 ∷ 64 ∷ 48 ∷ 98 ∷ 42 ∷ []

-- `(a|b)*@0b(a|b)*`
abbrev round : List ℕ
round = 40 ∷ 97 ∷ 124 ∷ 98 ∷ 41 ∷ 42 ∷ 64 ∷ 48 ∷ 98 ∷ 40 ∷ 97 ∷ 124 ∷ 98 ∷ 41 ∷ 42 ∷ []

-- `a*@0a*a`
abbrev twice : List ℕ
twice = 97 ∷ 42 ∷ 64 ∷ 48 ∷ 97 ∷ 42 ∷ 97 ∷ []

-- `(@0a*@1)*`
abbrev marked_round : List ℕ
marked_round = 40 ∷ 64 ∷ 48 ∷ 97 ∷ 42 ∷ 64 ∷ 49 ∷ 41 ∷ 42 ∷ []

-- `(@0a@1|b)*`
abbrev marked_choice : List ℕ
marked_choice = 40 ∷ 64 ∷ 48 ∷ 97 ∷ 64 ∷ 49 ∷ 124 ∷ 98 ∷ 41 ∷ 42 ∷ []

-- `(a|ab)@0(b|)`
abbrev shorter : List ℕ
shorter = 40 ∷ 97 ∷ 124 ∷ 97 ∷ 98 ∷ 41 ∷ 64 ∷ 48 ∷ 40 ∷ 98 ∷ 124 ∷ 41 ∷ []

-- `a?@0a?`
abbrev perhaps : List ℕ
perhaps = 97 ∷ 63 ∷ 64 ∷ 48 ∷ 97 ∷ 63 ∷ []

-- the empty pattern
abbrev nothing : List ℕ
nothing = []

-- "P, pattern and record, then t0 (t1)"
abbrev pub cases : List Case
cases =
    on stars (97 ∷ 97 ∷ 98 ∷ []) (gives (pos 2) absent)
    ∷ on stars ([]) (gives (pos 0) absent)
    ∷ on stars (98 ∷ 97 ∷ []) no_match
    ∷ on round (97 ∷ 98 ∷ 98 ∷ 97 ∷ []) (gives (pos 2) absent)
    ∷ on twice (97 ∷ 97 ∷ 97 ∷ []) (gives (pos 2) absent)
    ∷ on marked_round ([]) (gives absent absent)
    ∷ on marked_round (97 ∷ 97 ∷ []) (gives (pos 0) (pos 2))
    ∷ on marked_choice (97 ∷ 98 ∷ []) (gives (pos 0) (pos 1))
    ∷ on shorter (97 ∷ 98 ∷ []) (gives (pos 1) absent)
    ∷ on perhaps (97 ∷ []) (gives (pos 1) absent)
    ∷ on nothing ([]) (gives absent absent)
    ∷ on nothing (120 ∷ []) no_match
    ∷ []

-- what the first path gives
abbrev pub told_of : Option (ℕ × Held) → Told
told_of none = refused 16
told_of (some r) = found r.0 r.1.tags

-- from a text that was read to what is told of a line; a text that is not read to its end tells nothing
abbrev pub read_as : Res → List ℕ → List ℕ → Told
read_as (ok e p) text line = pick (eqb e (length text)) (told_of (answer (automaton p) line)) (refused 2)
read_as (form q) text line = refused 2
read_as (deep q) text line = refused 3

abbrev pub outcome : Case → Told
outcome c = read_as (read c.text alts 0 0) c.text c.line
