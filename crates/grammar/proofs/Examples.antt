-- Some texts of document 01 and of its open points: the places of FORM and DEEP in the grammar's words, by computing the reader. Assumes nothing.
use Prim.Native.Nat.{ℕ}
use mathlib.Core.Path.{◌≡◌, refl}
use mathlib.Core.Bool.{true}
use mathlib.Core.List.{List, [], ◌∷◌, ◌++◌}
use lib.ListN.{replicate}
use Rattle.ground.specs.Pick.{pick}
use Rattle.pattern.specs.Sets.{set_on, gained, scan}
use Rattle.pattern.specs.Reader.{form, deep, alts, single, set_at, read_in, read}
use Rattle.pattern.specs.Grammar.{FormAt, DeepAt}
use Rattle.ground.proofs.Every.{small, bytes_of}
use Rattle.grammar.proofs.Place.{form_place, deep_place}

form_in : (s : List ℕ) (q : ℕ) → small s ≡ true → read s alts 0 0 ≡ form q → FormAt s q
form_in s q b e = form_place s (bytes_of s b) 0 q e

deep_in : (s : List ℕ) (q : ℕ) → small s ≡ true → read s alts 0 0 ≡ deep q → DeepAt s q
deep_in s q b e = deep_place s (bytes_of s b) q e

-- FORM's place in `a**`, `@8`, `[z-a]`, `[z-\a]`, `[[:alx`, and in `(`, which all bytes could begin
forms : FormAt (97 ∷ 42 ∷ 42 ∷ []) 2 × FormAt (64 ∷ 56 ∷ []) 1 × FormAt (91 ∷ 122 ∷ 45 ∷ 97 ∷ 93 ∷ []) 3 × FormAt (91 ∷ 122 ∷ 45 ∷ 92 ∷ 97 ∷ 93 ∷ []) 4 × FormAt (91 ∷ 91 ∷ 58 ∷ 97 ∷ 108 ∷ 120 ∷ []) 5 × FormAt (40 ∷ []) 1
unfolding read read_in single set_at scan set_on gained pick
forms = (form_in _ 2 refl refl, form_in _ 1 refl refl, form_in _ 3 refl refl, form_in _ 4 refl refl, form_in _ 5 refl refl, form_in _ 1 refl refl)

-- 17 open groups are too deep at 16; after sixteen a `*` is no pattern
seventeen : DeepAt (replicate 17 40) 16 × FormAt (replicate 16 40 ++ 42 ∷ []) 16
unfolding read read_in single
seventeen = (deep_in _ 16 refl refl, form_in _ 16 refl refl)
