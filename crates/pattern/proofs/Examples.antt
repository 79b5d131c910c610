-- Some patterns of document 01 and of its open points, computed. Assumes nothing.
use Prim.Native.Nat.{ℕ}
use mathlib.Core.Path.{◌≡◌, refl}
use mathlib.Core.List.{List, [], ◌∷◌, ◌++◌}
use lib.ListN.{replicate}
use Rattle.ground.specs.Pick.{pick}
use Rattle.pattern.specs.Pat.{automaton}
use Rattle.pattern.specs.Pat.Pat.{Empty, Byte, Set, Tag, Seq, Alt, Star, Opt}
use Rattle.pattern.specs.Sets.{span, class, fresh, listing, allows, octet, octets, mask_of, set_on, gained, scan}
use Rattle.pattern.specs.Reader.{Res, ok, form, deep, alts, single, set_at, read_in, read}
use Rattle.net.specs.Rec.{range, fork, tag, end}
use Rattle.answers.specs.Answers.{PATTERN_LONG, PATTERN_DEEP, PATTERN_BIG, OUT_SMALL}
use Rattle.pattern.specs.Maker.{file, maker}

-- what each text is read as
abbrev each : List (List ℕ) → List Res
each [] = []
each (s ∷ ss) = read s alts 0 0 ∷ each ss

-- `a*@0b*`, `a|b|c`, `(|)?`
trees : each ((97 ∷ 42 ∷ 64 ∷ 48 ∷ 98 ∷ 42 ∷ []) ∷ (97 ∷ 124 ∷ 98 ∷ 124 ∷ 99 ∷ []) ∷ (40 ∷ 124 ∷ 41 ∷ 63 ∷ []) ∷ [])
    ≡ ok 6 (Seq (Star (Byte 97)) (Seq (Tag 0) (Seq (Star (Byte 98)) Empty)))
    ∷ ok 5 (Alt (Seq (Byte 97) Empty) (Alt (Seq (Byte 98) Empty) (Seq (Byte 99) Empty)))
    ∷ ok 4 (Seq (Opt (Alt Empty Empty)) Empty)
    ∷ []
unfolding read read_in single set_at scan set_on gained pick
trees = refl

-- `a*@0b*` as records
records : automaton (Seq (Star (Byte 97)) (Seq (Tag 0) (Seq (Star (Byte 98)) Empty))) ≡ fork 1 2 ∷ range 97 97 0 ∷ tag 0 3 ∷ fork 4 5 ∷ range 98 98 3 ∷ end 0 ∷ []
records = refl

-- `[^\]-a[:digit:]x]` lists three items
items : scan (92 ∷ 93 ∷ 45 ∷ 97 ∷ 91 ∷ 58 ∷ 100 ∷ 105 ∷ 103 ∷ 105 ∷ 116 ∷ 58 ∷ 93 ∷ 120 ∷ 93 ∷ []) 2 fresh []
    ≡ listing 17 (span 93 97 ∷ class 4 ∷ span 120 120 ∷ [])
unfolding scan set_on gained pick
items = refl

-- `[^b-\}]`: bits 98 to 125 are not set, all others are
others : read (91 ∷ 94 ∷ 98 ∷ 45 ∷ 92 ∷ 125 ∷ 93 ∷ []) alts 0 0 ≡ ok 7 (Seq (Set (replicate 12 255 ++ 3 ∷ 0 ∷ 0 ∷ 192 ∷ replicate 16 255)) Empty)
unfolding read read_in single set_at scan set_on gained pick mask_of allows octets octet
others = refl

-- `a**` 2, `@8` 1, `[z-a]` 3, `[z-\a]` 4, `[[:alpha]` 8, `[[:alx` 5, `[[::]]` 3, `[\]` 3, `]` 0, `\` 1, `@` 1, `(` 1, `(|)+?` 4, `[` 1, `[^` 2, `[^]` 2, `[a-]` 3, `[a^]` 2, `[a-b-c]` 4, `[a-[:alpha:]]` 3
faults : each
    ((97 ∷ 42 ∷ 42 ∷ [])
    ∷ (64 ∷ 56 ∷ [])
    ∷ (91 ∷ 122 ∷ 45 ∷ 97 ∷ 93 ∷ [])
    ∷ (91 ∷ 122 ∷ 45 ∷ 92 ∷ 97 ∷ 93 ∷ [])
    ∷ (91 ∷ 91 ∷ 58 ∷ 97 ∷ 108 ∷ 112 ∷ 104 ∷ 97 ∷ 93 ∷ [])
    ∷ (91 ∷ 91 ∷ 58 ∷ 97 ∷ 108 ∷ 120 ∷ [])
    ∷ (91 ∷ 91 ∷ 58 ∷ 58 ∷ 93 ∷ 93 ∷ [])
    ∷ (91 ∷ 92 ∷ 93 ∷ [])
    ∷ (93 ∷ [])
    ∷ (92 ∷ [])
    ∷ (64 ∷ [])
    ∷ (40 ∷ [])
    ∷ (40 ∷ 124 ∷ 41 ∷ 43 ∷ 63 ∷ [])
    ∷ (91 ∷ [])
    ∷ (91 ∷ 94 ∷ [])
    ∷ (91 ∷ 94 ∷ 93 ∷ [])
    ∷ (91 ∷ 97 ∷ 45 ∷ 93 ∷ [])
    ∷ (91 ∷ 97 ∷ 94 ∷ 93 ∷ [])
    ∷ (91 ∷ 97 ∷ 45 ∷ 98 ∷ 45 ∷ 99 ∷ 93 ∷ [])
    ∷ (91 ∷ 97 ∷ 45 ∷ 91 ∷ 58 ∷ [])
    ∷ [])
    ≡ form 2 ∷ form 1 ∷ form 3 ∷ form 4 ∷ form 8 ∷ form 5 ∷ form 3 ∷ form 3 ∷ form 0 ∷ form 1 ∷ form 1 ∷ form 1 ∷ form 4 ∷ form 1 ∷ form 2 ∷ form 2 ∷ form 3 ∷ form 2 ∷ form 4 ∷ form 3 ∷ []
unfolding read read_in single set_at scan set_on gained pick
faults = refl

-- 17 open groups; 16 and a `*`
depths : each (replicate 17 40 ∷ (replicate 16 40 ++ 42 ∷ []) ∷ []) ≡ deep 16 ∷ form 16 ∷ []
unfolding read read_in single
depths = refl

-- "63 times `a` makes 64 records, 64 times PATTERN_BIG", in no room at all; 17 open groups; 256 bytes
answers : ((maker (replicate 63 97) []).answer.code ≡ OUT_SMALL) × ((maker (replicate 64 97) []).answer.code ≡ PATTERN_BIG) × ((maker (replicate 17 40) []).answer.code ≡ PATTERN_DEEP) × ((maker (replicate 256 97) []).answer.code ≡ PATTERN_LONG)
unfolding maker file read read_in single pick
answers = (refl, refl, refl, refl)

-- `a*@0b*` as a file
filed : file (Seq (Star (Byte 97)) (Seq (Tag 0) (Seq (Star (Byte 98)) Empty)))
    ≡ 16 ∷ 1 ∷ 1 ∷ 6 ∷ 19 ∷ 1 ∷ 2 ∷ 17 ∷ 97 ∷ 97 ∷ 0 ∷ 20 ∷ 0 ∷ 3 ∷ 19 ∷ 4 ∷ 5 ∷ 17 ∷ 98 ∷ 98 ∷ 3 ∷ 21 ∷ 0 ∷ []
unfolding file
filed = refl
