-- Document 01: "A reading that holds its record and eight places answers for any two tags, a tag above 7 counting as absent".
-- Assumes nothing: these are definitions.
use Rattle.std.specs.Prelude.{ℕ, List, ℤ, length, get_or}
use Rattle.ground.specs.Place.{place_of, absent}
use Rattle.field.specs.Field.{Cut, cut_of}

-- the position of tag t among the eight; past them, absent
unfoldable pub position_of : List ℤ → ℕ → ℤ
position_of places t = get_or places t absent

-- what tags a and b cut out of the line
unfoldable pub cut_by : List ℕ → List ℤ → ℕ → ℕ → Cut
cut_by line places a b = cut_of (length line) (place_of (position_of places a)) (place_of (position_of places b))
