-- The places of a table's situations, kept in an array. Assumes nothing: these are definitions.
use Rattle.std.specs.Prelude.{List, ◌++◌, ℕ, min, length, get_or, drop}
use Rattle.card.specs.Decode.{after_at, places_from}

-- the array with the places of as many situations at its front as the HEAD counts and the array has room for
unfoldable pub noted : List ℕ → List ℕ → List ℕ
noted old s = places_from (min (length old) (get_or s 4 0)) s (after_at s 5) ++ drop (min (length old) (get_or s 4 0)) old
