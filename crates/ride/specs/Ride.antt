-- A run over an image, for any bytes as the table and any numbers as the image: an entry that points outside is answered as TABLE_FORM.
-- A law says that with the image that mounting writes of a taken table it is the run of that table. Assumes nothing: these are definitions.
use Rattle.std.specs.Prelude.{Bool, true, false, List, [], ◌∷◌, map, ℕ, suc, ◌+◌, ◌*◌, length, get_or, take, drop, ltb, leb, eqb}
use Rattle.ground.specs.Pick.{pick}
use Rattle.card.specs.Table.{Cmd, move, put}
use Rattle.card.specs.Run.{Bank, empties, line_max, Told, refused}
use Rattle.card.specs.Decode.{cmds_at}
use Rattle.run.specs.Carry.{carry, field_at}
use Rattle.image.specs.Image.{block, misfit, of_bits, next_of, kind_of, cell_of, list_of}

-- the SETs that a list begins with
abbrev pub only_sets : List Cmd → List Cmd
only_sets [] = []
only_sets (move t f ∷ l) = []
only_sets (put t ∷ l) = put t ∷ only_sets l

-- the commands of an entry: none or one SET; the block that its bits name; SETs only; any
unfoldable pub orders : List ℕ → ℕ → List Cmd
orders s e =
    pick (eqb (kind_of e) 0) (pick (ltb (cell_of e) 64) (put (cell_of e) ∷ []) [])
    (pick (eqb (kind_of e) 1) (of_bits block (list_of e))
    (pick (eqb (kind_of e) 2) (only_sets (cmds_at s (list_of e))) (cmds_at s (list_of e))))

-- its numbers name no block, or its list stands past the table's end
unfoldable pub listless : List ℕ → ℕ → Bool
listless s e = pick (eqb (kind_of e) 0) false (pick (eqb (kind_of e) 1) (of_bits misfit (list_of e)) (leb (length s) (list_of e)))

-- an entry that points outside: at a situation that the HEAD does not count, at no block, or at a list past the table's end
unfoldable pub astray : List ℕ → ℕ → Bool
astray s e = pick (leb (get_or s 4 0) (next_of e)) true (listless s e)

-- what the situation at a place tells of a bank
unfoldable pub end_at : List ℕ → Bank → (at : ℕ) → Told
end_at s bank at =
    pick (ltb (length s) (at + 10)) (refused 13)
    (pick (eqb (get_or s (at + 1) 0) 255) (refused 16)
    (record { code = 0; answer = get_or s (at + 1) 0; places = map (field_at bank) (take 8 (drop (at + 2) s)) }))

-- an entry taken: onward with the commands carried out
abbrev pub taking : List ℕ → (e : ℕ) → Bank → (place : ℕ) → (ℕ → Bank → Told) → Told
taking s e bank place onward = pick (astray s e) (refused 13) (onward (next_of e) (carry (orders s e) place bank bank))

-- the bytes of a line that follow the place p, from situation q on
unfoldable pub rides_from : (s image : List ℕ) → (q : ℕ) → Bank → (p : ℕ) → List ℕ → Told
rides_from s image q bank p [] = end_at s bank (get_or image (256 * get_or s 4 0 + q) 0)
rides_from s image q bank p (b ∷ w) = taking s (get_or image (256 * q + b) 0) bank (suc p) (λ (n : ℕ) (new : Bank). rides_from s image n new (suc p) w)

-- the bank after the start's SETs
unfoldable pub started : List ℕ → Bank
started s = carry (only_sets (cmds_at s 5)) 0 empties empties

-- an image has 257 numbers for each situation that the HEAD counts, and the HEAD counts one at least
unfoldable pub fitting : List ℕ → ℕ → Bool
fitting s room = pick (eqb (get_or s 4 0) 0) false (leb (257 * get_or s 4 0) room)

unfoldable pub ridden : (s image w : List ℕ) → Told
ridden s image w =
    pick (fitting s (length image))
    (pick (ltb line_max (length w)) (refused 15) (rides_from s image 0 (started s) 0 w))
    (refused 13)
