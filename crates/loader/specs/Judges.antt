-- A table judged, with the places of its situations for the run. Assumes nothing: these are definitions.
use Rattle.std.specs.Prelude.{◌≡◌, List, ℕ, replicate, eqb}
use Rattle.ground.specs.Pick.{pick}
use Rattle.card.specs.Judged.{Judged}
use Rattle.card.specs.Places.{noted}

-- 96 zeros where the form is wrong, else with the places of the situations at the front
unfoldable pub places_for : ℕ → List ℕ → List ℕ
places_for code s = pick (eqb code 13) (replicate 96 0) (noted (replicate 96 0) s)

pub record Judges (s : List ℕ) (code : ℕ) (places : List ℕ) : Type 0 where
  pub judged : Judged s code
  pub placed : places ≡ places_for code s
