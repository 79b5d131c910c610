-- When two situations are equal: in document 01's words, and as a test. Assumes nothing.
use Rattle.std.specs.Prelude.{◌≡◌, ◌↔◌, Bool, true, false, ◌&&◌, List, [], ◌∷◌, ℕ, eqb, get_or}
use Rattle.std.proofs.Math.Option.{Option, none, some}
use Rattle.paths.specs.Search.{Thread, ons}
use Rattle.paths.specs.Registers.{Tags}

-- the place that the i-th of the list holds for tag t
abbrev pub place_at : List (Thread Tags) → ℕ → ℕ → Option ℕ
place_at l i t = get_or (get_or l i (record { on = 0; had = [] })).had t none

-- "For each record and each tag it says absent, or which records in the list hold the same place for that same tag. Places of different tags are never
-- compared." Two lists with places are the same situation: they have equal register numbers exactly then (`Sharing.alike_number`).
pub record Alike (l k : List (Thread Tags)) : Type 0 where
  pub records : ons l ≡ ons k
  pub absent : (i t : ℕ) → (place_at l i t ≡ none) ↔ (place_at k i t ≡ none)
  pub sharing : (i j t : ℕ) → (place_at l i t ≡ place_at l j t) ↔ (place_at k i t ≡ place_at k j t)

abbrev pub same_tag : Option ℕ → Option ℕ → Bool
same_tag none none = true
same_tag none (some q) = false
same_tag (some p) none = false
same_tag (some p) (some q) = eqb p q

abbrev pub same_list : {A : Type 0} → (A → A → Bool) → List A → List A → Bool
same_list f [] [] = true
same_list f [] (y ∷ k) = false
same_list f (x ∷ l) [] = false
same_list f (x ∷ l) (y ∷ k) = f x y && same_list f l k

abbrev pub same_thread : Thread Tags → Thread Tags → Bool
same_thread s t = eqb s.on t.on && same_list same_tag s.had t.had

abbrev pub same_situation : List (Thread Tags) → List (Thread Tags) → Bool
same_situation = same_list same_thread
