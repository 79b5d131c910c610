-- The run of the builder's table tells the net's answer of every line, and the loader takes the table. Assumes nothing.
use mathlib.Core.Path.{◌≡◌, refl, sym, ap, ap₂, ◌∙◌, subst}
use mathlib.Core.Logic.{inl, inr, ◌↔◌}
use mathlib.Core.List.{List, [], ◌∷◌, map, head-eq_of_cons-eq, tail-eq_of_cons-eq}
use mathlib.Core.Option.{Option, none, some}
use Prim.Native.Nat.{ℕ, zero, suc}
use native.Mathlib.Omega.{arith}
use lib.Dec.{eqb}
use lib.IntN.{pos}
use lib.ListN.{get_or, replicate}
use Rattle.ground.specs.Pick.{pick}
use Rattle.ground.proofs.Picks.{pick_ne}
use Rattle.net.specs.Rec.{Net}
use Rattle.paths.specs.Ways.{Accepted, Answer}
use Rattle.paths.specs.Situation.{first_end}
use Rattle.paths.specs.Registers.{Tags, renamed, situation, run as goes, ready}
use Rattle.paths.specs.Equal.{same_situation}
use Rattle.paths.proofs.Laws.{loops_cut, answer_one, run_answer, run_none}
use Rattle.card.specs.Table.{bytes_of}
use Rattle.card.specs.Run.{Bank, absent, Empty, reg, sit, at, over, In, hd, tl, EndRead, Stuck, Line, Told, refused, place_at, told, ends, tells}
use Rattle.card.specs.Judged.{Judged, taken}
use Rattle.explore.specs.Lists.{position}
use Rattle.build.specs.Card.{states, answer_of, field_of, fields_of, sit_of, table_of}
use Rattle.built.specs.Fits.{Fits}
use Rattle.built.specs.Tells.{place, found, Tells, matched, unmatched}
use Rattle.built.proofs.Ends.{ended}
use Rattle.built.proofs.Formed.{table_formed}
use Rattle.built.proofs.Runs.{sit_at, table_runs}

-- ---- places

-- each register of τ holds the place that the net's run has for it, and is not 255
abbrev Held : Bank → List ℕ → Tags → Type 0
Held bank old τ = (t r : ℕ) → get_or τ t none ≡ some r → (reg bank r ≡ pos (get_or old r 0)) × (r ≡ 255 → ⊥)

places_right : (bank : Bank) (old : List ℕ) (t : ℕ) (τ : Tags) → Held bank old τ → map (place_at bank) (map field_of τ) ≡ map place (renamed (λ t i. get_or old i 0) t τ)
unfolding pick
places_right bank old t [] h = refl
places_right bank old t (none ∷ τ) h = ap (λ l. absent ∷ l) (places_right bank old (suc t) τ (λ u r e. h (suc u) r e))
places_right bank old t (some r ∷ τ) h =
    let c = h zero r refl in
    ap₂ (λ v l. v ∷ l) (pick_ne r 255 absent (reg bank r) c.1 ∙ c.0) (places_right bank old (suc t) τ (λ u q e. h (suc u) q e))

-- a field that is not absent is one of the registers
field_in : (τ : Tags) (r : ℕ) → In r (map field_of τ) → (r ≡ 255 → ⊥) → (t : ℕ) × (get_or τ t none ≡ some r)
field_in [] r i n = elim i [ ]
field_in (none ∷ τ) r hd n = absurd (n refl)
field_in (some k ∷ τ) r hd n = (0, refl)
field_in (none ∷ τ) r (tl i) n = let c = field_in τ r i n in (suc c.0, c.1)
field_in (some k ∷ τ) r (tl i) n = let c = field_in τ r i n in (suc c.0, c.1)

same_in : (n a r : ℕ) → In r (replicate n a) → r ≡ a
same_in zero a r i = elim i [ ]
same_in (suc n) a r hd = refl
same_in (suc n) a r (tl i) = same_in n a r i

module _ {tags : ℕ} {A : Net} (fits : Fits tags A) (w : List ℕ) (line : Line w) where
  bank_of : Bank
  bank_of = (table_runs fits w line.0).0

  over_is : over (table_of tags A) w ≡ at (position same_situation (situation A w) (states A)) bank_of
  unfolding bank_of
  over_is = (table_runs fits w line.0).1

  sit_is : sit (table_of tags A) (position same_situation (situation A w) (states A)) ≡ sit_of A (states A) (situation A w)
  sit_is = sit_at tags A (situation A w) (fits.complete w line.0)

  held_places : (e : ℕ) (τ : Tags) → first_end A (situation A w) ≡ some (e, τ) → Held bank_of (goes A 0 (ready A) w).bank τ
  unfolding bank_of
  held_places e τ p t r q =
      let d = ended fits (situation A w) (fits.complete w line.0) e τ p in
      let l = d.below t r q in
      let s = fits.slim (situation A w) (fits.complete w line.0) in
      ((table_runs fits w line.0).2 r l, λ z. omega arith)

  -- ---- the answer

  tell : Option (ℕ × Tags) → Told
  tell o = pick (eqb (answer_of o) 255) (refused 16) (record { code = 0; answer = answer_of o; places = map (place_at bank_of) (fields_of o) })

  tell_right : (o : Option (ℕ × Tags)) → first_end A (situation A w) ≡ o → Tells A w (tell o)
  unfolding tell pick
  tell_right none p = unmatched ((run_none A w).0 p)
  tell_right (some x) p =
      let d = ended fits (situation A w) (fits.complete w line.0) x.0 x.1 p in
      let s = d.small in
      subst (Tells A w)
      (sym (pick_ne x.0 255 (refused 16) (record { code = 0; answer = x.0; places = map (place_at bank_of) (map field_of x.1) }) (λ z. omega arith)
      ∙ ap (λ l. record { code = 0; answer = x.0; places = l }) (places_right bank_of (goes A 0 (ready A) w).bank 0 x.1 (held_places x.0 x.1 p))))
      (matched x.0 (renamed (λ t i. get_or (goes A 0 (ready A) w).bank i 0) 0 x.1) (run_answer A w x.0 x.1 p))

  -- THE ANSWER: what a run of the built table tells of a line is END and tags of the net's earliest path, or that there is none
  pub build_answers : Tells A w (tells (table_of tags A) w)
  unfolding tell sit_of
  build_answers =
      subst (λ x. Tells A w (ends (table_of tags A) x)) (sym over_is)
      (subst (λ v. Tells A w (told v bank_of)) (sym sit_is) (tell_right (first_end A (situation A w)) refl))

  -- ---- never stuck

  read_right : (o : Option (ℕ × Tags)) → first_end A (situation A w) ≡ o → (r : ℕ) → In r (fields_of o) → (r ≡ 255 → ⊥) → Empty (reg bank_of r) → ⊥
  read_right none p r i n e = n (same_in 8 255 r i)
  read_right (some x) p r i n e =
      let c = field_in x.1 r i n in
      subst Empty (held_places x.0 x.1 p c.0 r c.1).0 e

  pub never_stuck : ¬ Stuck (table_of tags A) w
  unfolding sit_of EndRead
  never_stuck (inl e) = let o = over_is in let z : ◌≡◌ {A = ℕ} 0 1 = cc in absurd (omega arith)
  never_stuck (inr e) =
      let a = subst (λ x. EndRead (table_of tags A) x) over_is e in
      read_right (first_end A (situation A w)) refl a.0 (subst (λ v. In a.0 v.fields) sit_is a.1.0) a.1.1.0 a.1.1.1

-- THE LOADER takes every built table
pub build_taken : {tags : ℕ} {A : Net} → Fits tags A → Judged (bytes_of (table_of tags A)) 0
build_taken {tags} {A} fits = taken (table_of tags A) (table_formed fits) refl (never_stuck fits)

-- ---- there is one thing to tell

answer_some : {A : Net} {w : List ℕ} {e : ℕ} {τ : Tags} → Answer A w e τ → Accepted A w e
answer_some {A} {w} {e} a = (loops_cut A w e).0 (a.moves, a.accepts)

pub one_told : {A : Net} {w : List ℕ} {x y : Told} → Tells A w x → Tells A w y → x ≡ y
one_told {A} (matched e τ a) (matched f υ b) = let s = answer_one A a b in ap₂ found s.0 s.1
one_told (matched e τ a) (unmatched n) = absurd (n e (answer_some a))
one_told (unmatched n) (matched f υ b) = absurd (n f (answer_some b))
one_told (unmatched n) (unmatched m) = refl

-- a place tells a tag
place_one : (p q : Option ℕ) → place p ≡ place q → p ≡ q
place_one none none e = refl
place_one none (some q) e = let z : ◌≡◌ {A = ℕ} 0 1 = cc in absurd (omega arith)
place_one (some p) none e = let z : ◌≡◌ {A = ℕ} 0 1 = cc in absurd (omega arith)
place_one (some p) (some q) e = let z : p ≡ q = cc in ap some z

places_one : (τ υ : Tags) → map place τ ≡ map place υ → τ ≡ υ
places_one [] [] e = refl
places_one [] (q ∷ υ) e = let z : ◌≡◌ {A = ℕ} 0 1 = cc in absurd (omega arith)
places_one (p ∷ τ) [] e = let z : ◌≡◌ {A = ℕ} 0 1 = cc in absurd (omega arith)
places_one (p ∷ τ) (q ∷ υ) e = ap₂ (λ v l. v ∷ l) (place_one p q (head-eq_of_cons-eq e)) (places_one τ υ (tail-eq_of_cons-eq e))

answer_from : {A : Net} {w : List ℕ} {x : Told} → Tells A w x → (e : ℕ) (τ : Tags) → x ≡ found e τ → Answer A w e τ
answer_from {A} {w} (matched f υ a) e τ p =
    subst (λ l. Answer A w e l) (places_one υ τ (ap (λ v. v.places) p)) (subst (λ v. Answer A w v υ) (ap (λ v. v.answer) p) a)
answer_from (unmatched n) e τ p = let q = ap (λ v. v.code) p in absurd (omega arith)

none_from : {A : Net} {w : List ℕ} {x : Told} → Tells A w x → x.code ≡ 16 → (e : ℕ) → ¬ Accepted A w e
none_from (matched f υ a) p = absurd (omega arith)
none_from (unmatched n) p = n

module _ {tags : ℕ} {A : Net} (fits : Fits tags A) (w : List ℕ) (line : Line w) where
  -- code 0 with this answer and these eight places, exactly if they are the net's
  pub answers_exactly : (e : ℕ) (τ : List (Option ℕ)) → Answer A w e τ ↔ (tells (table_of tags A) w ≡ found e τ)
  answers_exactly e τ = (λ a. one_told (build_answers fits w line) (matched e τ a), answer_from (build_answers fits w line) e τ)

  -- NO_MATCH exactly if no path, admissible or not, accepts
  pub unmatched_exactly : ((e : ℕ) → ¬ Accepted A w e) ↔ ((tells (table_of tags A) w).code ≡ 16)
  unmatched_exactly = (λ n. ap (λ v. v.code) (one_told (build_answers fits w line) (unmatched n)), none_from (build_answers fits w line))
