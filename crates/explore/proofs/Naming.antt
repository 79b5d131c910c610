-- Registers by first appearance, as code finds and keeps them. Assumes nothing.
use mathlib.Core.Path.{◌≡◌, refl, sym, ap, ◌∙◌, subst}
use mathlib.Core.Logic.{◌⊎◌, inl, inr}
use mathlib.Core.Bool.{Bool, true, false, ◌&&◌, cond}
use mathlib.Core.List.{List, [], ◌∷◌, ◌++◌, map, foldl, append-nil, append_assoc}
use mathlib.Core.Option.{Option, none, some}
use Prim.Native.Nat.{ℕ, zero, suc, ◌+◌, ◌*◌, ◌≤◌, ◌<◌}
use native.Mathlib.Omega.{arith}
use native.Mathlib.Numerals.{add-one}
use lib.Dec.{eqb}
use lib.ListN.{length, get_or, take, drop, set, replicate, length-map, length-set, length-append, drop_of_length-le}
use lib.Seq.{take-suc, drop-cons, length-take-le, set_at, get_or-set_same, get_or-set_other}
use borrow.Author.Tests.{eq-eqb, ne_eqb}
use Rattle.std.specs.Prelude as std
use Rattle.std.specs.Prelude.{Some, None, MatchOption, is_some, unwrap_or}
use Rattle.std.proofs.lemmas.Bool.{true≢false, false≢true}
use Rattle.ground.proofs.Lists.{map_set, get_or_map, each_append}
use Rattle.paths.specs.Search.{Thread}
use Rattle.net.specs.Rec.{Net}
use Rattle.paths.specs.Marks.{marking, marked_close}
use Rattle.paths.proofs.Marking.{marked_right}
use Rattle.paths.proofs.Next.{as_many_registers}
use Rattle.paths.specs.Registers.{no_tags, tagged, begin, after, situation, step, next, origins, Tags, Key, is, holds, held_by, index, known, note, registers, renamed, rename, number}
use Rattle.paths.proofs.Member.{Bool-cases}
use Rattle.explore.specs.States.{opt, tags_of, thread_of, Below}
use Rattle.explore.specs.Slots.{thread_at, threads_at, slot, PutAt, Fit}
use Rattle.explore.specs.Visit.{Means}
use Rattle.explore.specs.Keys.{key_of, keys_at, Finds, Gathers, names, Named, Numbered, Numbers, Is, Stepped, Begun}
use Rattle.explore.specs.declared.Entry.{Entry}
use Rattle.explore.proofs.Bits.{foldl_append, opt_none, opt_some}
use Rattle.explore.proofs.Memory.{threads_snoc, no_threads, threads_at_length, threads_at_at, take_threads, threads_at_same, thread_at_moved, listed}

-- ---- the number of a key

pub index_le : (k : Key) (ks : List Key) → index k ks ≤ length ks
index_le k [] = omega arith
index_le k (j ∷ ks) = by (index_le k ks) (is k j)
  where
    by : index k ks ≤ length ks → (c : Bool) → cond c 0 (suc (index k ks)) ≤ suc (length ks)
    by h true = omega arith
    by h false = omega arith

known_of : (k : Key) (ks : List Key) → index k ks < length ks → known k ks ≡ true
known_of k [] h = absurd (omega arith)
known_of k (j ∷ ks) h = by (known_of k ks) (is k j) h
  where
    by : (index k ks < length ks → known k ks ≡ true) → (c : Bool) → cond c 0 (suc (index k ks)) < suc (length ks) → cond c true (known k ks) ≡ true
    by ih true h = refl
    by ih false h = ih (omega arith)

unknown_of : (k : Key) (ks : List Key) → length ks ≤ index k ks → known k ks ≡ false
unknown_of k [] h = refl
unknown_of k (j ∷ ks) h = by (unknown_of k ks) (is k j) h
  where
    by : (length ks ≤ index k ks → known k ks ≡ false) → (c : Bool) → suc (length ks) ≤ cond c 0 (suc (index k ks)) → cond c true (known k ks) ≡ false
    by ih true h = absurd (omega arith)
    by ih false h = ih (omega arith)

note_known : (k : Key) (ks : List Key) → index k ks < length ks → note ks k ≡ ks
note_known k ks h = rw (known_of k ks h)

note_new : (k : Key) (ks : List Key) → length ks ≤ index k ks → note ks k ≡ ks ++ (k ∷ [])
note_new k ks h = rw (unknown_of k ks h)

pub notes_le : (l ks : List Key) → length ks ≤ length (foldl note ks l)
notes_le [] ks = omega arith
notes_le (k ∷ l) ks = let h = notes_le l (note ks k) in let g = one (known k ks) in omega arith
  where
    one : (c : Bool) → length ks ≤ length (cond c ks (ks ++ (k ∷ [])))
    one true = omega arith
    one false = omega (arith, length-append ks (k ∷ []))

-- ---- the registers in their bytes

pub keys_length : (r : List ℕ) (k n : ℕ) → length (keys_at r k n) ≡ n
unfolding keys_at
keys_length r k zero = refl
keys_length r k (suc n) = ap suc (keys_length r (k + 1) n)

pub keys_at_at : (r : List ℕ) (k n i : ℕ) (d : Key) → i < n → get_or (keys_at r k n) i d ≡ key_of r (k + i)
unfolding keys_at
keys_at_at r k zero i d b = absurd (omega arith)
keys_at_at r k (suc n) zero d b = let z : k ≡ k + 0 = omega arith in ap (key_of r) z
keys_at_at r k (suc n) (suc i) d b = keys_at_at r (k + 1) n i d (omega arith) ∙ (let z : k + 1 + i ≡ k + suc i = omega arith in ap (key_of r) z)

keys_snoc : (r : List ℕ) (n : ℕ) → keys_at r 0 (n + 1) ≡ keys_at r 0 n ++ (key_of r n ∷ [])
unfolding keys_at
keys_snoc r n = ap (keys_at r 0) (add-one n) ∙ by 0 n ∙ (let z : 0 + n ≡ n = omega arith in ap (λ v. keys_at r 0 n ++ (key_of r v ∷ [])) z)
  where
    by : (k n : ℕ) → keys_at r k (suc n) ≡ keys_at r k n ++ (key_of r (k + n) ∷ [])
    by k zero = let z : k ≡ k + 0 = omega arith in ap (λ v. key_of r v ∷ []) z
    by k (suc n) = ap (λ v. key_of r k ∷ v) (by (k + 1) n ∙ (let z : k + 1 + n ≡ k + suc n = omega arith in ap (λ v. keys_at r (k + 1) n ++ (key_of r v ∷ [])) z))

keys_same : (r r' : List ℕ) (k n : ℕ) → ((i : ℕ) → i < 2 * (k + n) → get_or r' i 0 ≡ get_or r i 0) → keys_at r' k n ≡ keys_at r k n
unfolding keys_at
keys_same r r' k zero h = refl
keys_same r r' k (suc n) h =
    let a = h (2 * k) (omega arith) in
    let b = h (2 * k + 1) (omega arith) in
    let q = keys_same r r' (k + 1) n (λ i c. h i (omega arith)) in
    λ i. (a i, b i) ∷ q i

-- ---- `find`

module _ (r : List ℕ) (n t o i : ℕ) (so_far : index (t, o) (keys_at r 0 n) ≡ i + index (t, o) (drop i (keys_at r 0 n))) where
  here : i < n → drop i (keys_at r 0 n) ≡ key_of r i ∷ drop (suc i) (keys_at r 0 n)
  here b = let l = keys_length r 0 n in let z : 0 + i ≡ i = omega arith in drop-cons (keys_at r 0 n) i (0, 0) (omega arith) ∙ ap (λ v. v ∷ drop (suc i) (keys_at r 0 n)) (keys_at_at r 0 n i (0, 0) b ∙ ap (key_of r) z)

  pub find_hit : i < n → get_or r (2 * i) 0 ≡ t → get_or r (2 * i + 1) 0 ≡ o → Finds (keys_at r 0 n) (t, o) (Some i)
  find_hit b e1 e2 =
      let l = keys_length r 0 n in
      let q : index (t, o) (drop i (keys_at r 0 n)) ≡ 0 = ap (index (t, o)) (here b) ∙ rw (eq-eqb t _ (sym e1), eq-eqb o _ (sym e2)) in
      (omega arith, omega arith)

  pub find_miss : i < n → (get_or r (2 * i) 0 ≡ t → get_or r (2 * i + 1) 0 ≡ o → ⊥) → index (t, o) (keys_at r 0 n) ≡ (i + 1) + index (t, o) (drop (i + 1) (keys_at r 0 n))
  find_miss b h =
      let q : index (t, o) (drop i (keys_at r 0 n)) ≡ suc (index (t, o) (drop (suc i) (keys_at r 0 n))) = ap (index (t, o)) (here b) ∙ not_here (Bool-cases (eqb t (get_or r (2 * i) 0))) in
      let p = ap (λ j. index (t, o) (drop j (keys_at r 0 n))) (add-one i) in
      omega arith
    where
      not_here : (eqb t (get_or r (2 * i) 0) ≡ true) ⊎ (eqb t (get_or r (2 * i) 0) ≡ false) → cond (eqb t (get_or r (2 * i) 0) && eqb o (get_or r (2 * i + 1) 0)) 0 (suc (index (t, o) (drop (suc i) (keys_at r 0 n)))) ≡ suc (index (t, o) (drop (suc i) (keys_at r 0 n)))
      not_here (inl e) = rw (e, ne_eqb o (get_or r (2 * i + 1) 0) (λ p. h (sym (borrow.Author.Tests.eqb-true t (get_or r (2 * i) 0) e)) (sym p)))
      not_here (inr e) = rw e

  pub find_end : n ≤ i → Finds (keys_at r 0 n) (t, o) None
  find_end h = let l = keys_length r 0 n in omega arith

-- the number that was found, n for none
pub found_here : (r : List ℕ) (n : ℕ) → n ≤ 64 → (t o : ℕ) (a : std.Option ℕ) → Finds (keys_at r 0 n) (t, o) a → (i : ℕ) → i ≡ unwrap_or a n → (i ≡ index (t, o) (keys_at r 0 n)) × (i < 255)
found_here r n few t o None f i e = let l = keys_length r 0 n in let q = index_le (t, o) (keys_at r 0 n) in (omega arith, omega arith)
found_here r n few t o (Some k) f i e = let l = keys_length r 0 n in (e ∙ f.1, omega (arith, f.0))

-- ---- `add`

keys_with : (r : List ℕ) (n t o : ℕ) → 2 * n + 1 < length r → keys_at (set (set r (2 * n) t) (2 * n + 1) o) 0 (n + 1) ≡ keys_at r 0 n ++ ((t, o) ∷ [])
keys_with r n t o b =
    keys_snoc (set (set r (2 * n) t) (2 * n + 1) o) n
    ∙ (λ i. keys_same r (set (set r (2 * n) t) (2 * n + 1) o) 0 n old i ++ ((first i, second i) ∷ []))
  where
    old : (i : ℕ) → i < 2 * (0 + n) → get_or (set (set r (2 * n) t) (2 * n + 1) o) i 0 ≡ get_or r i 0
    old i c = get_or-set_other (set r (2 * n) t) (2 * n + 1) i o 0 (λ z. omega arith) ∙ get_or-set_other r (2 * n) i t 0 (λ z. omega arith)

    first : get_or (set (set r (2 * n) t) (2 * n + 1) o) (2 * n) 0 ≡ t
    first = get_or-set_other (set r (2 * n) t) (2 * n + 1) (2 * n) o 0 (λ z. omega arith) ∙ get_or-set_same r (2 * n) t 0 (omega arith)

    second : get_or (set (set r (2 * n) t) (2 * n + 1) o) (2 * n + 1) 0 ≡ o
    second = get_or-set_same (set r (2 * n) t) (2 * n + 1) o 0 (omega (arith, length-set r (2 * n) t))

module _ (r : List ℕ) (n t o : ℕ) (size : length r ≡ 128) (few : n ≤ 64) where
  pub add_old : (a : std.Option ℕ) → Finds (keys_at r 0 n) (t, o) a → is_some a ≡ true → Gathers (keys_at r 0 n) ((t, o) ∷ []) r (Some n)
  add_old None f e = absurd (false≢true e)
  add_old (Some i) f e = record { size = size; count = (few, sym (note_known (t, o) (keys_at r 0 n) (omega (arith, f.0, f.1)))) }

  module _ (a : std.Option ℕ) (f : Finds (keys_at r 0 n) (t, o) a) (e : is_some a ≡ false) where
    new : note (keys_at r 0 n) (t, o) ≡ keys_at r 0 n ++ ((t, o) ∷ [])
    new = by a f e
      where
        by : (a : std.Option ℕ) → Finds (keys_at r 0 n) (t, o) a → is_some a ≡ false → note (keys_at r 0 n) (t, o) ≡ keys_at r 0 n ++ ((t, o) ∷ [])
        by None f e = note_new (t, o) (keys_at r 0 n) f
        by (Some i) f e = absurd (true≢false e)

    pub add_full : n ≡ 64 → Gathers (keys_at r 0 n) ((t, o) ∷ []) r None
    add_full h = let l = keys_length r 0 n in record { size = size; count = omega (arith, ap length new, length-append (keys_at r 0 n) ((t, o) ∷ [])) }

    pub add_new : (n ≡ 64 → ⊥) → Gathers (keys_at r 0 n) ((t, o) ∷ []) (set (set r (2 * n) t) (2 * n + 1) o) (Some (n + 1))
    add_new h = record { size = length-set (set r (2 * n) t) (2 * n + 1) o ∙ length-set r (2 * n) t ∙ size; count = (omega arith, keys_with r n t o (omega arith) ∙ sym new) }

-- ---- one list after another

-- the rest of the keys can only add
module _ (ks l m s : List Key) (r : List ℕ) (e : s ≡ foldl note ks l) where
  pub gathers_stop : (p : List Key) → Gathers s m r None → Gathers ks (l ++ (m ++ p)) r None
  gathers_stop p g =
      record {
        size = g.size;
        count =
            let h : 64 < length (foldl note s m) = g.count in
            let q : foldl note ks (l ++ (m ++ p)) ≡ foldl note (foldl note s m) p = foldl_append note ks l (m ++ p) ∙ ap (λ v. foldl note v (m ++ p)) (sym e) ∙ foldl_append note s m p in
            omega (arith, ap length q, notes_le p (foldl note s m));
      }

  pub gathers_on : (a : ℕ) → Gathers s m r (Some a) → keys_at r 0 a ≡ foldl note ks (l ++ m)
  gathers_on a g = g.count.1 ∙ ap (λ v. foldl note v m) e ∙ sym (foldl_append note ks l m)

-- ---- the tags of one entry

abbrev pub one_held : ℕ → Option ℕ → List Key
one_held t none = []
one_held t (some p) = (t, p) ∷ []

holds_append : (u : ℕ) (τ ρ : Tags) → holds u (τ ++ ρ) ≡ holds u τ ++ holds (u + length τ) ρ
holds_append u [] ρ = let e : u ≡ u + 0 = omega arith in ap (λ v. holds v ρ) e
holds_append u (none ∷ τ) ρ = holds_append (suc u) τ ρ ∙ (let e : suc u + length τ ≡ u + suc (length τ) = omega arith in ap (λ v. holds (suc u) τ ++ holds v ρ) e)
holds_append u (some p ∷ τ) ρ = ap (λ v. (u, p) ∷ v) (holds_append (suc u) τ ρ ∙ (let e : suc u + length τ ≡ u + suc (length τ) = omega arith in ap (λ v. holds (suc u) τ ++ holds v ρ) e))

held_split : (u : ℕ) (v : Option ℕ) (ρ : Tags) → holds u (v ∷ ρ) ≡ one_held u v ++ holds (suc u) ρ
held_split u none ρ = refl
held_split u (some p) ρ = refl

module _ (l : List ℕ) (t : ℕ) (b : t < length l) where
  tag_at : get_or (tags_of l) t none ≡ opt (get_or l t 0)
  tag_at = get_or_map opt l t 0 none b

  t_in : t < length (tags_of l)
  t_in = let e = length-map l opt in omega arith

  took : 0 + length (take t (tags_of l)) ≡ t
  took = let h = t_in in omega (arith, length-take-le t (tags_of l) (omega arith))

  pub holds_more : holds 0 (take (t + 1) (tags_of l)) ≡ holds 0 (take t (tags_of l)) ++ one_held t (opt (get_or l t 0))
  holds_more =
      ap (λ j. holds 0 (take j (tags_of l))) (add-one t) ∙ ap (holds 0) (take-suc (tags_of l) t none t_in) ∙ holds_append 0 (take t (tags_of l)) (get_or (tags_of l) t none ∷ [])
      ∙ ap (λ v. holds 0 (take t (tags_of l)) ++ v) (ap (λ j. holds j (get_or (tags_of l) t none ∷ [])) took ∙ held_split t (get_or (tags_of l) t none) [] ∙ append-nil (one_held t (get_or (tags_of l) t none)) ∙ ap (one_held t) tag_at)

  pub holds_whole : holds 0 (tags_of l) ≡ holds 0 (take t (tags_of l)) ++ (one_held t (opt (get_or l t 0)) ++ holds (suc t) (drop (suc t) (tags_of l)))
  holds_whole =
      ap (holds 0) (lib.Seq.split_at (tags_of l) t none t_in) ∙ holds_append 0 (take t (tags_of l)) (get_or (tags_of l) t none ∷ drop (suc t) (tags_of l))
      ∙ ap (λ v. holds 0 (take t (tags_of l)) ++ v) (ap (λ j. holds j (get_or (tags_of l) t none ∷ drop (suc t) (tags_of l))) took ∙ held_split t (get_or (tags_of l) t none) (drop (suc t) (tags_of l)) ∙ ap (λ v. one_held t v ++ holds (suc t) (drop (suc t) (tags_of l))) tag_at)

-- ---- the loops over the tags of an entry

module _ (had : List ℕ) (t : ℕ) (b : t < length had) (ks s : List Key) (so_far : s ≡ foldl note ks (holds 0 (take t (tags_of had)))) where
  module _ (h : get_or had t 0 ≡ 255 → ⊥) (r : List ℕ) where
    one : one_held t (opt (get_or had t 0)) ≡ (t, get_or had t 0) ∷ []
    one = ap (one_held t) (opt_some (get_or had t 0) h)

    pub gather_over : Gathers s ((t, get_or had t 0) ∷ []) r None → Gathers ks (holds 0 (tags_of had)) r None
    gather_over g =
        subst (λ l. Gathers ks l r None) (sym (holds_whole had t b ∙ ap (λ v. holds 0 (take t (tags_of had)) ++ (v ++ holds (suc t) (drop (suc t) (tags_of had)))) one))
        (gathers_stop ks (holds 0 (take t (tags_of had))) ((t, get_or had t 0) ∷ []) s r so_far (holds (suc t) (drop (suc t) (tags_of had))) g)

    pub gather_on : (a : ℕ) → Gathers s ((t, get_or had t 0) ∷ []) r (Some a) → keys_at r 0 a ≡ foldl note ks (holds 0 (take (t + 1) (tags_of had)))
    gather_on a g =
        gathers_on ks (holds 0 (take t (tags_of had))) ((t, get_or had t 0) ∷ []) s r so_far a g
        ∙ ap (λ l. foldl note ks l) (sym (holds_more had t b ∙ ap (λ v. holds 0 (take t (tags_of had)) ++ v) one))

  pub gather_skip : get_or had t 0 ≡ 255 → s ≡ foldl note ks (holds 0 (take (t + 1) (tags_of had)))
  gather_skip e = so_far ∙ ap (λ l. foldl note ks l) (sym (holds_more had t b ∙ ap (λ v. holds 0 (take t (tags_of had)) ++ v) (ap (one_held t) (opt_none (get_or had t 0) e)) ∙ append-nil (holds 0 (take t (tags_of had)))))

pub gathered : (ks l l' : List Key) (r : List ℕ) (k : ℕ) → length r ≡ 128 → k ≤ 64 → keys_at r 0 k ≡ foldl note ks l → l ≡ l' → Gathers ks l' r (Some k)
gathered ks l l' r k size few e q = record { size = size; count = (few, e ∙ ap (λ v. foldl note ks v) q) }

pub whole_tags : (had : List ℕ) (t : ℕ) → length had ≤ t → take t (tags_of had) ≡ tags_of had
whole_tags had t h = let e = length-map had opt in lib.Seq.take_all t (tags_of had) (omega arith)

module _ (σ : ℕ → ℕ → ℕ) where
  renamed_append : (u : ℕ) (τ ρ : Tags) → renamed σ u (τ ++ ρ) ≡ renamed σ u τ ++ renamed σ (u + length τ) ρ
  renamed_append u [] ρ = let e : u ≡ u + 0 = omega arith in ap (λ v. renamed σ v ρ) e
  renamed_append u (none ∷ τ) ρ = ap (λ v. none ∷ v) (renamed_append (suc u) τ ρ ∙ (let e : suc u + length τ ≡ u + suc (length τ) = omega arith in ap (λ v. renamed σ (suc u) τ ++ renamed σ v ρ) e))
  renamed_append u (some p ∷ τ) ρ = ap (λ v. some (σ u p) ∷ v) (renamed_append (suc u) τ ρ ∙ (let e : suc u + length τ ≡ u + suc (length τ) = omega arith in ap (λ v. renamed σ (suc u) τ ++ renamed σ v ρ) e))

  renamed_length : (u : ℕ) (τ : Tags) → length (renamed σ u τ) ≡ length τ
  renamed_length u [] = refl
  renamed_length u (none ∷ τ) = ap suc (renamed_length (suc u) τ)
  renamed_length u (some p ∷ τ) = ap suc (renamed_length (suc u) τ)

  rename_append : (l k : List (Thread Tags)) → rename σ (l ++ k) ≡ rename σ l ++ rename σ k
  rename_append [] k = refl
  rename_append (s ∷ l) k = ap (λ v. record { on = s.on; had = renamed σ 0 s.had } ∷ v) (rename_append l k)

  module _ (had : List ℕ) (t : ℕ) (b : t < length had) (d : List ℕ) (so_far : tags_of d ≡ renamed σ 0 (take t (tags_of had)) ++ drop t (tags_of had)) where
    in_it : t < length (tags_of had)
    in_it = let e = length-map had opt in omega arith

    left : drop t (tags_of had) ≡ opt (get_or had t 0) ∷ drop (suc t) (tags_of had)
    left = drop-cons (tags_of had) t none in_it ∙ ap (λ v. v ∷ drop (suc t) (tags_of had)) (get_or_map opt had t 0 none b)

    long : 0 + length (take t (tags_of had)) ≡ t
    long = let h = in_it in omega (arith, length-take-le t (tags_of had) (omega arith))

    more : renamed σ 0 (take (suc t) (tags_of had)) ≡ renamed σ 0 (take t (tags_of had)) ++ renamed σ t (opt (get_or had t 0) ∷ [])
    more =
        ap (renamed σ 0) (take-suc (tags_of had) t none in_it ∙ ap (λ v. take t (tags_of had) ++ (v ∷ [])) (get_or_map opt had t 0 none b))
        ∙ renamed_append 0 (take t (tags_of had)) (opt (get_or had t 0) ∷ []) ∙ ap (λ j. renamed σ 0 (take t (tags_of had)) ++ renamed σ j (opt (get_or had t 0) ∷ [])) long

    shift : renamed σ 0 (take (t + 1) (tags_of had)) ++ drop (t + 1) (tags_of had) ≡ renamed σ 0 (take t (tags_of had)) ++ (renamed σ t (opt (get_or had t 0) ∷ []) ++ drop (suc t) (tags_of had))
    shift = ap (λ j. renamed σ 0 (take j (tags_of had)) ++ drop j (tags_of had)) (add-one t) ∙ ap (λ v. v ++ drop (suc t) (tags_of had)) more ∙ append_assoc (renamed σ 0 (take t (tags_of had))) (renamed σ t (opt (get_or had t 0) ∷ [])) (drop (suc t) (tags_of had))

    pub name_skip : get_or had t 0 ≡ 255 → tags_of d ≡ renamed σ 0 (take (t + 1) (tags_of had)) ++ drop (t + 1) (tags_of had)
    name_skip e =
        let o = opt_none (get_or had t 0) e in
        so_far ∙ ap (λ v. renamed σ 0 (take t (tags_of had)) ++ v) (left ∙ ap (λ v. v ∷ drop (suc t) (tags_of had)) o)
        ∙ sym (shift ∙ ap (λ v. renamed σ 0 (take t (tags_of had)) ++ (renamed σ t (v ∷ []) ++ drop (suc t) (tags_of had))) o)

    pub name_one : (get_or had t 0 ≡ 255 → ⊥) → (i : ℕ) → i < 255 → i ≡ σ t (get_or had t 0) → tags_of (set d t i) ≡ renamed σ 0 (take (t + 1) (tags_of had)) ++ drop (t + 1) (tags_of had)
    name_one h i small e =
        let o = opt_some (get_or had t 0) h in
        let p = opt_some i (λ z. omega arith) in
        let n : length (renamed σ 0 (take t (tags_of had))) ≡ t = omega (arith, renamed_length 0 (take t (tags_of had)), long) in
        map_set opt d t i ∙ ap (λ v. set (tags_of d) t v) (p ∙ ap some e)
        ∙ ap (λ v. set v t (some (σ t (get_or had t 0)))) (so_far ∙ ap (λ v. renamed σ 0 (take t (tags_of had)) ++ v) left)
        ∙ set_at (renamed σ 0 (take t (tags_of had))) (opt (get_or had t 0)) (drop (suc t) (tags_of had)) (some (σ t (get_or had t 0))) t n
        ∙ sym (shift ∙ ap (λ v. renamed σ 0 (take t (tags_of had)) ++ (renamed σ t (v ∷ []) ++ drop (suc t) (tags_of had))) o)

  rename_more : (w : List ℕ) (i : ℕ) → rename σ (threads_at w 2 (i + 1)) ≡ rename σ (threads_at w 2 i) ++ (record { on = (thread_at w (2 + 9 * i)).on; had = renamed σ 0 (thread_at w (2 + 9 * i)).had } ∷ [])
  rename_more w i = ap (rename σ) (threads_snoc w 2 i) ∙ rename_append (threads_at w 2 i) (thread_at w (2 + 9 * i) ∷ [])

pub named_all : (ks : List Key) (e d : Entry) (t : ℕ) → length e.had ≤ t → d.on ≡ e.on → tags_of d.had ≡ renamed (λ u p. index (u, p) ks) 0 (take t (tags_of e.had)) ++ drop t (tags_of e.had) → thread_of d ≡ names ks (thread_of e)
unfolding thread_of
named_all ks e d t h q p =
    let n = length-map e.had opt in
    let z : drop t (tags_of e.had) ≡ [] = drop_of_length-le (tags_of e.had) {i = t} (omega arith) in
    let w = p ∙ ap (λ v. renamed (λ u p. index (u, p) ks) 0 (take t (tags_of e.had)) ++ v) z ∙ append-nil (renamed (λ u p. index (u, p) ks) 0 (take t (tags_of e.had))) ∙ ap (renamed (λ u p. index (u, p) ks) 0) (whole_tags e.had t h) in
    λ i. record { on = q i; had = w i }

-- new names, the same records
below_renamed : (N : ℕ) (σ : ℕ → ℕ → ℕ) (l : List (Thread Tags)) → Below N l → Below N (rename σ l)
below_renamed N σ [] h = tt
below_renamed N σ (s ∷ l) h = (h.0, below_renamed N σ l h.1)

-- ---- the loops over a list

module _ (w : List ℕ) (i : ℕ) (e : Entry) (at : thread_of e ≡ thread_at w (2 + 9 * i)) where
  held_more : held_by (threads_at w 2 (i + 1)) ≡ held_by (threads_at w 2 i) ++ holds 0 (tags_of e.had)
  unfolding thread_of
  held_more =
      ap held_by (threads_snoc w 2 i) ∙ each_append (λ s. holds 0 s.had) (threads_at w 2 i) (thread_at w (2 + 9 * i) ∷ [])
      ∙ ap (λ v. held_by (threads_at w 2 i) ++ v) (append-nil (holds 0 (thread_at w (2 + 9 * i)).had) ∙ ap (λ s. holds 0 s.had) (sym at))

  held_rest : (n : ℕ) → i < n → held_by (threads_at w 2 n) ≡ held_by (threads_at w 2 i) ++ (holds 0 (tags_of e.had) ++ held_by (drop (suc i) (threads_at w 2 n)))
  unfolding thread_of
  held_rest n b =
      let m = threads_at_length w 2 n in
      ap held_by
      (lib.Seq.split_at (threads_at w 2 n) i (thread_of e) (omega arith) ∙ ap (λ v. v ++ get_or (threads_at w 2 n) i (thread_of e) ∷ drop (suc i) (threads_at w 2 n)) (take_threads w 2 n i (omega arith))
      ∙ ap (λ v. threads_at w 2 i ++ v ∷ drop (suc i) (threads_at w 2 n)) (threads_at_at w 2 n i (thread_of e) b ∙ sym at))
      ∙ each_append (λ s. holds 0 s.had) (threads_at w 2 i) (thread_of e ∷ drop (suc i) (threads_at w 2 n))

  module _ (s : List Key) (so_far : s ≡ foldl note [] (held_by (threads_at w 2 i))) (r : List ℕ) where
    pub list_over : i < get_or w 0 0 → Gathers s (holds 0 (tags_of e.had)) r None → Gathers [] (held_by (slot w 0)) r None
    unfolding slot
    list_over b g =
        subst (λ l. Gathers [] l r None) (sym (held_rest (get_or w 0 0) b))
        (gathers_stop [] (held_by (threads_at w 2 i)) (holds 0 (tags_of e.had)) s r so_far (held_by (drop (suc i) (threads_at w 2 (get_or w 0 0)))) g)

    pub list_on : (a : ℕ) → Gathers s (holds 0 (tags_of e.had)) r (Some a) → keys_at r 0 a ≡ foldl note [] (held_by (threads_at w 2 (i + 1)))
    list_on a g = gathers_on [] (held_by (threads_at w 2 i)) (holds 0 (tags_of e.had)) s r so_far a g ∙ ap (λ l. foldl note [] l) (sym held_more)

pub slot_whole : (w : List ℕ) (i : ℕ) → i ≡ get_or w 0 0 → threads_at w 2 i ≡ slot w 0
unfolding slot
slot_whole w i e = ap (threads_at w 2) e

pub none_held : (r w : List ℕ) → keys_at r 0 0 ≡ foldl note [] (held_by (threads_at w 2 0))
unfolding keys_at threads_at
none_held r w = refl

-- ---- `name_all`

pub named_none : (ks : List Key) (w : List ℕ) → Named ks w w 0
named_none ks w = record { size = refl; done = no_threads w 2 ∙ sym (ap (rename (λ t p. index (t, p) ks)) (no_threads w 2)); else = λ k b. refl }

pub named_more : (ks : List Key) (w₀ w w' : List ℕ) (i : ℕ) (e d : Entry) → Named ks w₀ w i → thread_of e ≡ thread_at w (2 + 9 * i) → thread_of d ≡ names ks (thread_of e) → PutAt w w' (2 + 9 * i) d → Named ks w₀ w' (i + 1)
named_more ks w₀ w w' i e d h at q p =
    record {
      size = p.size ∙ h.size;
      done = listed w w' i d p ∙ (λ k. h.done k ++ (it k ∷ [])) ∙ sym (rename_more (λ t p. index (t, p) ks) w₀ i);
      else = λ k b. p.else k (off k b) ∙ h.else k (old k b);
    }
  where
    it : thread_of d ≡ names ks (thread_at w₀ (2 + 9 * i))
    it = q ∙ ap (names ks) (at ∙ thread_at_moved w w₀ (2 + 9 * i) (2 + 9 * i) (λ k c. h.else (2 + 9 * i + k) (inr (omega arith))))

    off : (k : ℕ) → (k < 2) ⊎ (2 + 9 * (i + 1) ≤ k) → (k < 2 + 9 * i) ⊎ (2 + 9 * i + 9 ≤ k)
    off k (inl b) = inl (omega arith)
    off k (inr b) = inr (omega arith)

    old : (k : ℕ) → (k < 2) ⊎ (2 + 9 * (i + 1) ≤ k) → (k < 2) ⊎ (2 + 9 * i ≤ k)
    old k (inl b) = inl b
    old k (inr b) = inr (omega arith)

pub named_end : {ks : List Key} {w w' : List ℕ} {i n : ℕ} → Named ks w w' i → i ≡ n → Named ks w w' n
named_end {ks} {w} {w'} h e = subst (λ v. Named ks w w' v) e h

-- ---- the whole

pub number_over : (w₀ r : List ℕ) → Gathers [] (held_by (slot w₀ 0)) r None → Numbers (slot w₀ 0) w₀ r None
unfolding registers
number_over w₀ r g = record { size = g.size; what = g.count }

module _ (w₀ r : List ℕ) (k : ℕ) (g : Gathers [] (held_by (slot w₀ 0)) r (Some k)) where
  module _ (w : List ℕ) (size : length w₀ ≡ 578) (n : Named (keys_at r 0 k) w₀ w (get_or w₀ 0 0)) where
    first : get_or (set w 1 k) 0 0 ≡ get_or w₀ 0 0
    first = get_or-set_other w 1 0 k 0 (λ z. omega arith) ∙ n.else 0 (inl (omega arith))

    named : slot (set w 1 k) 0 ≡ rename (λ t p. index (t, p) (keys_at r 0 k)) (slot w₀ 0)
    unfolding slot
    named = ap (threads_at (set w 1 k) 2) first ∙ threads_at_same w (set w 1 k) 2 (get_or w₀ 0 0) (λ i u v. get_or-set_other w 1 i k 0 (λ z. omega arith)) ∙ n.done

    pub number_fine : Numbers (slot w₀ 0) (set w 1 k) r (Some k)
    unfolding registers number
    number_fine =
        record {
          size = g.size;
          what = record {
            few = g.count.0;
            count = sym (keys_length r 0 k) ∙ ap length g.count.1;
            tally = get_or-set_same w 1 k 0 (omega (arith, n.size));
            regs = g.count.1;
            sit = named ∙ ap (λ ks. rename (λ t p. index (t, p) ks) (slot w₀ 0)) g.count.1;
          };
        }

    pub number_fit : (N : ℕ) → Fit N w₀ → Fit N (set w 1 k)
    number_fit N h = record { size = length-set w 1 k ∙ n.size ∙ size; few = omega (arith, first, h.few); below = rw named (below_renamed N (λ t p. index (t, p) (keys_at r 0 k)) (slot w₀ 0) h.below) }

-- their count, or they are more than 64
module _ (A : Net) (N : ℕ) (v w r : List ℕ) where
  is_number : (a : std.Option ℕ) → Numbers (slot v 0) w r a → (l : List (Thread Tags)) → slot v 0 ≡ l → MatchOption a (64 < length (registers (number l))) (λ n. Is (number l) w n × (keys_at r 0 n ≡ registers l))
  is_number None h l q =
      let o : 64 < length (registers (slot v 0)) = h.what in
      let m = as_many_registers (slot v 0) in
      subst (λ v. 64 < length (registers (number v))) q (omega arith)
  is_number (Some a) h l q =
      let x : Numbered (slot v 0) w r a = h.what in
      let m = as_many_registers (slot v 0) in (
        record { few = x.few; count = x.count ∙ sym m ∙ ap (λ v. length (registers (number v))) q; tally = x.tally; sit = x.sit ∙ ap number q },
        x.regs ∙ ap registers q,
      )

  pub stepped : (a : std.Option ℕ) → Numbers (slot v 0) w r a → Fit N w → (b count : ℕ) (s : List (Thread Tags)) → count ≡ length (registers s) → slot v 0 ≡ step A count b s → Stepped A N b s w r a
  unfolding next origins
  stepped None h fit b count s c e = record { fit = fit; size = h.size; what = is_number None h _ (e ∙ ap (λ v. step A v b s) c) }
  stepped (Some a) h fit b count s c e =
      let x = is_number (Some a) h _ (e ∙ ap (λ v. step A v b s) c) in
      record { fit = fit; size = h.size; what = (x.0, ap (map (λ k. k.1)) x.1) }

  pub begun : (a : std.Option ℕ) → Numbers (slot v 0) w r a → Fit N w → slot v 0 ≡ begin A → Begun A N w r a
  unfolding situation after
  begun a h fit q = record { fit = fit; what = is_number a h _ q }

-- the first thread
pub first_thread : (e : Entry) → e.on ≡ 0 → e.had ≡ replicate 8 255 → thread_of e ≡ record { on = 0; had = no_tags }
unfolding thread_of
first_thread e p q = rw (p, q)

pub began : (A : Net) (n : ℕ) → n ≡ suc (length A) → (e : Entry) → thread_of e ≡ record { on = 0; had = no_tags } → (M : List Bool) (l : List ℕ) (c : ℕ) → Means M l c (marking (tagged 0) A n (record { marks = []; list = [] }) (thread_of e)) → threads_at l 2 c ≡ begin A
unfolding begin marked_close
began A n z e q M l c h = h.list ∙ ap (λ v. v.list) ((λ i. marking (tagged 0) A (z i) (record { marks = []; list = [] }) (q i)) ∙ marked_right (tagged 0) A (record { on = 0; had = no_tags } ∷ []))
