-- The earliest paths: there is one situation after an input, and the earliest path after one more byte goes on from an earliest path. Assumes nothing.
use mathlib.Core.Path.{◌≡◌, refl, sym, ap, ap₂, ◌∙◌, subst}
use mathlib.Core.Logic.{◌⊎◌, inl, inr}
use mathlib.Core.List.{List, [], ◌∷◌, ◌++◌, Memᴰ}
use Prim.Native.Nat.{ℕ, suc}
use lib.ListN.{length}
use lib.Seq.{append_snoc}
use Rattle.net.specs.Rec.{Net, rec}
use Rattle.ground.specs.Lists.{each}
use Rattle.paths.specs.Ways.{Move, eat, eaten, Earlier}
use Rattle.paths.specs.Search.{Thread, paths}
use Rattle.paths.specs.Situation.{bite, on_quiet, on_byte, close, threads}
use Rattle.paths.specs.Registers.{standing}
use Rattle.paths.specs.Meaning.{Best, Sorted, Situation, trails}
use Rattle.ground.proofs.Members.{each_cases, Ordered, one_order}
use Rattle.paths.proofs.Member.{ons_mem}
use Rattle.paths.proofs.Closure.{firsts_in}
use Rattle.paths.proofs.Heart.{closing}
use Rattle.paths.proofs.Faithful.{onto, Trail, follow_cases, all_at, Bite, bites, sound}
use Rattle.paths.proofs.Answers.{asym}
use Rattle.paths.proofs.Bridge.{byte_standing}
use Rattle.paths.proofs.Meant.{trails_right, trails_threads, standing_in}

-- ---- one list

module _ (A : Net) (w : List ℕ) where
  -- of two paths to a record, each no later than the other
  same_best : {ms ns : List Move} {r : ℕ} → Best A w ms r → Best A w ns r → ms ≡ ns
  same_best {ms} {ns} x y = by (x.earliest ns y.stands_on) (y.earliest ms x.stands_on)
    where
      by : (ns ≡ ms) ⊎ Earlier ms ns → (ms ≡ ns) ⊎ Earlier ns ms → ms ≡ ns
      by (inl e) q = sym e
      by (inr e) (inl q) = q
      by (inr e) (inr q) = absurd (asym e q)

  module _ (l : List Trail) (x : Situation A w l) where
    listed_best : (t : Trail) → Memᴰ t l → Best A w t.had t.on
    listed_best t m = record { stands_on = x.sound t m; earliest = x.earliest t m }

    best_listed : {ms : List Move} {r : ℕ} → Best A w ms r → Memᴰ (record { on = r; had = ms }) l
    best_listed {ms} {r} b =
        let c = ons_mem l (x.complete ms r b.stands_on) in
        let e = same_best b (subst (λ v. Best A w c.0.had v) (sym c.2) (listed_best c.0 c.1)) in
        subst (λ t. Memᴰ t l) (ap₂ (λ r h. record { on = r; had = h }) (sym c.2) (sym e)) c.1

  ordered : (l : List Trail) → Sorted l → Ordered (λ s t. Earlier s.had t.had) l
  ordered [] o = tt
  ordered (s ∷ l) o = (o.0, ordered l o.1)

  pub situation_one : (l k : List Trail) → Situation A w l → Situation A w k → l ≡ k
  situation_one l k x y =
      one_order (λ s t. Earlier s.had t.had) (λ s t e q. asym e q) l k (ordered l x.sorted) (ordered k y.sorted)
      (λ t m. best_listed k y (listed_best l x t m)) (λ t m. best_listed l x (listed_best k y t m))

-- ---- one more byte

threads_snoc : {X : Type 0} (f : Move → X → X) (A : Net) (w : List ℕ) (b : ℕ) (ss : List (Thread X)) → threads f A (w ++ (b ∷ [])) ss ≡ close f A (each (on_byte f A b) (threads f A w ss))
unfolding threads
threads_snoc f A [] b ss = refl
threads_snoc f A (c ∷ w) b ss = threads_snoc f A w b (each (on_byte f A c) (close f A ss))

-- ms is a path that consumes the byte b and then nothing, on from the earliest path to a record
pub record GoesOn (A : Net) (w : List ℕ) (b : ℕ) (ms : List Move) : Type 0 where
  pub before : List Move
  pub on : ℕ
  pub best : Best A w before on
  pub more : List Move
  pub whole : ms ≡ before ++ eat b ∷ more
  pub quiet : eaten more ≡ []

module _ (A : Net) (w : List ℕ) (b : ℕ) where
  start : List Trail
  start = record { on = 0; had = [] } ∷ []

  bitten : List Trail
  bitten = each (on_byte onto A b) (trails A w)

  trails_snoc : trails A (w ++ (b ∷ [])) ≡ standing A (close onto A bitten)
  unfolding bitten start
  trails_snoc =
      trails_threads A (w ++ (b ∷ []))
      ∙ ap (λ l. standing A l) (threads_snoc onto A w b start)
      ∙ ap (λ l. standing A (close onto A l)) (sym (byte_standing A onto b (threads onto A w start)) ∙ ap (λ l. each (on_byte onto A b) l) (sym (trails_threads A w)))

  goes_on : (t : Trail) → Memᴰ t (trails A (w ++ (b ∷ []))) → GoesOn A w b t.had
  unfolding bitten on_byte
  goes_on t m =
      let c = each_cases (paths (on_quiet onto A) (suc (length A)) []) bitten (of (firsts_in (each (paths (on_quiet onto A) (suc (length A)) []) bitten) [] (subst (λ l. Memᴰ t l) (closing onto A bitten).found (standing_in A (close onto A bitten) (rw trails_snoc at m)).0))) in
      let d = each_cases (on_byte onto A b) (trails A w) c.1 in
      let e = follow_cases onto d.0.had (bite b (rec A d.0.on)) d.2 in
      let q = all_at (Bite A d.0.on b) (bites A d.0.on b (rec A d.0.on) refl) e.1 in
      let r = sound A (suc (length A)) [] c.0 t c.2 in
      record {
        before = d.0.had;
        on = d.0.on;
        best = listed_best A w (trails A w) (trails_right A w) d.0 d.1;
        more = r.moves;
        whole = r.gathered ∙ ap (λ v. v ++ r.moves) (ap (λ v. v.had) e.2 ∙ ap (λ v. onto v d.0.had) q.0) ∙ append_snoc d.0.had (eat b) r.moves;
        quiet = r.consumed;
      }
    where
      of : Memᴰ t [] ⊎ Memᴰ t (each (paths (on_quiet onto A) (suc (length A)) []) bitten) → Memᴰ t (each (paths (on_quiet onto A) (suc (length A)) []) bitten)
      of (inl k) = absurd (elim k [ ])
      of (inr k) = k

  pub best_goes_on : (ms : List Move) (r : ℕ) → Best A (w ++ (b ∷ [])) ms r → GoesOn A w b ms
  best_goes_on ms r x = goes_on (record { on = r; had = ms }) (best_listed A (w ++ (b ∷ [])) (trails A (w ++ (b ∷ []))) (trails_right A (w ++ (b ∷ []))) x)
