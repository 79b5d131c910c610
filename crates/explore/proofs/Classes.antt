-- A byte that every record treats as the byte before it leads nowhere new. Assumes nothing.
use mathlib.Core.Path.{◌≡◌, refl, sym, ap, ◌∙◌}
use mathlib.Core.Logic.{◌⊎◌, inl, inr}
use mathlib.Core.Bool.{true, false}
use mathlib.Core.List.{List, [], ◌∷◌, ◌++◌, map}
use Prim.Native.Nat.{ℕ, ◌+◌, ◌-◌, ◌<◌}
use native.Mathlib.Omega.{arith}
use lib.Seq.{get_or-set_same, get_or-set_other}
use lib.ListN.{length, get_or, set, length-set}
use Rattle.net.specs.Rec.{Net, rec}
use Rattle.paths.specs.Search.{Thread}
use Rattle.ground.specs.Lists.{each}
use Rattle.std.specs.Prelude.{Option, Some, None}
use Rattle.paths.specs.Ways.{eat}
use Rattle.paths.specs.Situation.{bite, follow, on_byte, close}
use Rattle.paths.specs.Registers.{Tags, tagged, registers, standing, step, number, next, origins}
use Rattle.paths.specs.Equal.{same_situation}
use Rattle.paths.specs.Numbering.{among, put, once}
use Rattle.paths.proofs.Member.{Bool-cases}
use Rattle.std.proofs.lemmas.Bool.{cases_eq}
use Rattle.paths.proofs.Builder.{situation_test}
use Rattle.net.specs.Items.{net_at}
use Rattle.explore.specs.Items.{Formed, lands}
use Rattle.explore.specs.States.{Below}
use Rattle.paths.specs.Limits.{bytes}
use Rattle.paths.specs.Limits.{Sit}
use Rattle.explore.specs.Explore.{Alike}
use Rattle.explore.proofs.Reading.{net_inside}
use Rattle.explore.proofs.Biting.{bite_some, bite_none}
use Rattle.explore.proofs.Exploration.{once_snoc}
use Rattle.explore.proofs.Bits.{or_true}

module _ {F offs : List ℕ} (w : Formed F offs) (b c : ℕ) (same : (r : ℕ) → r < length offs → lands (bite b (rec (net_at F offs) r)) ≡ lands (bite c (rec (net_at F offs) r))) (k : ℕ) where
  byte_same : (s : Thread Tags) → s.on < length offs → on_byte (tagged k) (net_at F offs) b s ≡ on_byte (tagged k) (net_at F offs) c s
  unfolding on_byte
  byte_same s h = by (lands (bite b (rec (net_at F offs) s.on))) refl (same s.on h)
    where
      by : (o : Option ℕ) → o ≡ lands (bite b (rec (net_at F offs) s.on)) → o ≡ lands (bite c (rec (net_at F offs) s.on))
          → follow (tagged k) s.had (bite b (rec (net_at F offs) s.on)) ≡ follow (tagged k) s.had (bite c (rec (net_at F offs) s.on))
      by None p q = rw (bite_none b (rec (net_at F offs) s.on) p, bite_none c (rec (net_at F offs) s.on) q)
      by (Some x) p q =
          let r : follow (tagged k) s.had ((eat b, x) ∷ []) ≡ follow (tagged k) s.had ((eat c, x) ∷ []) = refl in
          ap (follow (tagged k) s.had) (bite_some (length offs) b x (rec (net_at F offs) s.on) (net_inside w s.on h) p).0 ∙ r
          ∙ sym (ap (follow (tagged k) s.had) (bite_some (length offs) c x (rec (net_at F offs) s.on) (net_inside w s.on h) q).0)

  each_same : (l : List (Thread Tags)) → Below (length offs) l → each (on_byte (tagged k) (net_at F offs) b) l ≡ each (on_byte (tagged k) (net_at F offs) c) l
  each_same [] h = refl
  each_same (s ∷ l) h = let p = byte_same s h.0 in let q = each_same l h.1 in λ i. p i ++ q i

module _ {F offs : List ℕ} (w : Formed F offs) (b : ℕ) (a : Alike (net_at F offs) (length offs) b) (l : Sit) (h : Below (length offs) l) where
  pub next_alike : next (net_at F offs) b l ≡ next (net_at F offs) (b - 1) l
  unfolding next step
  next_alike = ap (λ v. number (standing (net_at F offs) (close (tagged (length (registers l))) (net_at F offs) v))) (each_same w b (b - 1) a.same (length (registers l)) l h)

  pub origins_alike : origins (net_at F offs) b l ≡ origins (net_at F offs) (b - 1) l
  unfolding origins step
  origins_alike = ap (λ v. map (λ k. k.1) (registers (standing (net_at F offs) (close (tagged (length (registers l))) (net_at F offs) v)))) (each_same w b (b - 1) a.same (length (registers l)) l h)

  pub skipped : (found : List Sit) → once same_situation found (map (λ b. next (net_at F offs) b l) (bytes 0 (b + 1))) ≡ once same_situation found (map (λ b. next (net_at F offs) b l) (bytes 0 b))
  skipped found =
      let p = a.positive in
      let e : b ≡ b - 1 + 1 = omega arith in
      let last = once_snoc found (λ b. next (net_at F offs) b l) (b - 1) in
      let now = ap (λ n. once same_situation found (map (λ b. next (net_at F offs) b l) (bytes 0 n))) e ∙ last in
      once_snoc found (λ b. next (net_at F offs) b l) b ∙ (λ i. put same_situation (now i) (next_alike i)) ∙ twice (once same_situation found (map (λ b. next (net_at F offs) b l) (bytes 0 (b - 1)))) (next (net_at F offs) (b - 1) l) ∙ sym now
    where
      self : (x : Sit) → same_situation x x ≡ true
      self x = (situation_test x x).1 refl

      at_end : (f : List Sit) (x : Sit) → among same_situation x (f ++ (x ∷ [])) ≡ true
      at_end [] x = rw (self x)
      at_end (y ∷ f) x = rw (at_end f x) (or_true (same_situation x y))

      twice : (f : List Sit) (x : Sit) → put same_situation (put same_situation f x) x ≡ put same_situation f x
      twice f x = by (Bool-cases (among same_situation x f))
        where
          by : (among same_situation x f ≡ true) ⊎ (among same_situation x f ≡ false) → put same_situation (put same_situation f x) x ≡ put same_situation f x
          by (inl e) = rw (e, e)
          by (inr e) = let q : put same_situation f x ≡ f ++ (x ∷ []) = rw e in (let m : put same_situation (f ++ (x ∷ [])) x ≡ f ++ (x ∷ []) = rw (at_end f x) in ap (λ v. put same_situation v x) q ∙ m ∙ sym q)

-- the marks, once the records below r and of record r the bytes below b have been gone through
pub record Marks (A : Net) (t : List ℕ) (r b : ℕ) : Type 0 where
  pub size : length t ≡ 256
  pub start : get_or t 0 0 ≡ 1
  pub below : (k c : ℕ) → k < r → c < 256 → get_or t c 0 ≡ 0 → lands (bite c (rec A k)) ≡ lands (bite (c - 1) (rec A k))
  pub here : (c : ℕ) → c < b → get_or t c 0 ≡ 0 → lands (bite c (rec A r)) ≡ lands (bite (c - 1) (rec A r))

module _ (A : Net) (t : List ℕ) (r b : ℕ) (m : Marks A t r b) where
  -- byte b is marked
  pub marks_set : b < 256 → Marks A (set t b 1) r (b + 1)
  marks_set h =
      record {
        size = length-set t b 1 ∙ m.size;
        start = elim (cases_eq 0 b) [ inl e ↦ ap (λ v. get_or (set t b 1) v 0) e ∙ get_or-set_same t b 1 0 (omega (arith, m.size)) | inr n ↦ get_or-set_other t b 0 1 0 n ∙ m.start ];
        below = λ k c i j z. m.below k c i j (old c z).1;
        here = λ c i z. m.here c (omega (arith, (old c z).0)) (old c z).1;
      }
    where
      old : (c : ℕ) → get_or (set t b 1) c 0 ≡ 0 → (c ≡ b → ⊥) × (get_or t c 0 ≡ 0)
      old c z = elim (cases_eq c b) [
        | inl e ↦ absurd (omega (arith, get_or-set_same t b 1 0 (omega (arith, m.size)), ap (λ v. get_or (set t b 1) v 0) e))
        | inr n ↦ (n, sym (get_or-set_other t b c 1 0 n) ∙ z)
      ]

  -- record r treats byte b as the byte before it
  pub marks_skip : lands (bite b (rec A r)) ≡ lands (bite (b - 1) (rec A r)) → Marks A t r (b + 1)
  marks_skip e = record { size = m.size; start = m.start; below = m.below; here = λ c h z. elim (cases_eq c b) [ inl q ↦ rw q e | inr n ↦ m.here c (omega arith) z ] }
