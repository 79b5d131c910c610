-- Atoms that are no groups: what reading one says of the text. Assumes nothing.
use Prim.Native.Nat.{ℕ, ◌+◌, ◌-◌, ◌<◌}
use mathlib.Core.Path.{◌≡◌, refl, sym, ap, subst, ◌∙◌}
use mathlib.Core.List.{List, [], ◌∷◌, ◌++◌, append_assoc}
use mathlib.Core.Bool.{Bool, true, false}
use native.Mathlib.Omega.{arith}
use lib.ListN.{length, drop, length-append}
use lib.Seq.{drop-cons}
use lib.Dec.{eqb, leb}
use borrow.Author.Tests.{eqb-true, eqb-false, leb-true}
use Rattle.ground.specs.Pick.{look}
use Rattle.ground.specs.Lists.{Bytes}
use Rattle.ground.proofs.Tests.{true_false, either_no, no_either, both_yes}
use Rattle.ground.proofs.Every.{byte_at, bytes_from}
use Rattle.ground.proofs.Lists.{follows}
use Rattle.pattern.specs.Sets.{Item, fresh, bad, set_on, Scanned, listing, wrong, scan}
use Rattle.pattern.specs.Reader.{atom, stops, repeating, barred, on_byte, set_read, set_from, set_at, on_set, on_dot, tagged, is_tag, on_mark, escaped, on_esc, single}
use Rattle.pattern.specs.Grammar as grammar
use Rattle.pattern.specs.Grammar.{special}
use Rattle.pattern.proofs.Laws.{in_text, byte_of, false_in}
use Rattle.grammar.proofs.SetRun.{set_run, got, Going, Stuck}
use Rattle.grammar.proofs.SetHeard.{Sofar}
use Rattle.grammar.proofs.SetPlace.{Listed, Broken, scan_listing, scan_wrong}
use Rattle.grammar.proofs.Machine.{at, esc, mark, inset, dead, into, again, box_on, tag_end, s0, s8, on, on_last, inset_run, stand, box_run}
use Rattle.grammar.proofs.Runs.{inset_low, box_low}
use Rattle.grammar.proofs.Parts.{Part, no_bytes, one_byte, two_bytes, byte_then, this_byte, part_of}
use Rattle.grammar.proofs.Tracked.{Alive, Final, Track}

-- where the machine stands within a set without `^`
stand_alive : (k : ℕ) (w : List ℕ) → Going (set_run fresh w) → Sofar w (set_run fresh w) (got fresh w) → Alive (stand k w)
stand_alive k [] g h = tt
stand_alive k (c ∷ w) g h = (c ∷ w, got fresh (c ∷ w), g, h)

stand_short : (k : ℕ) (w : List ℕ) → Final (stand k w) → ⊥
stand_short k [] f = f
stand_short k (c ∷ w) f = f

stand_stuck : (k : ℕ) (w : List ℕ) (c : ℕ) → (w ≡ [] → eqb c 94 ≡ false) → set_on (set_run fresh w) c ≡ bad → on (stand k w) c ≡ dead
stand_stuck k [] c n e = ap (λ x. box_on x k c) (n refl) ∙ ap (into k) e
stand_stuck k (a ∷ w) c n e = ap (into k) e

-- the byte at the place of the fault
stuck_byte : (s : List ℕ) (i q : ℕ) → (h : Broken (drop i s) i q) → q < length s → set_on (set_run fresh h.word) (look s q) ≡ bad
stuck_byte s i q h l =
    let r : h.rest ≡ drop q s = sym (follows s h.word h.rest i h.parts) ∙ ap (λ k. drop k s) (sym h.place) in
    subst (Stuck (set_run fresh h.word)) (r ∙ drop-cons s q 256 l) h.stuck

-- the text of a set that is found
set_part : (s : List ℕ) (i e : ℕ) (ys : List Item) → (h : Listed (drop i s) i e ys) → Part s i e (h.items ++ 93 ∷ [])
set_part s i e ys h =
    part_of s i e (h.items ++ 93 ∷ []) h.rest (h.parts ∙ sym (append_assoc h.items (93 ∷ []) h.rest))
    (let n = length-append h.items (93 ∷ []) in let m = h.place in omega arith)

broken_part : (s : List ℕ) (i q : ℕ) → (h : Broken (drop i s) i q) → Part s i q h.word
broken_part s i q h = part_of s i q h.word h.rest h.parts h.place

module _ (s : List ℕ) (bs : Bytes s) (i d : ℕ) where
  -- "A set is `[`, perhaps `^`, one or more items, `]`."
  caret_track : look s i ≡ 91 → look s (i + 1) ≡ 94 → (r : Scanned) → scan (drop (i + 2) s) (i + 2) fresh [] ≡ r → Track s atom d i (set_read true r)
  caret_track o c (listing e xs) t =
      let h = scan_listing (drop (i + 2) s) (bytes_from (i + 2) s bs) (i + 2) e xs t in
      let two : i + 2 ≡ i + 1 + 1 = omega arith in
      record {
        word = 91 ∷ 94 ∷ (h.items ++ 93 ∷ []);
        spells = grammar.set (grammar.others h.spelled);
        part = byte_then s i e 91 (94 ∷ (h.items ++ 93 ∷ [])) (omega arith) o (byte_then s (i + 1) e 94 (h.items ++ 93 ∷ []) (omega arith) c (subst (λ (j : ℕ). Part s j e (h.items ++ 93 ∷ [])) two (set_part s (i + 2) e xs h)));
        after = tt;
        fit = tt;
      }
  caret_track o c (wrong q) t = λ k b free.
      let h = scan_wrong (drop (i + 2) s) (bytes_from (i + 2) s bs) (i + 2) q t in
      let two : i + 2 ≡ i + 1 + 1 = omega arith in
      record {
        word = 91 ∷ 94 ∷ h.word;
        part = byte_then s i q 91 (94 ∷ h.word) (omega arith) o (byte_then s (i + 1) q 94 h.word (omega arith) c (subst (λ (j : ℕ). Part s j q h.word) two (broken_part s (i + 2) q h)));
        stood = inset k (set_run fresh h.word);
        gets = inset_run k h.word fresh h.going;
        alive = (h.word, got fresh h.word, h.going, h.sofar);
        stuck = λ l. ap (into k) (stuck_byte s (i + 2) q h l);
        short = λ e f. f;
        low = λ n r. (omega (arith, r.few, r.sum), (omega (arith, r.few, r.sum), inset_low n k h.word fresh (omega (arith, r.few, r.sum)) h.going));
      }

  plain_track : look s i ≡ 91 → eqb (look s (i + 1)) 94 ≡ false → (r : Scanned) → scan (drop (i + 1) s) (i + 1) fresh [] ≡ r → Track s atom d i (set_read false r)
  plain_track o c (listing e xs) t =
      let h = scan_listing (drop (i + 1) s) (bytes_from (i + 1) s bs) (i + 1) e xs t in
      record {
        word = 91 ∷ (h.items ++ 93 ∷ []);
        spells = grammar.set (grammar.these h.spelled);
        part = byte_then s i e 91 (h.items ++ 93 ∷ []) (omega arith) o (set_part s (i + 1) e xs h);
        after = tt;
        fit = tt;
      }
  plain_track o c (wrong q) t = λ k b free.
      let h = scan_wrong (drop (i + 1) s) (bytes_from (i + 1) s bs) (i + 1) q t in
      record {
        word = 91 ∷ h.word;
        part = byte_then s i q 91 h.word (omega arith) o (broken_part s (i + 1) q h);
        stood = stand k h.word;
        gets = box_run k h.word h.going;
        alive = stand_alive k h.word h.going h.sofar;
        stuck = λ l. stand_stuck k h.word (look s q) (λ e. let m = h.place in let n = ap length e in let j : i + 1 ≡ q = omega arith in ap (λ x. eqb (look s x) 94) (sym j) ∙ c) (stuck_byte s (i + 1) q h l);
        short = λ e f. stand_short k h.word f;
        low = λ n r. (omega (arith, r.few, r.sum), box_low n k h.word (omega (arith, r.few, r.sum)) h.going);
      }

  set_track : (b : Bool) → look s i ≡ 91 → eqb (look s (i + 1)) 94 ≡ b → Track s atom d i (set_from b s i)
  set_track true o e = caret_track o (eqb-true _ _ e) _ refl
  set_track false o e = plain_track o e _ refl

  set_at_track : look s i ≡ 91 → Track s atom d i (set_at s i)
  unfolding set_at
  set_at_track o = set_track _ o refl

  -- the tests so far
  record Not : Type 0 where
    goes_on : stops (look s i) ≡ false
    no_group : eqb (look s i) 40 ≡ false
    no_esc : eqb (look s i) 92 ≡ false
    no_mark : eqb (look s i) 64 ≡ false
    no_dot : eqb (look s i) 46 ≡ false
    no_set : eqb (look s i) 91 ≡ false

  at_barred : (k : ℕ) (b : Bool) → (b ≡ true → repeating (look s i) ≡ false) → barred (look s i) ≡ true → Not → on (at k b) (look s i) ≡ dead
  at_barred k b free e n = go (repeating (look s i)) b refl refl
    where
      go : (r b' : Bool) → repeating (look s i) ≡ r → b ≡ b' → on (at k b) (look s i) ≡ dead
      go true true h g = absurd (true_false (sym h ∙ free g))
      go true false h g = ap (λ x. s0 x b (look s i) k) h ∙ ap (λ x. again x k) g
      go false b' h g =
          let a = either_no (eqb (look s i) 124) _ n.goes_on in
          let a' = either_no (eqb (look s i) 41) _ a.1 in
          on_last (look s i) k b h a.0 a'.0 n.no_group n.no_esc n.no_mark n.no_dot n.no_set ∙ ap (λ x. s8 x k) e

  ordinary_at : barred (look s i) ≡ false → Not → special (look s i) ≡ false
  ordinary_at e n =
      let c = look s i in
      let a = either_no (stops c) _ e in
      let st = either_no (eqb c 124) _ a.0 in
      let st' = either_no (eqb c 41) _ st.1 in
      let re = either_no (repeating c) _ a.1 in
      let r1 = either_no (eqb c 42) _ re.0 in
      let r2 = either_no (eqb c 43) _ r1.1 in
      no_either (eqb c 124) _ st.0 (no_either (eqb c 42) _ r1.0 (no_either (eqb c 43) _ r2.0 (no_either (eqb c 63) _ r2.1 (no_either (eqb c 40) _ n.no_group (no_either (eqb c 41) _ st'.0 (no_either (eqb c 91) _ n.no_set (no_either (eqb c 93) _ re.1 (no_either (eqb c 46) _ n.no_dot (no_either (eqb c 64) _ n.no_mark (no_either (eqb c 92) _ n.no_esc refl))))))))))

  byte_track : (b : Bool) → barred (look s i) ≡ b → Not → Track s atom d i (on_byte b i (look s i))
  byte_track true e n = λ k b free. record {
    word = [];
    part = no_bytes s i;
    stood = at k b;
    gets = refl;
    alive = tt;
    stuck = λ h. at_barred k b free e n;
    short = λ q f. let l = false_in s i stops refl n.goes_on in omega arith;
    low = λ m r. tt;
  }
  byte_track false e n =
      let l = false_in s i barred refl e in
      record {
        word = look s i ∷ [];
        spells = grammar.byte (record { byte = byte_at s i bs l; plain = ordinary_at e n });
        part = one_byte s i l;
        after = tt;
        fit = tt;
      }

  bracket_track : (b : Bool) → eqb (look s i) 91 ≡ b → stops (look s i) ≡ false → eqb (look s i) 40 ≡ false → eqb (look s i) 92 ≡ false → eqb (look s i) 64 ≡ false → eqb (look s i) 46 ≡ false → Track s atom d i (on_set b s i (look s i))
  bracket_track true e st n₄₀ n₉₂ n₆₄ n₄₆ = set_at_track (eqb-true _ _ e)
  bracket_track false e st n₄₀ n₉₂ n₆₄ n₄₆ = byte_track _ refl (record { goes_on = st; no_group = n₄₀; no_esc = n₉₂; no_mark = n₆₄; no_dot = n₄₆; no_set = e })

  dot_track : (b : Bool) → eqb (look s i) 46 ≡ b → stops (look s i) ≡ false → eqb (look s i) 40 ≡ false → eqb (look s i) 92 ≡ false → eqb (look s i) 64 ≡ false → Track s atom d i (on_dot b s i (look s i))
  dot_track true e st n₄₀ n₉₂ n₆₄ = record { word = 46 ∷ []; spells = grammar.any; part = this_byte s i 46 (omega arith) (eqb-true _ _ e); after = tt; fit = tt }
  dot_track false e st n₄₀ n₉₂ n₆₄ = bracket_track _ refl st n₄₀ n₉₂ n₆₄ e

  tag_track : (b : Bool) → look s i ≡ 64 → is_tag (look s (i + 1)) ≡ b → Track s atom d i (tagged b i (look s (i + 1)))
  tag_track true e t =
      let l = byte_of s i 64 (omega arith) e in
      let l' = in_text s (i + 1) (λ x. true_false (sym t ∙ ap is_tag x)) in
      let r = both_yes (leb 48 (look s (i + 1))) (leb (look s (i + 1)) 55) t in
      let lo = leb-true 48 (look s (i + 1)) r.0 in
      let hi = leb-true (look s (i + 1)) 55 r.1 in
      record {
        word = 64 ∷ (look s (i + 1) - 48 + 48) ∷ [];
        spells = grammar.tag {t = look s (i + 1) - 48} (omega arith);
        part = subst (λ (c : ℕ). Part s i (i + 2) (64 ∷ c ∷ [])) (omega arith) (subst (λ (c : ℕ). Part s i (i + 2) (c ∷ look s (i + 1) ∷ [])) e (two_bytes s i l l'));
        after = tt;
        fit = tt;
      }
  tag_track false e t = λ k b free. record {
    word = 64 ∷ [];
    part = this_byte s i 64 (omega arith) e;
    stood = mark k;
    gets = refl;
    alive = tt;
    stuck = λ h. ap (λ x. tag_end x k) t;
    short = λ q f. f;
    low = λ n r. (omega (arith, r.few, r.sum), tt);
  }

  mark_track : (b : Bool) → eqb (look s i) 64 ≡ b → stops (look s i) ≡ false → eqb (look s i) 40 ≡ false → eqb (look s i) 92 ≡ false → Track s atom d i (on_mark b s i (look s i))
  mark_track true e st n₄₀ n₉₂ = tag_track _ (eqb-true _ _ e) refl
  mark_track false e st n₄₀ n₉₂ = dot_track _ refl st n₄₀ n₉₂ e

  escaped_track : (b : Bool) → look s i ≡ 92 → eqb (look s (i + 1)) 256 ≡ b → Track s atom d i (escaped b i (look s (i + 1)))
  escaped_track true e t = λ k b free. record {
    word = 92 ∷ [];
    part = this_byte s i 92 (omega arith) e;
    stood = esc k;
    gets = refl;
    alive = tt;
    stuck = λ h. let x = byte_at s (i + 1) bs h in let y = eqb-true (look s (i + 1)) 256 t in absurd (omega arith);
    short = λ q f. f;
    low = λ n r. (omega (arith, r.few, r.sum), tt);
  }
  escaped_track false e t =
      let l = byte_of s i 92 (omega arith) e in
      let l' = in_text s (i + 1) (eqb-false _ _ t) in
      record {
        word = 92 ∷ look s (i + 1) ∷ [];
        spells = grammar.escaped (byte_at s (i + 1) bs l');
        part = subst (λ (c : ℕ). Part s i (i + 2) (c ∷ look s (i + 1) ∷ [])) e (two_bytes s i l l');
        after = tt;
        fit = tt;
      }

  esc_track : (b : Bool) → eqb (look s i) 92 ≡ b → stops (look s i) ≡ false → eqb (look s i) 40 ≡ false → Track s atom d i (on_esc b s i (look s i))
  esc_track true e st n₄₀ = escaped_track _ (eqb-true _ _ e) refl
  esc_track false e st n₄₀ = mark_track _ refl st n₄₀ e

  pub single_track : stops (look s i) ≡ false → eqb (look s i) 40 ≡ false → Track s atom d i (single s i)
  unfolding single
  single_track st n₄₀ = esc_track _ refl st n₄₀
