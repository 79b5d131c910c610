-- A level that is written part after part. Assumes nothing.
use Prim.Native.Nat.{ℕ, ◌+◌, ◌-◌, ◌≤◌, ◌<◌}
use mathlib.Core.Path.{◌≡◌, refl, sym, ap, subst, ◌∙◌}
use mathlib.Core.List.{List, [], ◌++◌, append_assoc}
use mathlib.Core.Bool.{true, false}
use native.Mathlib.Omega.{arith}
use Rattle.std.specs.Prelude.{Ok, Err}
use lib.ListN.{length}
use Rattle.ground.specs.Lists.{Wrote}
use Rattle.ground.specs.Pick.{look}
use Rattle.ground.proofs.Stores.{wrote_none, wrote_then, wrote_length}
use Rattle.net.specs.Rec.{fork}
use Rattle.net.specs.File.{rec_bytes}
use Rattle.pattern.specs.Pat.{start_at}
use Rattle.pattern.specs.Pat.Pat.{Seq, Alt}
use Rattle.pattern.specs.Reader.{Lvl, alts, seq, piece, stops, read}
use Rattle.pattern.specs.Writing.{coded, Room}
use Rattle.pattern.specs.Measured.{Read, measured, seq_sum, rep_sum}
use Rattle.pattern.specs.declared.Fault.{Fault}
use Rattle.pattern.specs.declared.reading.Sum.{Sum}
use Rattle.pattern.proofs.Laws.{byte_of}
use Rattle.pattern.proofs.Steps.{inv, far, added, alts_before, seq_before}
use Rattle.pattern.proofs.EmitSteps.{Is, is_inv, sized_is, sized_of, alt_coded, alt_fork, alt_first, alt_second, seq_coded, seq_first, seq_second, room_same, room_moved, wrote_same, wrote_whole, wrote_empty, forked, below, alts_is_one, alts_is, seq_is_none, seq_is}

-- what is left of measures after those of a part
record Rest (m : Sum) (r : Read) (e : ℕ) (m' : Sum) : Type 0 where
  pub sum : Sum
  pub is : Ok (e, sum) ≡ r
  pub parts : m' ≡ seq_sum m sum

rest_of : (m : Sum) (r : Read) {e : ℕ} {m' : Sum} → Ok (e, m') ≡ added m r → Rest m r e m'
rest_of m (Ok x) {e = e} {m' = m'} h =
    let z : ◌≡◌ {A = ℕ × Sum} (e, m') (x.0, seq_sum m x.1) = cc in
    record { sum = x.1; is = ap (λ n. Ok (n, x.1)) (ap (λ y. y.0) z); parts = ap (λ y. y.1) z }
rest_of m (Err f) h = cc

-- A loop that writes a level from i on has come to j, with record k to be written at p: what it wrote and what is left make the whole.
pub record Sent (s : List ℕ) (l : Lvl) (d i n f o : ℕ) (b₀ : List ℕ) (last j k p : ℕ) (b : List ℕ) : Type 0 where
  pub after : i ≤ j
  pub within : j ≤ length s
  pub end : ℕ
  pub sum : Sum
  pub rest : Ok (end, sum) ≡ measured (read s l d j)
  pub count : k + sum.size ≡ last
  pub done : List ℕ
  pub wrote : Wrote b₀ b o p done
  pub whole : coded (read s l d i) n f ≡ done ++ coded (read s l d j) k f
  pub room : Room (read s l d j) k f p (length b)

pub sent_none : (s : List ℕ) (l : Lvl) (d i n f o : ℕ) (b : List ℕ) (last : ℕ) {e : ℕ} {m : Sum} → i ≤ length s → Ok (e, m) ≡ measured (read s l d i) → last ≡ n + m.size → Room (read s l d i) n f o (length b) → Sent s l d i n f o b last i n o b
sent_none s l d i n f o b last {e = e} {m = m} h q z r = record { after = omega arith; within = h; end = e; sum = m; rest = q; count = sym z; done = []; wrote = wrote_none b o; whole = refl; room = r }

module _ {s : List ℕ} {l : Lvl} {d i n f o : ℕ} {b₀ : List ℕ} {last j k p : ℕ} {b : List ℕ} (a : Sent s l d i n f o b₀ last j k p b) where
  -- what was measured as a whole is refused nowhere
  pub sent_whole : {e : Fault} → Err e ≡ measured (read s l d j) → ⊥
  sent_whole q = let z = q ∙ sym a.rest in cc

  -- the records' numbers are bytes
  pub sent_below : last < 256
  sent_below =
      let z = a.room.numbers in
      let y = sized_is (read s l d j) _ (is_inv (read s l d j) a.rest) ∙ sized_of (read s l d j) a.rest in
      let c = a.count in
      omega arith

  -- the last part written ends the whole
  sent_all : (p' : ℕ) (b' : List ℕ) → Wrote b b' p p' (coded (read s l d j) k f) → Wrote b₀ b' o p' (coded (read s l d i) n f)
  sent_all p' b' w = wrote_whole _ _ _ _ _ _ a.whole (wrote_then a.done _ a.wrote w)

module _ {s : List ℕ} {d i n f o : ℕ} {b₀ : List ℕ} {last j k p : ℕ} {b : List ℕ} (a : Sent s seq d i n f o b₀ last j k p b) where
  pub seq_ends : stops (look s j) ≡ true → Wrote b₀ b o p (coded (read s seq d i) n f)
  seq_ends t = sent_all a p b (wrote_empty b p k f (read s seq d j) (seq_is_none s d j a.within t))

  module _ (go : stops (look s j) ≡ false) {e : ℕ} {m : Sum} (q : Ok (e, m) ≡ measured (read s piece d j)) where
    to_come : Rest m (measured (read s seq d e)) a.end a.sum
    to_come = rest_of m _ (a.rest ∙ seq_before s d j a.within go q)

    counted : a.sum.size ≡ m.size + to_come.sum.size
    counted = ap (λ x. x.size) to_come.parts

    pub seq_next : k + m.size ≤ last
    seq_next = let c = a.count in let g = counted in omega arith

    left_size : last - (k + m.size) ≡ to_come.sum.size
    left_size = let c = a.count in let g = counted in omega arith

    first_is : Is (read s piece d j) (inv (read s piece d j) q).pat
    first_is = is_inv (read s piece d j) q

    rest_is : Is (read s seq d e) (inv (read s seq d e) to_come.is).pat
    rest_is = is_inv (read s seq d e) to_come.is

    both_is : Is (read s seq d j) (Seq (inv (read s piece d j) q).pat (inv (read s seq d e) to_come.is).pat)
    both_is = seq_is s d j a.within go q to_come.is

    module _ (x : ℕ) (z : x ≡ start_at (last - (k + m.size)) (k + m.size) f) where
      follows : x ≡ start_at to_come.sum.size (k + m.size) f
      follows = z ∙ ap (λ c. start_at c (k + m.size) f) left_size

      pub seq_room : Room (read s piece d j) k x p (length b)
      seq_room =
          subst (λ (y : ℕ). Room (read s piece d j) k y p (length b)) (sym follows)
          (seq_first (read s seq d j) (read s piece d j) (read s seq d e) _ _ first_is rest_is k f _ _ (sized_of (read s piece d j) q) (sized_of (read s seq d e) to_come.is) both_is p (length b) a.room)

      pub seq_sent : (p' : ℕ) (b' : List ℕ) → Wrote b b' p p' (coded (read s piece d j) k x) → Sent s seq d i n f o b₀ last e (k + m.size) p' b'
      seq_sent p' b' w =
          let v = subst (λ (y : ℕ). Wrote b b' p p' (coded (read s piece d j) k y)) follows w in
          let g = far s d j a.within piece q in
          let u = a.after in
          record {
            after = omega arith;
            within = g.1;
            end = a.end;
            sum = to_come.sum;
            rest = to_come.is;
            count = let c = a.count in let y = counted in omega arith;
            done = a.done ++ coded (read s piece d j) k (start_at to_come.sum.size (k + m.size) f);
            wrote = wrote_then a.done _ a.wrote v;
            whole =
                a.whole
                ∙ ap (λ c. a.done ++ c) (seq_coded (read s seq d j) (read s piece d j) (read s seq d e) _ _ first_is rest_is k f _ _ (sized_of (read s piece d j) q) (sized_of (read s seq d e) to_come.is) both_is)
                ∙ sym (append_assoc a.done _ _);
            room =
                room_moved (read s seq d e) (k + m.size) f _ _ _ _ (sym v.on) (sym (wrote_length _ v))
                (seq_second (read s seq d j) (read s piece d j) (read s seq d e) _ _ first_is rest_is k f _ _ (sized_of (read s piece d j) q) (sized_of (read s seq d e) to_come.is) both_is p (length b) a.room);
          }

module _ {s : List ℕ} {d i n f o : ℕ} {b₀ : List ℕ} {last j k p : ℕ} {b : List ℕ} (a : Sent s alts d i n f o b₀ last j k p b) {e : ℕ} {m : Sum} (q : Ok (e, m) ≡ measured (read s seq d j)) where
  one_is : Is (read s seq d j) (inv (read s seq d j) q).pat
  one_is = is_inv (read s seq d j) q

  -- the last alternative
  module _ (no : look s e ≡ 124 → ⊥) where
    pub alts_last : Room (read s seq d j) k f p (length b)
    alts_last = room_same (read s alts d j) (read s seq d j) _ k f p (length b) (alts_is_one s d j a.within q no) one_is a.room

    pub alts_end : (p' : ℕ) (b' : List ℕ) → Wrote b b' p p' (coded (read s seq d j) k f) → Wrote b₀ b' o p' (coded (read s alts d i) n f)
    alts_end p' b' w = sent_all a p' b' (wrote_same b b' p p' (read s alts d j) (read s seq d j) _ k f (alts_is_one s d j a.within q no) one_is w)

  -- an alternative that others follow
  module _ (bar : look s e ≡ 124) where
    to_follow : Rest (rep_sum m) (measured (read s alts d (e + 1))) a.end a.sum
    to_follow = rest_of (rep_sum m) _ (a.rest ∙ alts_before s d j a.within q bar)

    summed : a.sum.size ≡ m.size + 1 + to_follow.sum.size
    summed = ap (λ x. x.size) to_follow.parts

    pub alts_next : k + 1 + m.size ≤ last
    alts_next = let c = a.count in let g = summed in omega arith

    others_size : last - (k + 1 + m.size) ≡ to_follow.sum.size
    others_size = let c = a.count in let g = summed in omega arith

    others_is : Is (read s alts d (e + 1)) (inv (read s alts d (e + 1)) to_follow.is).pat
    others_is = is_inv (read s alts d (e + 1)) to_follow.is

    all_is : Is (read s alts d j) (Alt (inv (read s seq d j) q).pat (inv (read s alts d (e + 1)) to_follow.is).pat)
    all_is = alts_is s d j a.within q bar to_follow.is

    module _ (x y : ℕ) (ex : x ≡ start_at m.size (k + 1) f) (ey : y ≡ start_at (last - (k + 1 + m.size)) (k + 1 + m.size) f) where
      second : y ≡ start_at to_follow.sum.size (k + 1 + m.size) f
      second = ey ∙ ap (λ c. start_at c (k + 1 + m.size) f) others_size

      pub alts_fork : (p + 3 ≤ length b) × (x < 256) × (y < 256)
      alts_fork =
          let g = alt_fork (read s alts d j) (read s seq d j) (read s alts d (e + 1)) _ _ one_is others_is k f _ _ (sized_of (read s seq d j) q) (sized_of (read s alts d (e + 1)) to_follow.is) all_is p (length b) a.room in
          (g.0, below _ _ 256 ex g.1, below _ _ 256 second g.2)

      module _ (p₁ : ℕ) (b₁ : List ℕ) (w₁ : Wrote b b₁ p p₁ (rec_bytes (fork x y))) where
        pub alts_room : Room (read s seq d j) (k + 1) f p₁ (length b₁)
        alts_room =
            room_moved (read s seq d j) (k + 1) f _ _ _ _ (sym w₁.on) (sym (wrote_length _ w₁))
            (alt_first (read s alts d j) (read s seq d j) (read s alts d (e + 1)) _ _ one_is others_is k f _ _ (sized_of (read s seq d j) q) (sized_of (read s alts d (e + 1)) to_follow.is) all_is p (length b) a.room)

        pub alts_sent : (p₂ : ℕ) (b₂ : List ℕ) → Wrote b₁ b₂ p₁ p₂ (coded (read s seq d j) (k + 1) f) → Sent s alts d i n f o b₀ last (e + 1) (k + 1 + m.size) p₂ b₂
        alts_sent p₂ b₂ w₂ =
            let v = wrote_then _ _ (forked _ _ _ _ _ _ _ _ ex second w₁) w₂ in
            let g = far s d j a.within seq q in
            let u = a.after in
            let t = byte_of s e 124 (omega arith) bar in
            record {
              after = omega arith;
              within = omega arith;
              end = a.end;
              sum = to_follow.sum;
              rest = to_follow.is;
              count = let c = a.count in let h = summed in omega arith;
              done = a.done ++ (rec_bytes (fork (start_at m.size (k + 1) f) (start_at to_follow.sum.size (k + 1 + m.size) f)) ++ coded (read s seq d j) (k + 1) f);
              wrote = wrote_then a.done _ a.wrote v;
              whole =
                  a.whole
                  ∙ ap (λ c. a.done ++ c) (alt_coded (read s alts d j) (read s seq d j) (read s alts d (e + 1)) _ _ one_is others_is k f _ _ (sized_of (read s seq d j) q) (sized_of (read s alts d (e + 1)) to_follow.is) all_is)
                  ∙ sym (append_assoc a.done _ _);
              room =
                  room_moved (read s alts d (e + 1)) (k + 1 + m.size) f _ _ _ _ (sym (w₂.on ∙ ap (λ c. c + length (coded (read s seq d j) (k + 1) f)) w₁.on)) (sym (wrote_length _ v))
                  (alt_second (read s alts d j) (read s seq d j) (read s alts d (e + 1)) _ _ one_is others_is k f _ _ (sized_of (read s seq d j) q) (sized_of (read s alts d (e + 1)) to_follow.is) all_is p (length b) a.room);
            }
