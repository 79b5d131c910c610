-- Which line is printed, by the tests that choose it. Assumes nothing.
use mathlib.Core.Path.{◌≡◌, sym, ap, ap₂, ◌∙◌, subst}
use mathlib.Core.List.{List, ◌++◌}
use Prim.Native.Nat.{ℕ, ◌+◌, ◌≤◌, ◌<◌}
use native.Mathlib.Omega.{arith}
use lib.ListN.{length, length-take, take, drop, replicate, take-append-drop}
use Rattle.ground.specs.Lists.{each}
use Rattle.ground.proofs.Picks.{pick_lt, pick_not_lt, pick_eq, pick_ne}
use Rattle.card.specs.Table.{Table}
use Rattle.card.specs.Decode.{table_at}
use Rattle.card.specs.Run.{line_max, Told, tells}
use Rattle.pattern.specs.Maker.{Given, given, maker}
use Rattle.pattern.specs.Made.{Made}
use Rattle.build.specs.Build.{Answer, Done, build_of, Builds}
use Rattle.report.specs.Text.{Wrote}
use Rattle.report.specs.Lines.{refused_line, table_line, answer_line, over_line}
use Rattle.report.specs.Printed.{lines, told_line, record_line, built_lines, fault_line, made_lines, pattern_lines, report, printed, Prints}
use Rattle.report.specs.Steps.{line_length}
use Rattle.report.proofs.Splitting.{as_reported}

pub wrote_as : {a b : List ℕ} {at r : ℕ} {t u : List ℕ} → t ≡ u → Wrote a b at r t → Wrote a b at r u
wrote_as {a} {b} {at} {r} e w = subst (Wrote a b at r) e w

-- what is written from the start on stands at the front
pub wrote_front : {a b : List ℕ} {r : ℕ} {t : List ℕ} (s : List ℕ) → Wrote a b 0 r t → t ≡ printed s → Prints s a b r
wrote_front {a} {b} {r} {t} s w e =
    let n = w.next in
    let l : r ≡ length (take r b) = omega (arith, ap length w.before) in
    record { text = w.before ∙ e; beyond = w.beyond; inside = omega (arith, length-take r b); size = l }

module _ (t : Told) where
  pub told_refused : (t.code ≡ 0 → ⊥) → refused_line t.code ≡ told_line t
  unfolding told_line
  told_refused n = sym (pick_ne t.code 0 _ _ n)

  pub told_answer : t.code ≡ 0 → answer_line t.answer t.places ≡ told_line t
  unfolding told_line
  told_answer e = sym (pick_eq t.code 0 _ _ e)

module _ (T : Table) (w : List ℕ) where
  pub record_long : line_max < length w → refused_line 15 ≡ record_line T w
  unfolding record_line
  record_long h = sym (pick_lt line_max (length w) _ _ h)

  pub record_told : length w ≤ line_max → told_line (tells T w) ≡ record_line T w
  unfolding record_line
  record_told h = sym (pick_not_lt line_max (length w) _ _ h)

module _ (d : Done) (records : List (List ℕ)) where
  pub built_refused : (d.result.code ≡ 0 → ⊥) → refused_line d.result.code ≡ built_lines d records
  unfolding built_lines
  built_refused n = sym (pick_ne d.result.code 0 _ _ n)

  pub built_lines_lem : d.result.code ≡ 0
      → table_line d.result.length d.result.situations d.result.registers ++ each (record_line (table_at (take d.result.length d.out))) records ≡ built_lines d records
  unfolding built_lines
  built_lines_lem e = sym (pick_eq d.result.code 0 _ _ e)

module _ (g : Given) (records : List (List ℕ)) where
  pub made_refused : (g.answer.code ≡ 0 → ⊥) → fault_line g.answer.code g.answer.place ≡ made_lines g records
  unfolding made_lines
  made_refused n = sym (pick_ne g.answer.code 0 _ _ n)

  pub made_lines_lem : g.answer.code ≡ 0 → built_lines (build_of (take g.answer.length g.after) 65536 (replicate 65536 0)) records ≡ made_lines g records
  unfolding made_lines
  made_lines_lem e = sym (pick_eq g.answer.code 0 _ _ e)

-- what the builder gives of a pattern that is made
pub made_built : (g : Given) (records : List (List ℕ)) {file work out work' out' : List ℕ} {a : Answer} → file ≡ take g.answer.length g.after → length work ≡ 65536
    → out ≡ replicate 65536 0 → Builds file work out work' out' a → g.answer.code ≡ 0 → built_lines (record { result = a; out = out' }) records ≡ made_lines g records
made_built g records {file} {work} {out} {work'} {out'} {a} f l o b z =
    ap (λ d. built_lines d records)
    (ap₂ (λ r m. record { result = r; out = m }) b.result b.wrote
    ∙ ap (λ x. build_of x (length work) out) f
    ∙ ap (λ n. build_of (take g.answer.length g.after) n out) l
    ∙ ap (λ m. build_of (take g.answer.length g.after) 65536 m) o)
    ∙ made_lines_lem g records z

module _ (s : List ℕ) where
  pub printed_over : 65536 < length s → over_line ≡ printed s
  unfolding printed
  printed_over h = sym (pick_lt 65536 (length s) _ _ h)

  pub printed_report : length s ≤ 65536 → report (lines s) ≡ printed s
  unfolding printed
  printed_report h = sym (pick_not_lt 65536 (length s) _ _ h)

  -- the pattern is the line that ends at `end`, and the records follow it
  pub printed_lines : (end : ℕ) → end ≡ line_length s → length s ≤ 65536 → {m : Made} {net : List ℕ} → given m net ≡ maker (take end s) (replicate 2148 0)
      → made_lines (given m net) (lines (drop (end + 1) s)) ≡ printed s
  unfolding pattern_lines
  printed_lines end h l e =
      ap (λ g. made_lines g (lines (drop (end + 1) s))) e
      ∙ ap (λ k. pattern_lines (take k s) (lines (drop (k + 1) s))) h
      ∙ sym (as_reported s)
      ∙ printed_report l

-- the promise settles the count and every byte of the buffer
pub prints_one : {s a b c : List ℕ} {r q : ℕ} → Prints s a b r → Prints s a c q → (r ≡ q) × (b ≡ c)
prints_one {s} {a} {b} {c} {r} {q} x y =
    let e : r ≡ q = x.size ∙ ap length x.text ∙ sym (ap length y.text) ∙ sym y.size in (
      e,
      sym (take-append-drop r b)
          ∙ ap₂ ◌++◌ x.text x.beyond
          ∙ ap₂ ◌++◌ (sym y.text) (ap (λ n. drop n a) e ∙ sym y.beyond)
          ∙ take-append-drop q c,
    )
