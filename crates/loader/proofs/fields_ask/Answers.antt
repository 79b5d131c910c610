-- `loader::fields_ask` meets its contract: what the search of the eight finds. Assumes nothing.
use Prim.Native.Nat.{ℕ, ◌+◌, ◌-◌}
use Rattle.std.proofs.Common.{◌≡◌, ◌∙◌, sym, ap, subst, take, drop, rules, tests, arith, Fits, w64}
use Rattle.std.proofs.lemmas.Iterator.{YieldsList-from_slice}
use Rattle.std.proofs.lemmas.Iterator.Search.{any_from_yields_List}
use Rattle.loader.specs.Flow.{Says, FieldAsks}
use Rattle.loader.proofs.Walk.{reads_of, fields_say}
use Rattle.loader.proofs.fields_ask.Goals as goal

pub returns : goal.returns
returns c =
    let fit : Fits w64 c.args.m = c.ranges.m in
    let eight : c.args.at + 8 - c.args.at ≡ 8 = omega arith in
    subst (Says (FieldAsks c.args.s.now c.args.at c.args.m))
    (sym (any_from_yields_List (reads_of c.args.m) _ _ c.any.result c.any.ensures.ran
    (YieldsList-from_slice _ (c.iter.ensures.rest ∙ ap (λ (n : ℕ). take n (drop c.args.at c.args.s.now)) eight)) (λ x b q k. search (rules, tests))))
    (fields_say c.args.m fit.fits (take 8 (drop c.args.at c.args.s.now)))
