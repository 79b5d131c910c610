use Prim.Native.Nat.{◌-◌, ◌/◌}
use native.Mathlib.Omega.{arith}
use Rattle.report.proofs.Writing.{put_none, put_small, put_more, digits_few}
use Rattle.report.proofs.+put_digits.Goals as goal

pub returns-then-k-eq0 : goal.returns-then-k-eq0
returns-then-k-eq0 t c = put_none _ _ _ _ c.if-k-eq0.true

pub returns-then-n-lt10 : goal.returns-then-n-lt10
returns-then-n-lt10 t c = put_small _ _ (λ e. omega arith) (omega arith) c.put_byte.ensures

pub put_byte-requires-2 : goal.put_byte-requires-2
put_byte-requires-2 t c = let f = digits_few (c.args.k - 1) (c.args.n / 10) in
    omega (arith, c.put_digits-end.ensures.size, c.put_digits-end.ensures.next, f)

pub returns : goal.returns
returns t c = put_more _ _ (λ e. omega arith) (omega arith) c.put_digits-end.ensures c.put_byte-2.ensures
