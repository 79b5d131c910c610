-- `ride::Mount::ride_rest` meets its contract: the invariant is `Going`. Assumes nothing.
use native.Mathlib.Omega.{arith}
use Prim.Native.Nat.{◌+◌}
use mathlib.Core.Path.{◌≡◌, refl, ◌∙◌}
use lib.IntN.{pos}
use mir.Syntax.{w16}
use mir.ValLaws.{to_z-of_z}
use Rattle.ground.proofs.Places.{place_fits}
use Rattle.ride.proofs.Lines.{limit_is}
use Rattle.ride.proofs.Riding.{went_on, went_round, going_ends, going_stay, going_astray, going_one, going_obeyed, going_missed}
use Rattle.ride.proofs.Mount.ride_rest.Goals as goal
use Rattle.ride.proofs.Mount.ride_rest.Goals.{then-e-row+then-e-lt-LISTED, then-next-row+else-limit-onward, else-next-row, then-e-row+else-e-lt-LISTED+else-not-obey, else-e-row}

pub returns-then-limit-onward : goal.returns-then-limit-onward
returns-then-limit-onward c = (going_astray (limit_is c.args.self.now.fits) c.loop-i.invariant _ c.loop-i-test.true c.from.ensures refl c.if-limit-onward.true, tt)

pub returns-then-not-obey : goal.returns-then-not-obey
returns-then-not-obey c = (
  going_missed (limit_is c.args.self.now.fits) c.loop-i.invariant _ c.loop-i-test.true c.from.ensures refl {there = c.if-next-row.row}
      (elim c.if-next-row.branch [
        | then-next-row+else-limit-onward v ↦ went_on c.loop-i.invariant.standing _ v.if-limit-onward.false v.row-is
        | else-next-row v ↦ went_round c.loop-i.invariant.standing _ v.if-next-row.false v.row-is
      ])
      c.if-not-obey.ensures refl,
  tt,
)

pub loop-i-preserved : goal.loop-i-preserved
loop-i-preserved c = elim c.if-e-row.branch [
  | then-e-row+then-e-lt-LISTED w ↦
      let place = c.loop-i.i + 1 in
      let v : w.held.result ≡ pos place = w.held.ensures in
      rw w.row-is
      (going_one (limit_is c.args.self.now.fits) c.loop-i.invariant _ c.loop-i-test.true c.from.ensures refl
      (elim w.if-next-row.branch [
        | then-next-row+else-limit-onward v ↦ went_on c.loop-i.invariant.standing _ v.if-limit-onward.false v.row-is
        | else-next-row v ↦ went_round c.loop-i.invariant.standing _ v.if-next-row.false v.row-is
      ])
      w.if-e-lt-LISTED.true (w.bank-is ∙ rw (v, to_z-of_z w16 (pos place) (place_fits place (omega (arith, c.requires.short)))) refl))
  | then-e-row+else-e-lt-LISTED+else-not-obey w ↦
      rw (w.bank-is, w.row-is)
      (going_obeyed (limit_is c.args.self.now.fits) c.loop-i.invariant _ c.loop-i-test.true c.from.ensures refl
      (elim w.if-next-row.branch [
        | then-next-row+else-limit-onward v ↦ went_on c.loop-i.invariant.standing _ v.if-limit-onward.false v.row-is
        | else-next-row v ↦ went_round c.loop-i.invariant.standing _ v.if-next-row.false v.row-is
      ])
      w.obey.ensures w.if-not-obey.false)
  | else-e-row w ↦ rw (w.bank-is, w.row-is) (going_stay (limit_is c.args.self.now.fits) c.loop-i.invariant _ c.loop-i-test.true c.from.ensures refl w.if-e-row.false)
]

pub returns : goal.returns
returns c = (going_ends (limit_is c.args.self.now.fits) c.loop-i.invariant c.loop-i-test.false, c.loop-i.invariant.standing)
