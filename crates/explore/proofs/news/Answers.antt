-- `explore::news` meets its contract. Assumes nothing.
use Rattle.std.proofs.Common.{◌≡◌, ◌+◌, ◌-◌, sym, ◌∙◌, arith}
use Rattle.std.proofs.lemmas.Grind.{common_steps}
use Rattle.explore.proofs.Classes.{marks_set, marks_skip}
use Rattle.explore.proofs.news.Goals as goal
use Rattle.explore.proofs.news.Goals.{then-ne, else-ne}

pub loop-b-preserved : goal.loop-b-preserved
loop-b-preserved c =
    let q : c.loop-b.b + 1 - 1 ≡ c.loop-b.b = omega arith in
    elim c.if-ne.branch [
      | then-ne w ↦ rw (w.told-is, q) (marks_set _ _ _ _ c.loop-b.invariant.0 (omega arith), c.bite_at-next.ensures)
      | else-ne w ↦
          let h : c.bite_at-next.result ≡ c.loop-b.last = grind (arith, common_steps) in
          rw (w.told-is, q) (marks_skip _ _ _ _ c.loop-b.invariant.0 (sym c.bite_at-next.ensures ∙ h ∙ c.loop-b.invariant.1), c.bite_at-next.ensures)
    ]
