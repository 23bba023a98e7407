use Rattle.std.proofs.Common.{◌<◌, ◌≤◌, ℕ, ⊎_elim, inl, inr, arith}
use Rattle.mintc_paths_count.proofs.marks.wipe_rows.Goals as goal

pub returns-clause-others : goal.returns-clause-others
returns-clause-others c = λ row outside.
    c.loop-row.invariant.others row (⊎_elim (λ (before : row < c.args.first). inl before) (λ (behind : c.args.end ≤ row). inr (omega arith)) outside)
