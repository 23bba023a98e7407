use Rattle.std.proofs.Common.{◌++◌, ◌∙◌, subst, length, map, ℕ}
use Rattle.std.proofs.lemmas.List.{take_all}
use Rattle.mintc_annotate.specs.Phases.{join_drive}
use Rattle.mintc_annotate.specs.Searches.{AreDrivers}
use Rattle.mintc_annotate.proofs.SearchLaws.{Adds-then, Adds-at, joins_more}
use Rattle.mintc_annotate.proofs.drivers.add_joins.Goals as goal

pub loop-join-preserved : goal.loop-join-preserved
loop-join-preserved c =
    let size = c.loop-join.invariant.0 in
    let n : ℕ = length c.args.table.now in
    let added = Adds-at (length c.loop-join.table) n c.loop-join.table c.add.new.table _ size c.add.ensures.added in (
      c.add.ensures.size ∙ size,
      Adds-then n c.args.table.now c.loop-join.table c.add.new.table _ _ _ (joins_more c.args.joins.now c.loop-join.join-index _ c.loop-join-test.true) c.loop-join.invariant.1 added,
    )

pub returns-clause-added : goal.returns-clause-added
returns-clause-added c = λ ds h. subst (λ l. AreDrivers (ds ++ map join_drive l) (length c.args.table.now) c.loop-join.table) (take_all c.loop-join.join-index c.args.joins.now c.loop-join-test.false) (c.loop-join.invariant.1 ds h)
