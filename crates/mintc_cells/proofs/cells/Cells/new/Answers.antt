use Rattle.std.proofs.Common.{ap, ◌∙◌, ◌++◌}
use Rattle.mintc_cells.proofs.CellsLaws.{added, few, kept_front, rising_front, seen}
use Rattle.mintc_cells.proofs.cells.Cells.new.Goals as goal

pub loop-name-preserved : goal.loop-name-preserved
loop-name-preserved c =
    let new = c.in_ok-put.ensures in
    added c.args.entries.items c.next.new.self.rest.items c.loop-name.map.entries c.put.new.map.entries new.0 c.in-Some.name c.in-Some.cell
    (c.loop-name.invariant ∙ ap (λ v. seen c.loop-name.map.entries ++ v) c.in-Some.ensures.steps.0) c.requires.ascending new.1 new.2

pub loop-name-preserved-in_ok-put : goal.loop-name-preserved-in_ok-put
loop-name-preserved-in_ok-put c =
    let new = c.in_ok-put.ensures in
    added c.args.entries.items c.next.new.self.rest.items c.loop-name.map.entries c.put.new.map.entries new.0 c.in-Some.name c.in-Some.cell
    (c.loop-name.invariant ∙ ap (λ v. seen c.loop-name.map.entries ++ v) c.in-Some.ensures.steps.0) c.requires.ascending new.1 new.2

pub invariant_of-result : goal.invariant_of-result
invariant_of-result c = (
  few c.args.entries.items c.loop-name.name-iterator.rest.items c.loop-name.map.entries c.loop-name.invariant c.requires.few,
  rising_front c.args.entries.items c.loop-name.name-iterator.rest.items c.loop-name.map.entries c.loop-name.invariant c.requires.ascending,
  kept_front c.args.entries.items c.loop-name.name-iterator.rest.items c.loop-name.map.entries c.loop-name.invariant c.requires.each,
)
