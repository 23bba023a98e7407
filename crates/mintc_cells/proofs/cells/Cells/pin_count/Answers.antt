use Rattle.std.proofs.Common.{ap, subst, length, ◌≤◌, arith}
use Rattle.mintc_cells.specs.Rules.{pins}
use Rattle.mintc_cells.specs.Entries.{AreKept, cell_at}
use Rattle.mintc_cells.proofs.SharedPinsLaws.{few_pins, kept_at}
use Rattle.mintc_cells.proofs.cells.Cells.pin_count.Goals as goal

pub overflow_cast-result : goal.overflow_cast-result
overflow_cast-result c =
    let kept : AreKept c.args.self.now = subst AreKept c.self.view_is c.self.invariant.2 in
    let few : length (pins (cell_at c.args.self.now c.args.at)) ≤ 200 = few_pins (cell_at c.args.self.now c.args.at) (kept_at c.args.self.now c.args.at kept c.requires) in
    let same = ap (λ cell. length (pins cell)) c.cell.ensures in
    omega (arith, few, same, c.pin_count.ensures)
