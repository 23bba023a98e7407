use Rattle.std.proofs.Common.{min, ap, ◌∙◌, sym, refl}
use Rattle.mintc_text.specs.declared.limits.TheConstants.{MOST_TOLD}
use Rattle.mintc_edges.proofs.CountLaws.{gate-counted, stored-counted}
use Rattle.mintc_edges.proofs.counting.arc_count.Goals as goal

pub returns-in-Gate : goal.returns-in-Gate
returns-in-Gate c =
    (rw (c.items.ensures, c.items-in-Gate.ensures) at c.gate_arcs.ensures)
    ∙ ap (λ k. min k MOST_TOLD) (gate-counted c.args.senses.now c.args.cells.now c.args.number c.in-Gate.inputs c.in-Gate.outputs c.in-Gate.min c.in-Gate.max (sym c.cell.ensures ∙ c.in-Gate.is))

pub returns-in-Latch : goal.returns-in-Latch
returns-in-Latch c =
    (rw c.items-in-Latch.ensures at c.stored_arcs.ensures)
    ∙ ap (λ k. min k MOST_TOLD) (stored-counted c.args.senses.now c.args.cells.now c.args.number _ (sym c.in-Latch.is ∙ c.cell.ensures) refl)

pub returns-in-Flop : goal.returns-in-Flop
returns-in-Flop c =
    (rw c.items-in-Flop.ensures at c.stored_arcs-in-Flop.ensures)
    ∙ ap (λ k. min k MOST_TOLD) (stored-counted c.args.senses.now c.args.cells.now c.args.number _ (sym c.in-Flop.is ∙ c.cell.ensures) refl)
