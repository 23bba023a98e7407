use Rattle.std.proofs.Common.{◌≡◌, ◌-◌, true, option_to_list, sym, subst}
use Rattle.mintc_liberty_cell.specs.declared.parts.Parts.{Parts}
use Rattle.mintc_liberty_cell.specs.Meaning.{are_pins}
use Rattle.mintc_liberty_cell.specs.Seen.{pins_seen}
use Rattle.mintc_liberty_cell.specs.Held.{held}
use Rattle.mintc_liberty_tokens.proofs.SharedPassingLaws.{if-some}
use Rattle.mintc_liberty_cell.proofs.SharedCountLaws.{CountedIf, counted, the-counts}
use Rattle.mintc_liberty_cell.proofs.cells.cell_of.Goals as goal

pub if_within_rules-requires : goal.if_within_rules-requires
if_within_rules-requires c =
    let parts = c.in-Some.parts in
    let held_now = held (c.args.room - 1) parts in
    let are : are_pins (pins_seen parts.pins.items) ≡ true =
    if-some (λ (p : Parts). are_pins (pins_seen p.pins.items) ≡ true) c.in_ok-parts.field-0 parts c.in-Some.is c.in_ok-parts.ensures.pins in
    the-counts c.in_ok-cell_by-in-Some.field-0 (subst CountedIf (sym c.in_ok-cell_by-in-Some.ensures) (counted held_now.pins (option_to_list held_now.keeper) are))
