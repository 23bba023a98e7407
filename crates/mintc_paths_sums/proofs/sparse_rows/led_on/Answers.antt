use Rattle.std.proofs.Common.{◌∙◌, None, ap, sym, arith, w64}
use Rattle.std.specs.Int.{int_max, int_min}
use Rattle.std.proofs.lemmas.Int.{ints, to_z-of_z}
use Rattle.mintc_lanes.specs.Lanes.{lane_at, joined}
use Rattle.mintc_paths_sums.proofs.SharedNoSums.{none_at}
use Rattle.mintc_paths_sums.proofs.sparse_rows.led_on.Goals as goal

pub returns-clause-greatest : goal.returns-clause-greatest
returns-clause-greatest c = λ k low.
    let max = c.args.arc.max in
    let lane = lane_at c.args.others.now.greatest k in
    c.plus_row.ensures.lanes int_max k low ∙ ap (λ add. joined int_max None lane add) (to_z-of_z w64 max (omega (arith, ints, c.requires.max)))
    ∙ ap (λ own. joined int_max own lane max) (sym (none_at k low).0)

pub returns-clause-least : goal.returns-clause-least
returns-clause-least c = λ k low.
    let min = c.args.arc.min in
    let lane = lane_at c.args.others.now.least k in
    c.plus_row-2.ensures.lanes int_min k low ∙ ap (λ add. joined int_min None lane add) (to_z-of_z w64 min (omega (arith, ints, c.requires.min)))
    ∙ ap (λ own. joined int_min own lane min) (sym (none_at k low).1)
