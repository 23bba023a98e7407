use Rattle.std.proofs.Common.{◌++◌, List, ℕ, ap, ◌∙◌, sym}
use Rattle.std.specs.Prelude.{flat_map}
use Rattle.std.specs.List.{range_with_len}
use Rattle.mintc_text.specs.Lines.{text_of}
use Rattle.mintcx_sdc.specs.Clocks.{clock_lines}
use Rattle.mintcx_sdc.proofs.WrittenLaws.{item_more}
use Rattle.mintcx_sdc.proofs.FirstLaws.{next_place}
use Rattle.mintcx_sdc.proofs.text.put_phases.Goals as goal

pub loop-at-preserved : goal.loop-at-preserved
loop-at-preserved c =
    let lines = clock_lines c.args.phases.now c.args.schedule.now in
    let at = c.loop-at.at in
    item_more lines c.args.lines.now c.loop-at.lines c.put_phase.new.lines (range_with_len 0 at) at c.loop-at.invariant c.in_ok-put_phase.ensures
    ∙ ap (λ (v : List ℕ). c.args.lines.now ++ text_of (flat_map lines v)) (sym (next_place at))
