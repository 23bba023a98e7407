use Rattle.std.proofs.Common.{◌∙◌, map, sym, ap}
use Rattle.std.specs.List.{range_with_len}
use Rattle.mintc_edges.specs.Numbers.{wider, widest}
use Rattle.mintc_edges.specs.Stored.{along_kept}
use Rattle.mintc_edges.proofs.StoredLaws.{widest-more}
use Rattle.mintc_edges.proofs.elements.paths_at.Goals as goal

pub loop-output-preserved : goal.loop-output-preserved
loop-output-preserved c =
    let f = along_kept c.args.apart.now.told.now c.args.apart.now.senses.now c.args.stored c.args.from c.args.edge in
    c.wider-found.ensures ∙ ap (λ v. wider v c.said_along.result) c.loop-output.invariant ∙ ap (wider (widest (map f (range_with_len 0 c.loop-output.output)))) c.said_along.ensures ∙ sym (widest-more f c.loop-output.output)
