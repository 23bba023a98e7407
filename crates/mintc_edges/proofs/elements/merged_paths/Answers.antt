use Rattle.std.proofs.Common.{◌≡◌, ◌∙◌, ℕ, ℤ, Option, map, sym, ap}
use Rattle.std.specs.List.{range_with_len}
use Rattle.mintc_edges.specs.Numbers.{wider, widest}
use Rattle.mintc_edges.specs.Spreads.{all_said}
use Rattle.mintc_edges.specs.Stored.{output_told}
use Rattle.mintc_edges.proofs.StoredLaws.{widest-more}
use Rattle.mintc_edges.proofs.elements.merged_paths.Goals as goal

pub loop-output-preserved : goal.loop-output-preserved
loop-output-preserved c =
    let f : ℕ → Option (ℤ × ℤ) = λ k. all_said (output_told c.args.apart.now.told.now c.args.stored c.args.from k) in
    let here : c.all.result ≡ all_said (output_told c.args.apart.now.told.now c.args.stored c.args.from c.loop-output.output) = c.all.ensures ∙ ap all_said c.path-spread.ensures in
    c.wider-found.ensures ∙ ap (λ v. wider v c.all.result) c.loop-output.invariant ∙ ap (wider (widest (map f (range_with_len 0 c.loop-output.output)))) here ∙ sym (widest-more f c.loop-output.output)
