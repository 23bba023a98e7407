use Rattle.std.proofs.Common.{◌≡◌, ℤ, ap, ◌∙◌, cond, Some, w64}
use Rattle.std.proofs.lemmas.Int.{to_z-of_z}
use Rattle.mintc_annotate_resolve.specs.Resolution.{widened}
use Rattle.mintc_annotate_delays.specs.Ranges.{path_at, same_key}
use Rattle.mintc_annotate_delays.proofs.TableLaws.{at_key_is}
use Rattle.mintc_annotate_delays.proofs.ranges.widen_path.Goals as goal

pub returns : goal.returns
returns c =
    let range : c.widen_range-range.result ≡ widened c.args.least c.args.greatest (path_at c.args.paths.now c.args.key) =
    (rw (to_z-of_z w64 c.args.least c.ranges.least, to_z-of_z w64 c.args.greatest c.ranges.greatest) at c.widen_range-range.ensures) ∙ ap (widened c.args.least c.args.greatest) (c.copied.ensures ∙ c.get.ensures.value) in
    λ k. c.in_ok-insert.ensures.updates.0 k ∙ ap (λ (r : ℤ × ℤ). cond (same_key c.args.key k) (Some r) (path_at c.args.paths.now k)) range
    ∙ at_key_is c.args.paths.now c.args.key k c.args.least c.args.greatest
