use Rattle.std.proofs.Common.{◌≡◌, sym, ◌∙◌, subst}
use Rattle.mintc_annotate_resolve.specs.Instances.{IsAt}
use Rattle.mintc_annotate_resolve.proofs.SharedPathLaws.{Path, same_is}
use Rattle.mintc_annotate_delays.proofs.paths.instance_at.Goals as goal

pub returns-then-is_same_path : goal.returns-then-is_same_path
returns-then-is_same_path c =
    let same : c.args.last.path.now ≡ c.args.path.now = same_is c.args.last.path.now c.args.path.now (sym c.is_same_path.ensures ∙ c.if-is_same_path.true) in
    (same, subst (λ (p : Path). IsAt c.args.lookup.now.hierarchy.now p c.args.last.instance) same c.requires.last)
