use Rattle.std.proofs.Common.{◌≡◌, ◌-◌, ◌++◌, ◌∷◌, [], take, length, ap, ◌∙◌, append_assoc}
use Rattle.std.proofs.lemmas.Result.{IfOk-weaker}
use Rattle.mintc_annotate_resolve.specs.Resolution.{leaf_called}
use Rattle.mintc_annotate_resolve.proofs.SharedPathLaws.{Path, last_split}
use Rattle.mintc_annotate_resolve.proofs.instances.Instances.leaf_below.Goals as goal

pub returns : goal.returns
returns c =
    let path = c.args.path.now in
    let whole : take (length path - 1) path ++ c.bytes.result.now ∷ [] ≡ path = last_split path c.bytes.result.now c.index-path-last.result c.requires c.index-path-last.is c.bytes.ensures in
    IfOk-weaker c.leaf_in.result _ _ (λ o known h base names index at.
    known h (base ++ take (length path - 1) path) names index (c.in_ok-parent.ensures h base names index at)
    ∙ ap (leaf_called h) (append_assoc base (take (length path - 1) path) (c.bytes.result.now ∷ []) ∙ ap (λ (p : Path). base ++ p) whole)) c.leaf_in.ensures
