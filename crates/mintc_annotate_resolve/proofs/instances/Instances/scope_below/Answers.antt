use Rattle.std.proofs.Common.{◌≡◌, ◌++◌, ◌∷◌, ◌+◌, [], ℕ, List, take, sym, ap, ◌∙◌, append_assoc, append-nil}
use Rattle.std.proofs.lemmas.List.{take_more, take_all}
use Rattle.mintc_annotate_resolve.specs.Instances.{scope_called}
use Rattle.mintc_annotate_resolve.proofs.SharedPathLaws.{Path}
use Rattle.mintc_annotate_resolve.proofs.instances.Instances.scope_below.Goals as goal

pub loop-name-init : goal.loop-name-init
loop-name-init c = λ h base names index at. at ∙ ap (scope_called h) (sym (append-nil base))

pub loop-name-preserved : goal.loop-name-preserved
loop-name-preserved c =
    let path = c.args.path.now in
    let k = c.loop-name.name-index in
    let whole : take k path ++ c.bytes.result.now ∷ [] ≡ take (k + 1) path =
    ap (λ (x : List ℕ). take k path ++ x ∷ []) (c.bytes.ensures ∙ c.name-item.is) ∙ sym (take_more path k c.name-item.result c.loop-name-test.true) in
    λ h base names index at.
    c.in_ok-found.ensures h (base ++ take k path) names index (c.loop-name.invariant h base names index at)
    ∙ ap (scope_called h) (append_assoc base (take k path) (c.bytes.result.now ∷ []) ∙ ap (λ (p : Path). base ++ p) whole)

pub returns : goal.returns
returns c = λ h base names index at. c.loop-name.invariant h base names index at ∙ ap (λ (p : Path). scope_called h (base ++ p)) (take_all c.loop-name.name-index c.args.path.now c.loop-name-test.false)
