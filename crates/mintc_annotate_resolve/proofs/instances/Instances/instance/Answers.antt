use Rattle.std.proofs.Common.{◌≡◌, ◌-◌, ◌++◌, ◌∷◌, ◌≤◌, [], Some, None, take, length, sym, ap, ◌∙◌, arith, subst}
use Rattle.std.proofs.lemmas.Bool.Decides.{nat_tests}
use Rattle.mintc_annotate_resolve.specs.Resolution.{leaf_called}
use Rattle.mintc_annotate_resolve.specs.Instances.{scope_called, IsAt}
use Rattle.mintc_annotate_resolve.proofs.SharedPathLaws.{Path, last_split, no_names}
use Rattle.mintc_annotate_resolve.proofs.SharedInstanceLaws.{at_top, top_called}
use Rattle.mintc_annotate_resolve.proofs.instances.Instances.instance.Goals as goal

pub returns-then-is_empty : goal.returns-then-is_empty
returns-then-is_empty c =
    let none : length c.args.path.now ≡ 0 = grind (arith, nat_tests) in
    λ h names some index. subst (λ (p : Path). IsAt h p (record { scope = Some 0; leaf = None })) (sym (no_names c.args.path.now none)) (at_top h some)

pub returns : goal.returns
returns c =
    let path = c.args.path.now in
    let some : 1 ≤ length path = grind (arith, nat_tests) in
    let whole : take (length path - 1) path ++ c.bytes-name.result.now ∷ [] ≡ path = last_split path c.bytes-name.result.now c.index-path-last.result some c.index-path-last.is c.bytes-name.ensures in
    λ h names top index.
    let parent = c.in_ok-parent.ensures h [] names index (sym (top_called h top)) in
    record {
      scope = c.in_ok-scope_in.ensures h (take (length path - 1) path) names index parent ∙ ap (scope_called h) whole;
      leaf = c.in_ok-leaf_in.ensures h (take (length path - 1) path) names index parent ∙ ap (leaf_called h) whole;
    }
