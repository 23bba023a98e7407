use Rattle.std.proofs.Common.{ap, ◌∙◌, subst}
use Rattle.mintc_annotate_resolve.specs.Resolution.{of_instance}
use Rattle.mintc_annotate_resolve.specs.Targets.{IsResolved}
use Rattle.mintc_annotate_resolve.proofs.SharedResolutionLaws.{leaf_there, other_at}
use Rattle.mintc_annotate_resolve.proofs.resolving.Lookup.at_instance.Goals as goal

pub at_leaf_of-requires : goal.at_leaf_of-requires
at_leaf_of-requires c = record { lookup = c.requires.lookup; leaf = leaf_there c.args.self.now.hierarchy.now c.args.path.now c.args.instance.leaf c.requires.instance.leaf }

pub returns-in_default : goal.returns-in_default
returns-in_default c =
    let h = c.args.self.now.hierarchy.now in
    let cells = c.args.self.now.cells.now in
    let path = c.args.path.now in
    subst (IsResolved h c.at_leaf_of.result)
    (other_at h cells path c.args.subject.now c.args.instance.leaf c.in_default.not-Interconnect ∙ ap (of_instance h cells path c.args.subject.now) c.requires.instance.leaf) c.at_leaf_of.ensures
