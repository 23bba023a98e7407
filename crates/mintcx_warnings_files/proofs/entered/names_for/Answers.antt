use Rattle.std.proofs.Common.{◌<◌, length}
use Rattle.std.proofs.lemmas.List.Elements.{All-weaker}
use Rattle.mintc_flatten_hierarchy.specs.Shape.{IsLeaf}
use Rattle.mintcx_warnings_files.proofs.entered.names_for.Goals as goal

pub inner_names-requires : goal.inner_names-requires
inner_names-requires c =
    let p = c.args.parts.now in
    let shape = c.hierarchies_are_in_shape.ensures p.cells p.hierarchy c.requires in
    record {
      parents = shape.parents;
      leaves = All-weaker (IsLeaf p.cells p.hierarchy) (λ l. l.scope < length p.hierarchy.scopes) (λ l k. k.scope) p.hierarchy.leaves shape.each_leaf;
      inner = shape.each_inner;
    }
