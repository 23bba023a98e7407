use Rattle.std.proofs.Common.{List, length, sym, subst}
use Rattle.mintc_flatten_hierarchy.specs.declared.hierarchy.TopPort.{TopPort}
use Rattle.mintc_annotate_resolve.specs.Ports.{AreInside}
use Rattle.mintc_annotate_resolve.proofs.SharedPlaceLaws.{ports_inside}
use Rattle.mintc_edges.proofs.gathering.gather_told.Goals as goal

pub index_places-requires : goal.index_places-requires
index_places-requires c =
    subst (λ (ps : List TopPort). AreInside (length c.args.names.now) ps) (sym c.items-2.ensures)
    (ports_inside c.args.hierarchy.now c.args.cells.now c.args.names.now c.requires.shape c.requires.names)
