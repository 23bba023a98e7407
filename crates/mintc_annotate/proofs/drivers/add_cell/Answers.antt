use Rattle.std.proofs.Common.{◌≡◌, ◌∙◌, sym, subst, ap, length, ◌++◌, List, slice_index_or}
use Rattle.std.proofs.lemmas.List.{get_or_default}
use Rattle.mintc_annotate.specs.declared.searching.Drive.{Drive}
use Rattle.mintc_annotate_resolve.specs.Pins.{leaf_at, no_leaf}
use Rattle.mintc_annotate.specs.Searches.{AreDrivers}
use Rattle.mintc_annotate.proofs.SearchLaws.{clock_drives}
use Rattle.mintc_annotate.proofs.drivers.add_cell.Goals as goal

pub returns-in-Clock-clause-added : goal.returns-in-Clock-clause-added
returns-in-Clock-clause-added c =
    let at : leaf_at c.args.hierarchy.now c.args.number ≡ c.index-items-number.result =
    get_or_default c.args.hierarchy.now.leaves c.args.number no_leaf c.index-items-number.result c.requires.leaf ∙ ap (λ ls. slice_index_or ls c.args.number c.index-items-number.result) (sym c.items.ensures) ∙ sym c.index-items-number.is in
    let same = clock_drives c.args.hierarchy.now c.args.cells.now c.args.number c.index-items-number.result c.in-Clock.input c.in-Clock.output c.in-Clock.invert c.in-Clock.ignored c.items-in-Clock.result.now at
    (sym c.cell.ensures ∙ c.in-Clock.is) c.items-in-Clock.ensures in
    λ ds h. subst (λ (xs : List Drive). AreDrivers (ds ++ xs) (length c.args.table.now) c.add.new.table) (sym same) (c.add.ensures.added ds h)
