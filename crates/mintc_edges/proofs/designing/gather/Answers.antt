use Rattle.std.proofs.Common.{◌≡◌, ◌∙◌, List, All, sym, subst}
use Rattle.std.proofs.lemmas.Result.{err_from_is_err_and}
use Rattle.mintc_flatten_hierarchy.specs.declared.hierarchy.Hierarchy.{Hierarchy}
use Rattle.mintc_sdf_edges.specs.declared.delays.EdgeDelay.{EdgeDelay}
use Rattle.mintc_sdf_edges.specs.Laws.{HasEdges}
use Rattle.mintc_annotate_resolve.specs.Pins.{all_names}
use Rattle.mintc_annotate.specs.Clocked.{AreClocked}
use Rattle.mintc_annotate.specs.Phases.{phase_spots}
use Rattle.mintc_edges.proofs.GatheredLaws.{stops-port, stops-resolving, stops-phase}
use Rattle.mintc_edges.proofs.designing.gather.Goals as goal

pub gather_told-requires-clause-edges : goal.gather_told-requires-clause-edges
gather_told-requires-clause-edges c = subst (λ (l : List EdgeDelay). All HasEdges l) (sym c.items-2.ensures) c.requires.edges

pub returns-in_err-clocked : goal.returns-in_err-clocked
returns-in_err-clocked c =
    let names : c.deref.result.now ≡ all_names c.args.hierarchy.now = c.deref.ensures.value ∙ c.in_ok-names.ensures in
    let p = err_from_is_err_and c.from_residual-in_err-clocked.result c.from_residual-in_err-clocked.ensures.1 in
    rw (p.1, p.2) (stops-port c.args.hierarchy.now c.args.cells.now c.args.clock.now c.args.delays.now.items c.in_err-clocked.field-0.0 (rw (names, c.items.ensures) at c.in_err-clocked.ensures))

pub returns-in_err-told : goal.returns-in_err-told
returns-in_err-told c =
    let h : Hierarchy = c.args.hierarchy.now in
    let names : c.deref.result.now ≡ all_names h = c.deref.ensures.value ∙ c.in_ok-names.ensures in
    let clocked : AreClocked (all_names h) h.ports c.args.clock.now c.in_ok-clocked.clocked = rw (names, c.items.ensures) at c.in_ok-clocked.ensures in
    let p = err_from_is_err_and c.from_residual-in_err-told.result c.from_residual-in_err-told.ensures.1 in
    rw (p.1, p.2) (stops-resolving h c.args.cells.now c.args.clock.now c.args.delays.now.items c.in_err-told.field-0.0 clocked.there (rw c.items-2.ensures at c.in_err-told.ensures))

pub returns-in_err-phases : goal.returns-in_err-phases
returns-in_err-phases c =
    let h : Hierarchy = c.args.hierarchy.now in
    let names : c.deref.result.now ≡ all_names h = c.deref.ensures.value ∙ c.in_ok-names.ensures in
    let clocked : AreClocked (all_names h) h.ports c.args.clock.now c.in_ok-clocked.clocked = rw (names, c.items.ensures) at c.in_ok-clocked.ensures in
    let spots : c.deref-3.result.now ≡ phase_spots h c.args.clock.now = c.deref-3.ensures.value ∙ clocked.spots in
    let p = err_from_is_err_and c.from_residual-in_err-phases.result c.from_residual-in_err-phases.ensures.1 in
    rw (p.1, p.2) (stops-phase h c.args.cells.now c.args.clock.now c.args.delays.now.items c.in_err-phases.field-0.0 clocked.there (rw c.items-2.ensures at c.in_ok-told.ensures.1) (rw spots at c.in_err-phases.ensures))
