use Rattle.std.proofs.Common.{subst, Option, List, ℕ}
use Rattle.std.proofs.lemmas.Result.{err_from_is_err_and}
use Rattle.mintc_flatten_hierarchy.specs.Sources.{source_of}
use Rattle.mintc_flatten_hierarchy.specs.Refusals.{IsHierarchy, IsRefusal}
use Rattle.mintc_annotate.specs.Made.{IsAnnotated, IsAnnotateRefusal}
use Rattle.mintc_timing.specs.Limits.{IsWithinLimits}
use Rattle.mintc_build.specs.FilesDesign.{cell_text, IsDesignOver, IsRefusalOver, AreRead, IsHierarchyOf, of_delays, of_cells, of_clock, of_hierarchy, of_design}
use Rattle.mintc_build.proofs.SharedStopLaws.{StopsAt-mono, if_ok, if_err}
use Rattle.mintc_build.proofs.files.design_of_texts.Goals as goal

pub returns-in_err-said-clause-stop : goal.returns-in_err-said-clause-stop
returns-in_err-said-clause-stop c =
    let p = err_from_is_err_and c.from_residual-in_err-said.result c.from_residual-in_err-said.ensures.1 in
    rw (p.1, p.2) (StopsAt-mono c.in_err-said.field-0.0 (λ r h. of_delays c.in_ok-modules.modules c.in_ok-modules.ensures.value h) c.in_err-said.ensures)

pub returns-in_err-described-clause-stop : goal.returns-in_err-described-clause-stop
returns-in_err-described-clause-stop c =
    let p = err_from_is_err_and c.from_residual-in_err-described.result c.from_residual-in_err-described.ensures.1 in
    rw (p.1, p.2) (StopsAt-mono c.in_err-described.field-0.0 (λ r h. of_cells c.in_ok-modules.modules c.in_ok-said.said.items c.in_ok-modules.ensures.value c.in_ok-said.ensures h) c.in_err-described.ensures.stop)

pub returns-in_err-clocked-clause-stop : goal.returns-in_err-clocked-clause-stop
returns-in_err-clocked-clause-stop c =
    let p = err_from_is_err_and c.from_residual-in_err-clocked.result c.from_residual-in_err-clocked.ensures.1 in
    rw (p.1, p.2) (StopsAt-mono c.in_err-clocked.field-0.0
    (λ r h. of_clock c.in_ok-modules.modules c.in_ok-said.said.items c.in_ok-described.described c.in_ok-modules.ensures.value c.in_ok-said.ensures c.in_ok-described.ensures.value h) c.in_err-clocked.ensures)

pub returns-in_err-hierarchy-clause-stop : goal.returns-in_err-hierarchy-clause-stop
returns-in_err-hierarchy-clause-stop c =
    let read : AreRead c.args.netlist.now c.args.delays.now (cell_text c.args.cells) c.args.clock.now c.in_ok-modules.modules c.in_ok-said.said.items c.in_ok-described.described c.in_ok-clocked.clocked
    = record { netlist_read = c.in_ok-modules.ensures.value; delays_read = c.in_ok-said.ensures; cells_read = c.in_ok-described.ensures.value; clock_read = c.in_ok-clocked.ensures } in
    let p = err_from_is_err_and c.from_residual-in_err-hierarchy.result c.from_residual-in_err-hierarchy.ensures.1 in
    rw (p.1, p.2) (StopsAt-mono c.in_err-hierarchy.field-0.0
    (λ r h. of_hierarchy c.in_ok-modules.modules c.in_ok-said.said.items c.in_ok-described.described c.in_ok-clocked.clocked read
    (subst (λ (t : Option (List ℕ)). IsRefusal c.args.limits.now (source_of c.in_ok-described.described c.in_ok-modules.modules.modules) t r) c.as_ref.ensures.value h))
    c.in_err-hierarchy.ensures.stop)

pub annotate-requires-clause-hierarchy : goal.annotate-requires-clause-hierarchy
annotate-requires-clause-hierarchy c = (
  c.args.limits.now,
  c.in_ok-modules.modules,
  c.in_ok-clocked.clocked.top,
  c.in_ok-hierarchy.ensures.kept,
  c.in_ok-modules.ensures.ordinary,
  subst (λ (t : Option (List ℕ)). IsHierarchy c.args.limits.now (source_of c.in_ok-described.described c.in_ok-modules.modules.modules) t c.in_ok-hierarchy.hierarchy) c.as_ref.ensures.value c.in_ok-hierarchy.ensures.value,
)

pub returns-clause-value : goal.returns-clause-value
returns-clause-value c =
    let read : AreRead c.args.netlist.now c.args.delays.now (cell_text c.args.cells) c.args.clock.now c.in_ok-modules.modules c.in_ok-said.said.items c.in_ok-described.described c.in_ok-clocked.clocked
    = record { netlist_read = c.in_ok-modules.ensures.value; delays_read = c.in_ok-said.ensures; cells_read = c.in_ok-described.ensures.value; clock_read = c.in_ok-clocked.ensures } in
    let flat : IsHierarchyOf c.args.limits.now c.in_ok-modules.modules c.in_ok-described.described c.in_ok-clocked.clocked c.in_ok-hierarchy.hierarchy =
    subst (λ (t : Option (List ℕ)). IsHierarchy c.args.limits.now (source_of c.in_ok-described.described c.in_ok-modules.modules.modules) t c.in_ok-hierarchy.hierarchy) c.as_ref.ensures.value c.in_ok-hierarchy.ensures.value in
    if_ok (IsAnnotated c.args.limits.now c.in_ok-hierarchy.hierarchy c.in_ok-described.described c.in_ok-clocked.clocked c.in_ok-said.said.items)
    (IsDesignOver c.args.limits.now c.args.netlist.now c.args.delays.now (cell_text c.args.cells) c.args.clock.now)
    (IsAnnotateRefusal c.args.limits.now c.in_ok-hierarchy.hierarchy c.in_ok-described.described c.in_ok-clocked.clocked c.in_ok-said.said.items)
    c.annotate.result
    (λ design h. record { netlist = c.in_ok-modules.modules; delays = c.in_ok-said.said.items; cells = c.in_ok-described.described; clock = c.in_ok-clocked.clocked; hierarchy = c.in_ok-hierarchy.hierarchy; read = read; flat = flat; annotated = h })
    c.annotate.ensures

pub returns-clause-within : goal.returns-clause-within
returns-clause-within c =
    if_ok (IsAnnotated c.args.limits.now c.in_ok-hierarchy.hierarchy c.in_ok-described.described c.in_ok-clocked.clocked c.in_ok-said.said.items)
    (IsWithinLimits c.args.limits.now)
    (IsAnnotateRefusal c.args.limits.now c.in_ok-hierarchy.hierarchy c.in_ok-described.described c.in_ok-clocked.clocked c.in_ok-said.said.items)
    c.annotate.result (λ design h. c.unrefused_are_within.ensures c.args.limits.now design h.within) c.annotate.ensures

pub returns-clause-stop : goal.returns-clause-stop
returns-clause-stop c =
    let read : AreRead c.args.netlist.now c.args.delays.now (cell_text c.args.cells) c.args.clock.now c.in_ok-modules.modules c.in_ok-said.said.items c.in_ok-described.described c.in_ok-clocked.clocked
    = record { netlist_read = c.in_ok-modules.ensures.value; delays_read = c.in_ok-said.ensures; cells_read = c.in_ok-described.ensures.value; clock_read = c.in_ok-clocked.ensures } in
    let flat : IsHierarchyOf c.args.limits.now c.in_ok-modules.modules c.in_ok-described.described c.in_ok-clocked.clocked c.in_ok-hierarchy.hierarchy =
    subst (λ (t : Option (List ℕ)). IsHierarchy c.args.limits.now (source_of c.in_ok-described.described c.in_ok-modules.modules.modules) t c.in_ok-hierarchy.hierarchy) c.as_ref.ensures.value c.in_ok-hierarchy.ensures.value in
    if_err (IsAnnotated c.args.limits.now c.in_ok-hierarchy.hierarchy c.in_ok-described.described c.in_ok-clocked.clocked c.in_ok-said.said.items)
    (IsAnnotateRefusal c.args.limits.now c.in_ok-hierarchy.hierarchy c.in_ok-described.described c.in_ok-clocked.clocked c.in_ok-said.said.items)
    (IsRefusalOver c.args.limits.now c.args.netlist.now c.args.delays.now (cell_text c.args.cells) c.args.clock.now)
    c.annotate.result
    (λ r h. of_design c.in_ok-modules.modules c.in_ok-said.said.items c.in_ok-described.described c.in_ok-clocked.clocked c.in_ok-hierarchy.hierarchy read flat h)
    c.annotate.ensures
