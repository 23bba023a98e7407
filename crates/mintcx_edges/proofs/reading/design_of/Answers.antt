use Rattle.std.proofs.Common.{ℕ, List, Option, inr, subst}
use Rattle.mintc_flatten_hierarchy.specs.Sources.{source_of}
use Rattle.mintc_flatten_hierarchy.specs.Refusals.{IsHierarchy}
use Rattle.mintc_build.specs.FilesDesign.{IsHierarchyOf}
use Rattle.mintc_edges.specs.Numbers.{sense_of}
use Rattle.mintc_edges.specs.Apart.{IsEdgeDesign, IsEdgeRefusal}
use Rattle.mintcx_edges.specs.Seen.{IsReadDesign, IsReadRefusal}
use Rattle.mintcx_edges.proofs.StopLaws.{both_weaker}
use Rattle.mintcx_edges.proofs.reading.design_of.Goals as goal

pub returns : goal.returns
returns c =
    let most = c.args.limits.now in
    let netlist = c.args.read.now.netlist in
    let cells = c.args.read.now.cells in
    let senses = c.args.read.now.senses in
    let clock = c.args.read.now.clock in
    let delays = c.args.read.now.delays.items in
    let h = c.in_ok-hierarchy.hierarchy in
    let flat : IsHierarchyOf most netlist cells clock h =
    subst (λ (t : Option (List ℕ)). IsHierarchy most (source_of cells netlist.modules) t h) c.as_ref-top.ensures.value c.in_ok-hierarchy.ensures.value in
    both_weaker (IsEdgeDesign most h cells (sense_of senses cells) clock delays) (IsReadDesign most netlist cells senses clock delays)
    (IsEdgeRefusal most h cells (sense_of senses cells) clock delays) (IsReadRefusal most netlist cells senses clock delays)
    c.edges.result (λ design made. (h, flat, made)) (λ r fault. inr (h, flat, fault)) c.edges.ensures
