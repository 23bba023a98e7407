use Rattle.std.proofs.Common.{◌≡◌, ◌<◌, ℕ, List, Some, None, length, get_or, sym, ap, ◌∙◌, subst, Vec, Global}
use Rattle.std.specs.Result.{OnOk, IfErr}
use Rattle.mintc_text.specs.Stops.{StopsAt}
use Rattle.mintc_cells.specs.Entries.{number_of}
use Rattle.mintc_annotate_resolve.specs.Resolution.{Resolved, of_each, of_every, refusal_of}
use Rattle.mintc_annotate_delays.specs.Groups.{leaves_with}
use Rattle.mintc_edges.specs.Claims.{IsTakenIn}
use Rattle.mintc_edges.proofs.TakenLaws.{taken-nothing}
use Rattle.mintc_annotate_delays.proofs.SharedGroupLaws.{found_cell, group_inside, every_found, every_missing}
use Rattle.mintc_edges.proofs.gathering.apply_at_cell_type.Goals as goal

pub apply_at_leaves-requires-clause-leaves : goal.apply_at_leaves-requires-clause-leaves
apply_at_leaves-requires-clause-leaves c =
    let h = c.args.lookup.now.hierarchy.now in
    let cells = c.args.lookup.now.cells.now in
    let found : number_of cells c.args.delay.now.delay.celltype ≡ Some c.in-Some.cell = ap (number_of cells) (sym c.bytes.ensures) ∙ sym c.in-Some.ensures in
    let group : c.deref.result.now ≡ leaves_with h c.in-Some.cell =
    c.deref.ensures.value ∙ ap (λ (v : Vec ℕ Global). v.items) c.index-groups-cell.is
    ∙ c.requires.groups.each c.in-Some.cell c.index-groups-cell.result (found_cell cells c.args.delay.now.delay.celltype c.in-Some.cell found).0 in
    subst (λ (ls : List ℕ). (k : ℕ) → k < length ls → get_or ls k 0 < length h.leaves) (sym group) (group_inside h c.in-Some.cell)

pub returns-in-Some : goal.returns-in-Some
returns-in-Some c =
    let h = c.args.lookup.now.hierarchy.now in
    let cells = c.args.lookup.now.cells.now in
    let d = c.args.delay.now in
    let found : number_of cells d.delay.celltype ≡ Some c.in-Some.cell = ap (number_of cells) (sym c.bytes.ensures) ∙ sym c.in-Some.ensures in
    let group : c.deref.result.now ≡ leaves_with h c.in-Some.cell =
    c.deref.ensures.value ∙ ap (λ (v : Vec ℕ Global). v.items) c.index-groups-cell.is ∙ c.requires.groups.each c.in-Some.cell c.index-groups-cell.result (found_cell cells d.delay.celltype c.in-Some.cell found).0 in
    let every : of_each h cells d.delay.subject c.deref.result.now ≡ of_every h cells d.delay.celltype d.delay.subject =
    ap (of_each h cells d.delay.subject) group ∙ every_found h cells d.delay.celltype d.delay.subject c.in-Some.cell c.requires.lookup.shape c.requires.cells found c.in_default.not-Interconnect in
    record {
      ok = subst (λ (x : Resolved). OnOk c.apply_at_leaves.result (IsTakenIn h cells d x c.args.told.now c.apply_at_leaves.new.told)) every c.apply_at_leaves.ensures.ok;
      err = subst (λ (x : Resolved). IfErr c.apply_at_leaves.result (StopsAt (λ refused. refusal_of d.delay.entry x ≡ Some refused))) every c.apply_at_leaves.ensures.err;
    }

pub returns-in-None : goal.returns-in-None
returns-in-None c =
    let h = c.args.lookup.now.hierarchy.now in
    let cells = c.args.lookup.now.cells.now in
    let d = c.args.delay.now in
    let missing : number_of cells d.delay.celltype ≡ None = ap (number_of cells) (sym c.bytes.ensures) ∙ sym c.in-None.ensures in
    record {
      ok = subst (λ (x : Resolved). IsTakenIn h cells d x c.args.told.now c.args.told.now) (every_missing h cells d.delay.celltype d.delay.subject c.requires.lookup.shape missing c.in_default.not-Interconnect) (taken-nothing h cells d c.args.told.now);
      err = tt;
    }
