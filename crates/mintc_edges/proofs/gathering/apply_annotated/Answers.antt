use Rattle.std.proofs.Common.{[], All, Option, sym, subst}
use Rattle.std.proofs.lemmas.List.Elements.{All-head}
use Rattle.std.specs.Result.{OnOk}
use Rattle.mintc_annotate_resolve.specs.declared.targets.Resolved.TheVariants as answer
use Rattle.mintc_annotate_resolve.specs.declared.targets.Target.{Target as Annotated}
use Rattle.mintc_annotate_resolve.specs.Resolution.{of}
use Rattle.mintc_annotate_resolve.specs.Targets.{target_of, targets_of, AreThere}
use Rattle.mintc_edges.specs.Claims.{IsApt, IsTakenIn}
use Rattle.mintc_edges.proofs.TakenLaws.{taken-nothing}
use Rattle.mintc_edges.proofs.gathering.apply_annotated.Goals as goal

pub apply_target-requires-clause-there : goal.apply_target-requires-clause-there
apply_target-requires-clause-there c = subst (λ (o : Option Annotated). AreThere c.args.lookup.now.hierarchy.now (answer.Of o)) c.in-Some.is c.requires.there

pub apply_target-requires-clause-apt : goal.apply_target-requires-clause-apt
apply_target-requires-clause-apt c =
    let h = c.args.lookup.now.hierarchy.now in
    let cells = c.args.lookup.now.cells.now in
    let s = c.args.delay.now.delay.subject in
    All-head (IsApt h cells s) (target_of c.in-Some.target) [] (subst (λ (o : Option Annotated). All (IsApt h cells s) (targets_of o)) c.in-Some.is c.requires.apt)

pub returns-in-Some : goal.returns-in-Some
returns-in-Some c =
    subst (λ (o : Option Annotated). OnOk c.apply_target.result (IsTakenIn c.args.lookup.now.hierarchy.now c.args.lookup.now.cells.now c.args.delay.now (of (targets_of o)) c.args.told.now c.apply_target.new.told)) (sym c.in-Some.is) c.apply_target.ensures

pub returns-in-None : goal.returns-in-None
returns-in-None c =
    subst (λ (o : Option Annotated). IsTakenIn c.args.lookup.now.hierarchy.now c.args.lookup.now.cells.now c.args.delay.now (of (targets_of o)) c.args.told.now c.args.told.now) (sym c.in-None.is)
    (taken-nothing c.args.lookup.now.hierarchy.now c.args.lookup.now.cells.now c.args.delay.now c.args.told.now)
