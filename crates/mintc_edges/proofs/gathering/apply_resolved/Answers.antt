use Rattle.std.proofs.Common.{All, sym, subst}
use Rattle.mintc_annotate_resolve.specs.declared.targets.Resolved.{Resolved as Answer}
use Rattle.mintc_annotate_resolve.specs.Resolution.{targets}
use Rattle.mintc_annotate_resolve.specs.Targets.{resolved_of, AreThere}
use Rattle.mintc_edges.specs.Claims.{IsApt, IsTakenIn}
use Rattle.mintc_edges.proofs.gathering.apply_resolved.Goals as goal

pub apply_annotated-requires-clause-there : goal.apply_annotated-requires-clause-there
apply_annotated-requires-clause-there c = subst (λ (x : Answer). AreThere c.args.lookup.now.hierarchy.now x) c.in-Of.is c.requires.there

pub apply_annotated-requires-clause-apt : goal.apply_annotated-requires-clause-apt
apply_annotated-requires-clause-apt c =
    subst (λ (x : Answer). All (IsApt c.args.lookup.now.hierarchy.now c.args.lookup.now.cells.now c.args.delay.now.delay.subject) (targets (resolved_of x))) c.in-Of.is c.requires.apt

pub returns-in_ok-apply_annotated-in-Of-clause-ok : goal.returns-in_ok-apply_annotated-in-Of-clause-ok
returns-in_ok-apply_annotated-in-Of-clause-ok c =
    subst (λ (x : Answer). IsTakenIn c.args.lookup.now.hierarchy.now c.args.lookup.now.cells.now c.args.delay.now (resolved_of x) c.args.told.now c.apply_annotated.new.told) (sym c.in-Of.is) c.in_ok-apply_annotated-in-Of.ensures
