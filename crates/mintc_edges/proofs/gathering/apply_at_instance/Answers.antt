use Rattle.std.proofs.Common.{◌≡◌, Some, All, sym, subst}
use Rattle.std.specs.Result.{OnOk, IfErr}
use Rattle.mintc_text.specs.Stops.{StopsAt}
use Rattle.mintc_annotate_resolve.specs.Resolution.{Resolved, leaf_called, refusal_of, targets}
use Rattle.mintc_edges.specs.Claims.{IsApt, IsTakenIn}
use Rattle.mintc_edges.proofs.AptLaws.{apt-instance}
use Rattle.mintc_edges.proofs.gathering.apply_at_instance.Goals as goal

pub apply_resolved-requires-clause-apt : goal.apply_resolved-requires-clause-apt
apply_resolved-requires-clause-apt c =
    let h = c.args.lookup.now.hierarchy.now in
    let cells = c.args.lookup.now.cells.now in
    let s = c.args.delay.now.delay.subject in
    subst (λ (x : Resolved). All (IsApt h cells s) (targets x)) (sym c.in_ok-resolved.ensures.right) (apt-instance h cells c.args.path.now s (leaf_called h c.args.path.now))

pub returns-clause-ok : goal.returns-clause-ok
returns-clause-ok c =
    subst (λ (x : Resolved). OnOk c.apply_resolved.result (IsTakenIn c.args.lookup.now.hierarchy.now c.args.lookup.now.cells.now c.args.delay.now x c.args.told.now c.apply_resolved.new.told)) c.in_ok-resolved.ensures.right
    c.apply_resolved.ensures.ok

pub returns-clause-err : goal.returns-clause-err
returns-clause-err c = subst (λ (x : Resolved). IfErr c.apply_resolved.result (StopsAt (λ refused. refusal_of c.args.delay.now.delay.entry x ≡ Some refused))) c.in_ok-resolved.ensures.right c.apply_resolved.ensures.err
