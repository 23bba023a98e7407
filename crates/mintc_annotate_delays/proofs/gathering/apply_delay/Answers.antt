use Rattle.std.proofs.Common.{◌≡◌, Some, sym, ap, ◌∙◌, subst}
use Rattle.std.proofs.lemmas.Result.{err_from_is_err_and}
use Rattle.mintc_annotate_resolve.specs.Resolution.{Resolved, of_instance, leaf_called, resolved, refusal_of}
use Rattle.mintc_annotate_resolve.specs.Instances.{IsAt}
use Rattle.mintc_annotate_delays.specs.Groups.{path_of}
use Rattle.mintc_annotate_delays.specs.Gathered.{IsTakenIn}
use Rattle.mintc_annotate_resolve.proofs.SharedPathLaws.{Path}
use Rattle.mintc_annotate_delays.proofs.SharedLeafLaws.{stops_more}
use Rattle.mintc_annotate_delays.proofs.SharedDelayLaws.{path_resolved}
use Rattle.mintc_annotate_delays.proofs.gathering.apply_delay.Goals as goal

pub returns-in_err-apply_at_instance-in-Some-clause-err : goal.returns-in_err-apply_at_instance-in-Some-clause-err
returns-in_err-apply_at_instance-in-Some-clause-err c =
    let h = c.args.lookup.now.hierarchy.now in
    let cells = c.args.lookup.now.cells.now in
    let d = c.args.delay.now in
    let path = c.in_ok-next-in-Some.next.path.now in
    let at : path_of d.place ≡ Some path = c.in-Some.ensures ∙ ap Some (sym c.in_ok-next-in-Some.ensures.0) in
    let p = err_from_is_err_and c.from_residual-in_err-apply_at_instance-in-Some.result c.from_residual-in_err-apply_at_instance-in-Some.ensures.1 in
    rw (p.1, p.2) (stops_more (λ r. refusal_of d.entry (of_instance h cells path d.subject (leaf_called h path)) ≡ Some r) (λ r. refusal_of d.entry (resolved h cells d) ≡ Some r)
    (λ r known. ap (refusal_of d.entry) (sym (path_resolved h cells d path at)) ∙ known) c.in_err-apply_at_instance-in-Some.field-0.0 c.in_err-apply_at_instance-in-Some.ensures.err)

pub returns-in_ok-apply_at_instance-in-Some-clause-ok : goal.returns-in_ok-apply_at_instance-in-Some-clause-ok
returns-in_ok-apply_at_instance-in-Some-clause-ok c =
    let d = c.args.delay.now in
    let path = c.in_ok-next-in-Some.next.path.now in
    let at : path_of d.place ≡ Some path = c.in-Some.ensures ∙ ap Some (sym c.in_ok-next-in-Some.ensures.0) in
    subst (λ (x : Resolved). IsTakenIn d.entry x d.least d.greatest c.args.ranges.now c.apply_at_instance.new.ranges)
    (path_resolved c.args.lookup.now.hierarchy.now c.args.lookup.now.cells.now d path at) c.in_ok-apply_at_instance-in-Some.ensures.ok

pub returns-in_ok-apply_at_instance-in-Some-clause-stands : goal.returns-in_ok-apply_at_instance-in-Some-clause-stands
returns-in_ok-apply_at_instance-in-Some-clause-stands c =
    subst (λ (p : Path). IsAt c.args.lookup.now.hierarchy.now p c.in_ok-next-in-Some.next.instance) (sym c.in_ok-next-in-Some.ensures.0) c.in_ok-next-in-Some.ensures.1
