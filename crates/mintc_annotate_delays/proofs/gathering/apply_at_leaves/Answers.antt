use Rattle.std.proofs.Common.{◌≡◌, Some, take, length, get_or, sym, ap, ◌∙◌, subst}
use Rattle.std.proofs.lemmas.Result.{err_from_is_err_and}
use Rattle.mintc_annotate_resolve.specs.Resolution.{Resolved, of_each, of_leaf, refusal_of}
use Rattle.mintc_annotate_resolve.specs.Targets.{resolved_of}
use Rattle.mintc_annotate_delays.specs.Gathered.{IsTakenIn}
use Rattle.mintc_annotate_delays.proofs.GatherLaws.{has_place, taken_both}
use Rattle.mintc_annotate_delays.proofs.SharedLeafLaws.{each_more, each_refused, stops_more}
use Rattle.mintc_annotate_delays.proofs.gathering.apply_at_leaves.Goals as goal

pub apply_resolved-requires : goal.apply_resolved-requires
apply_resolved-requires c =
    let h = c.args.lookup.now.hierarchy.now in
    has_place h c.loop-leaf.ranges c.at_leaf-resolved.result (c.loop-leaf.invariant.room (length h.inner) (length h.leaves) c.requires.room) c.at_leaf-resolved.ensures.there

pub loop-leaf-preserved : goal.loop-leaf-preserved
loop-leaf-preserved c =
    let h = c.args.lookup.now.hierarchy.now in
    let cells = c.args.lookup.now.cells.now in
    let d = c.args.delay.now in
    let k = c.loop-leaf.leaf-index in
    let one : Resolved = of_leaf h cells (get_or c.args.leaves.now k 0) d.subject in
    let here : IsTakenIn d.entry one d.least d.greatest c.loop-leaf.ranges c.apply_resolved.new.ranges =
    subst (λ (x : Resolved). IsTakenIn d.entry x d.least d.greatest c.loop-leaf.ranges c.apply_resolved.new.ranges) c.at_leaf-resolved.ensures.right c.in_ok-apply_resolved.ensures.ok in
    subst (λ (x : Resolved). IsTakenIn d.entry x d.least d.greatest c.args.ranges.now c.apply_resolved.new.ranges) (sym (each_more h cells d.subject c.args.leaves.now k 0 c.loop-leaf-test.true))
    (taken_both d.entry (of_each h cells d.subject (take k c.args.leaves.now)) one d.least d.greatest c.args.ranges.now c.loop-leaf.ranges c.apply_resolved.new.ranges c.loop-leaf.invariant here)

pub returns-in_err-apply_resolved-clause-err : goal.returns-in_err-apply_resolved-clause-err
returns-in_err-apply_resolved-clause-err c =
    let h = c.args.lookup.now.hierarchy.now in
    let cells = c.args.lookup.now.cells.now in
    let d = c.args.delay.now in
    let k = c.loop-leaf.leaf-index in
    let p = err_from_is_err_and c.from_residual.result c.from_residual.ensures.1 in
    rw (p.1, p.2) (stops_more (λ r. refusal_of d.entry (resolved_of c.at_leaf-resolved.result) ≡ Some r) (λ r. refusal_of d.entry (of_each h cells d.subject c.args.leaves.now) ≡ Some r)
    (λ r known. each_refused h cells d.subject c.args.leaves.now k 0 d.entry r c.loop-leaf-test.true c.loop-leaf.invariant.unrefused (ap (refusal_of d.entry) (sym c.at_leaf-resolved.ensures.right) ∙ known))
    c.in_err-apply_resolved.field-0.0 c.in_err-apply_resolved.ensures.err)
