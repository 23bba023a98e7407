use Rattle.std.proofs.Common.{◌≡◌, Some, take, length, get_or, All, sym, ap, ◌∙◌, subst}
use Rattle.std.proofs.lemmas.Result.{err_from_is_err_and}
use Rattle.mintc_annotate_resolve.specs.Resolution.{Resolved, of_each, of_leaf, refusal_of, targets}
use Rattle.mintc_annotate_resolve.specs.Targets.{resolved_of}
use Rattle.mintc_edges.specs.Claims.{IsApt, IsTakenIn}
use Rattle.mintc_edges.proofs.AptLaws.{apt-leaf}
use Rattle.mintc_annotate_delays.proofs.SharedLeafLaws.{each_more, each_refused, stops_more}
use Rattle.mintc_edges.proofs.TakenLaws.{taken-both, taken-nothing}
use Rattle.mintc_edges.proofs.gathering.apply_at_leaves.Goals as goal

pub loop-leaf-init : goal.loop-leaf-init
loop-leaf-init c = taken-nothing c.args.lookup.now.hierarchy.now c.args.lookup.now.cells.now c.args.delay.now c.args.told.now

pub apply_resolved-requires-clause-apt : goal.apply_resolved-requires-clause-apt
apply_resolved-requires-clause-apt c =
    let h = c.args.lookup.now.hierarchy.now in
    let cells = c.args.lookup.now.cells.now in
    let s = c.args.delay.now.delay.subject in
    subst (λ (x : Resolved). All (IsApt h cells s) (targets x)) (sym c.at_leaf-resolved.ensures.right) (apt-leaf h cells (get_or c.args.leaves.now c.loop-leaf.leaf-index 0) s)

pub apply_resolved-requires-clause-room : goal.apply_resolved-requires-clause-room
apply_resolved-requires-clause-room c =
    let h = c.args.lookup.now.hierarchy.now in
    c.loop-leaf.invariant.room (length h.inner) (length h.leaves) c.requires.room

pub loop-leaf-preserved : goal.loop-leaf-preserved
loop-leaf-preserved c =
    let h = c.args.lookup.now.hierarchy.now in
    let cells = c.args.lookup.now.cells.now in
    let d = c.args.delay.now in
    let k = c.loop-leaf.leaf-index in
    let one : Resolved = of_leaf h cells (get_or c.args.leaves.now k 0) d.delay.subject in
    let here : IsTakenIn h cells d one c.loop-leaf.told c.apply_resolved.new.told =
    subst (λ (x : Resolved). IsTakenIn h cells d x c.loop-leaf.told c.apply_resolved.new.told) c.at_leaf-resolved.ensures.right c.in_ok-apply_resolved.ensures.ok in
    subst (λ (x : Resolved). IsTakenIn h cells d x c.args.told.now c.apply_resolved.new.told) (sym (each_more h cells d.delay.subject c.args.leaves.now k 0 c.loop-leaf-test.true))
    (taken-both h cells d (of_each h cells d.delay.subject (take k c.args.leaves.now)) one c.args.told.now c.loop-leaf.told c.apply_resolved.new.told c.loop-leaf.invariant here)

pub returns-in_err-apply_resolved-clause-err : goal.returns-in_err-apply_resolved-clause-err
returns-in_err-apply_resolved-clause-err c =
    let h = c.args.lookup.now.hierarchy.now in
    let cells = c.args.lookup.now.cells.now in
    let d = c.args.delay.now.delay in
    let k = c.loop-leaf.leaf-index in
    let p = err_from_is_err_and c.from_residual.result c.from_residual.ensures.1 in
    rw (p.1, p.2) (stops_more (λ r. refusal_of d.entry (resolved_of c.at_leaf-resolved.result) ≡ Some r) (λ r. refusal_of d.entry (of_each h cells d.subject c.args.leaves.now) ≡ Some r)
    (λ r known. each_refused h cells d.subject c.args.leaves.now k 0 d.entry r c.loop-leaf-test.true c.loop-leaf.invariant.unrefused (ap (refusal_of d.entry) (sym c.at_leaf-resolved.ensures.right) ∙ known))
    c.in_err-apply_resolved.field-0.0 c.in_err-apply_resolved.ensures.err)
