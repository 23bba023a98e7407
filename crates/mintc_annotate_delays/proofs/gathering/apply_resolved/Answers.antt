use Rattle.std.proofs.Common.{sym, subst, w64, SFits, rules}
use Rattle.std.proofs.lemmas.Int.{to_z-of_z}
use Rattle.mintc_annotate_resolve.specs.declared.targets.Resolved.{Resolved as Answer}
use Rattle.mintc_annotate_resolve.specs.Resolution.{of}
use Rattle.mintc_annotate_resolve.specs.Targets.{targets_of, resolved_of}
use Rattle.mintc_annotate_delays.specs.Gathered.{IsTakenIn}
use Rattle.mintc_annotate_delays.proofs.gathering.apply_resolved.Goals as goal

pub returns-in_ok-apply_target-in-Of-clause-ok : goal.returns-in_ok-apply_target-in-Of-clause-ok
returns-in_ok-apply_target-in-Of-clause-ok c =
    let d = c.args.delay.now in
    let low : SFits w64 d.least = search rules in
    let high : SFits w64 d.greatest = search rules in
    let known : IsTakenIn d.entry (of (targets_of c.in-Of.annotated)) d.least d.greatest c.args.ranges.now c.apply_target.new.ranges =
    rw (to_z-of_z w64 d.least low, to_z-of_z w64 d.greatest high) at (c.in_ok-apply_target-in-Of.ensures d.entry) in
    subst (λ (x : Answer). IsTakenIn d.entry (resolved_of x) d.least d.greatest c.args.ranges.now c.apply_target.new.ranges) (sym c.in-Of.is) known
