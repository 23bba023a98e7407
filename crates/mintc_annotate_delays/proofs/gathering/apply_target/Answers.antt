use Rattle.std.proofs.Common.{sym, subst, w64, Option}
use Rattle.std.proofs.lemmas.Int.{to_z-of_z}
use Rattle.mintc_annotate_resolve.specs.declared.targets.Target.{Target as Annotated}
use Rattle.mintc_annotate_resolve.specs.Resolution.{of}
use Rattle.mintc_annotate_resolve.specs.Targets.{targets_of, target_of}
use Rattle.mintc_annotate_delays.specs.Ranges.{IsWidened}
use Rattle.mintc_annotate_delays.specs.Gathered.{IsTakenIn}
use Rattle.mintc_annotate_delays.proofs.GatherLaws.{taken_one}
use Rattle.mintc_annotate_delays.proofs.gathering.apply_target.Goals as goal

pub returns : goal.returns
returns c =
    let widen : IsWidened c.args.ranges.now c.widen.new.self (target_of c.in-Some.target) c.args.least c.args.greatest =
    rw (to_z-of_z w64 c.args.least c.ranges.least, to_z-of_z w64 c.args.greatest c.ranges.greatest) at c.in_ok-widen.ensures.widened in
    λ entry. subst (λ (x : Option Annotated). IsTakenIn entry (of (targets_of x)) c.args.least c.args.greatest c.args.ranges.now c.widen.new.self) (sym c.in-Some.is)
    (taken_one entry (target_of c.in-Some.target) c.args.least c.args.greatest c.args.ranges.now c.widen.new.self widen c.in_ok-widen.ensures.room)
