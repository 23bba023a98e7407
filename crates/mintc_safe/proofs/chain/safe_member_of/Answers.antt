use Rattle.std.proofs.Common.{IfOk, sym, subst}
use Rattle.mintc_timing.specs.declared.link.Link.{Link}
use Rattle.mintc_timing.specs.declared.link.LinkKind.TheVariants as kind
use Rattle.mintc_safe.specs.SafeOptimum.{StandsFor}
use Rattle.mintc_safe.proofs.SharedStandingLaws.{is_of_design, of_safe_kind}
use Rattle.mintc_safe.proofs.chain.safe_member_of.Goals as goal

pub hold_of-requires : goal.hold_of-requires
hold_of-requires c =
    let known = of_safe_kind c.args.system.now c.requires.design c.args.link.now (kind.Other c.in-Some.number) c.in-Some.ensures c.requires.link in
    record { number = known.0; held = known.1 }

pub plain_of-requires-clause-link : goal.plain_of-requires-clause-link
plain_of-requires-clause-link c = is_of_design c.args.system.now c.requires.design c.args.link.now c.in-None.ensures c.requires.link

pub returns-in-Some : goal.returns-in-Some
returns-in-Some c =
    let is = (of_safe_kind c.args.system.now c.requires.design c.args.link.now (kind.Other c.in-Some.number) c.in-Some.ensures c.requires.link).2 in
    subst (λ (k : Link). IfOk c.hold_of.result (StandsFor c.args.system.now k)) (sym is) c.hold_of.ensures
