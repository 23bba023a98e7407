use Rattle.mintc_safe.proofs.SharedStandingLaws.{plain_stands}
use Rattle.mintc_safe.proofs.chain.plain_of.Goals as goal

pub returns : goal.returns
returns c =
    plain_stands c.args.system.now c.requires.design c.requires.kept c.args.link.now c.in_ok-member.member c.requires.link c.in_ok-member.ensures
