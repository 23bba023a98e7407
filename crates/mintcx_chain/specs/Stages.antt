-- The stages of a chain.
use Rattle.mintc_timing.specs.declared.link.LinkKind.{LinkKind}
use Rattle.mintc_timing.specs.Design.{Design}
use Rattle.mintc_certificate.specs.declared.members.Member.{Member}
use Rattle.mintc_certificate.specs.declared.members.Member.TheVariants as member
use Rattle.mintc_certificate.specs.Valid.{link_of}
use Rattle.mintcx_chain.specs.declared.stages.Stage.{Stage}
use Rattle.mintcx_chain.specs.declared.stages.Why.{Why}
use Rattle.mintcx_chain.specs.declared.stages.Why.TheVariants.{Rule, Reach}

-- why a member is there: data goes along a path, or the rule of its link's kind
abbrev pub why_of : LinkKind → Member → Why
why_of kind (member.Reach j l path) = Reach j l path
why_of kind m = Rule kind

-- the stage that a member stands for: its link, and why it is there
abbrev pub stage_of : Design → Member → Stage
stage_of design m =
    record {
      from = (link_of design m).from;
      to = (link_of design m).to;
      delay = (link_of design m).delay;
      cycles = (link_of design m).cycles;
      why = why_of (link_of design m).kind m;
    }
