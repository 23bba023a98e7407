use Rattle.std.proofs.Common.{subst, sym}
use Rattle.mintc_timing.specs.Design.{Design}
use Rattle.mintc_timing.specs.Limits.{IsDesign, IsWithinLimits}
use Rattle.mintcx_answers.proofs.shown.system_from.Goals as goal

pub returns-clause-value : goal.returns-clause-value
returns-clause-value c =
    let system = c.in_ok-system.system in
    let same = c.in_ok-system.ensures.value in
    let kept = c.pairs-pairs.ensures.kept in
    record {
      same = same;
      accepted = c.systems_are_accepted.ensures c.args.limits.now system.flat system.order system.pairs (subst IsDesign (sym same) c.phases-phases.ensures.kept)
          (subst (λ (d : Design). IsWithinLimits c.args.limits.now d) (sym same) c.requires) kept c.in_ok-system.ensures.few;
      pairs = kept.extremes;
    }
