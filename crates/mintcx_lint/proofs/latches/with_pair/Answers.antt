use Rattle.mintcx_lint.proofs.TallyLaws.{inside_more, inside_more_to}
use Rattle.std.proofs.Common.{◌≡◌, ◌<◌, sym, subst}
use Rattle.mintc_timing.specs.declared.parts.Pair.{Pair}
use Rattle.mintcx_lint.proofs.latches.with_pair.Goals as goal

pub returns-clause-inside : goal.returns-clause-inside
returns-clause-inside c = λ count from to h.
    let is = c.unwrap_or.ensures in (
      subst (λ (p : Pair). p.from < count) (sym is) (inside_more c.args.tally.first c.args.pair count from to h),
      subst (λ (p : Pair). p.to < count) (sym is) (inside_more_to c.args.tally.first c.args.pair count from to h),
    )
