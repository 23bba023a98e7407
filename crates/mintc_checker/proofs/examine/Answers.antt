use Rattle.std.proofs.Common.{sym}
use Rattle.std.proofs.lemmas.Result.{IfOk-weaker}
use Rattle.mintc_checker.proofs.examine.Goals as goal

pub returns-clause-optimal : goal.returns-clause-optimal
returns-clause-optimal c =
    IfOk-weaker c.examine_flat.result _ _ (λ v h valid. h valid c.args.system.now (sym c.flat.ensures.value) c.flat.ensures.kept.extremes) c.examine_flat.ensures.optimal
