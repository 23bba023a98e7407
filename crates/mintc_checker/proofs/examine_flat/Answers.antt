use Rattle.std.proofs.lemmas.Result.{IfOk-weaker}
use Rattle.mintc_checker.proofs.examine_flat.Goals as goal

pub returns-clause-optimal : goal.returns-clause-optimal
returns-clause-optimal c =
    IfOk-weaker c.judge.result _ _
    (λ v h valid t e are_pairs. c.valid_is_optimal.ensures t c.args.certificate.now (rw e c.elements-elements.ensures.kept) are_pairs (rw valid at (h t e are_pairs))) c.judge.ensures
