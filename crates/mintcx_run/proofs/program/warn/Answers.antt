use Rattle.mintcx_run.proofs.DeliveryLaws.{front_of_none}
use Rattle.mintcx_run.proofs.program.warn.Goals as goal

pub returns-else-not-is_empty-clause-told : goal.returns-else-not-is_empty-clause-told
returns-else-not-is_empty-clause-told g c = front_of_none _ c.args.warnings.now
