use Rattle.std.proofs.Common.{rules}
use Rattle.mintcx_sense_keys.specs.Plain.{plain_entries}
use Rattle.mintcx_sense_keys.proofs.PlainLaws.{changed}
use Rattle.mintcx_sense_keys.proofs.plain.strip_document.Goals as goal

pub returns : goal.returns
returns c = changed _ plain_entries _ (λ k v b w f' t. search rules) _ _ c.retain.ensures.filtered
