use Rattle.std.proofs.Common.{ap, ◌∙◌}
use Rattle.mintc_sdf_tokens.specs.Scans.{Scan}
use Rattle.mintc_sdf_tokens.specs.Reading.{mark_of}
use Rattle.mintc_sdf_tokens.proofs.FirstLaws.{marks}
use Rattle.mintc_sdf_tokens.proofs.scanner.Scanner.mark.Goals as goal

pub returns : goal.returns
returns c = c.mark_at.ensures ∙ marks _ c.self.invariant.1 ∙ ap mark_of (ap (λ (s : Scan). s.tokens) c.self.view_is)
