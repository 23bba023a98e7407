use Rattle.std.proofs.Common.{ap, ◌∙◌}
use Rattle.mintc_liberty_tokens.specs.Scans.{Scan}
use Rattle.mintc_liberty_tokens.specs.Reading.{kind_of}
use Rattle.mintc_liberty_tokens.proofs.FirstLaws.{kinds}
use Rattle.mintc_liberty_tokens.proofs.scanner.Scanner.kind.Goals as goal

pub returns : goal.returns
returns c = let same = ap (λ (s : Scan). s.tokens) c.self.view_is in c.kind_at.ensures ∙ kinds _ c.self.invariant.1 ∙ ap kind_of same
