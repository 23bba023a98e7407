use Rattle.std.proofs.Common.{arith, ap, length, length-drop, drop}
use Rattle.mintc_text_scan.proofs.SharedTokenLaws.{few}
use Rattle.mintc_sdf_tokens.specs.Scans.{Scan}
use Rattle.mintc_sdf_tokens.specs.Tokens.{piece_of}
use Rattle.mintc_sdf_tokens.proofs.scanner.Scanner.bytes_left.Goals as goal

pub returns : goal.returns
returns c =
    let most = few piece_of 0 (drop c.self.inside.at c.self.inside.text.now) in
    let same = ap length (ap (λ (s : Scan). s.tokens) c.self.view_is) in
    omega (arith, most, same, length-drop c.self.inside.at c.self.inside.text.now)
