use Rattle.std.proofs.Common.{◌≡◌, ◌+◌, drop}
use Rattle.mintc_text_scan.specs.Bytes.{line_size}
use Rattle.mintc_text_scan.proofs.bytes.line_size.Given as goal

abbrev pub invariant-loop-at : goal.invariant-loop-at
invariant-loop-at l = line_size l.bytes ≡ l.at + line_size (drop l.at l.bytes)
