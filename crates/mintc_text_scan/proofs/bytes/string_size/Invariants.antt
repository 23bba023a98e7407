use Rattle.std.proofs.Common.{◌≡◌, false, drop}
use Rattle.mintc_text_scan.specs.Bytes.{string_size}
use Rattle.mintc_text_scan.proofs.bytes.string_size.Given as goal

abbrev pub invariant-loop-at : goal.invariant-loop-at
invariant-loop-at l = string_size false 0 l.bytes ≡ string_size l.kept l.at (drop l.at l.bytes)
