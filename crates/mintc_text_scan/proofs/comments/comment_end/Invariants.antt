use Rattle.std.proofs.Common.{◌≡◌, drop}
use Rattle.mintc_text_scan.specs.Bytes.{comment_end}
use Rattle.mintc_text_scan.proofs.comments.comment_end.Given as goal

abbrev pub invariant-loop-at : goal.invariant-loop-at
invariant-loop-at l = comment_end 2 (drop 2 l.bytes) ≡ comment_end l.at (drop l.at l.bytes)
