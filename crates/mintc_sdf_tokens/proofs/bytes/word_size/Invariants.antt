use Rattle.std.proofs.Common.{◌≡◌, ◌+◌, false, drop}
use Rattle.mintc_sdf_tokens.specs.Tokens.{word_size}
use Rattle.mintc_sdf_tokens.proofs.bytes.word_size.Given as goal

abbrev pub invariant-loop-at : goal.invariant-loop-at
invariant-loop-at l = word_size false l.bytes ≡ l.at + word_size l.kept (drop l.at l.bytes)
