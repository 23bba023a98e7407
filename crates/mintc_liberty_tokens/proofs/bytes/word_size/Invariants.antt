use Rattle.std.proofs.Common.{◌≡◌, ◌+◌, drop}
use Rattle.mintc_liberty_tokens.specs.Tokens.{word_size}
use Rattle.mintc_liberty_tokens.proofs.bytes.word_size.Given as goal

abbrev pub invariant-loop-at : goal.invariant-loop-at
invariant-loop-at l = word_size l.bytes ≡ l.at + word_size (drop l.at l.bytes)
