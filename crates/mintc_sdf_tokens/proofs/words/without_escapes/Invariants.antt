use Rattle.std.proofs.Common.{◌≡◌, ◌++◌, false, drop}
use Rattle.mintc_sdf_tokens.specs.Words.{unescaped_from}
use Rattle.mintc_sdf_tokens.proofs.words.without_escapes.Given as goal

abbrev pub invariant-loop-byte : goal.invariant-loop-byte
invariant-loop-byte l = unescaped_from false l.word ≡ l.out.items ++ unescaped_from l.kept (drop l.byte-index l.word)
