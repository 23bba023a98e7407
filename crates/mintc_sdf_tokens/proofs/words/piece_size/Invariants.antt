use Rattle.std.proofs.Common.{◌≡◌, ◌+◌, false, drop}
use Rattle.mintc_sdf_tokens.specs.Pieces.{piece_size}
use Rattle.mintc_sdf_tokens.proofs.words.piece_size.Given as goal

abbrev pub invariant-loop-at : goal.invariant-loop-at
invariant-loop-at l = piece_size l.divider false l.word ≡ l.at + piece_size l.divider l.kept (drop l.at l.word)
