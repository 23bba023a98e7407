use Rattle.std.proofs.Common.{ℕ, List, pos, drop, ap, ◌∙◌, arith}
use Rattle.std.proofs.lemmas.Int.{ints}
use Rattle.std.proofs.lemmas.List.{take_rest}
use Rattle.mintc_timing_text.proofs.table_lines.letter_and_count.Goals as goal

pub returns-in_err-count-in-len1-up : goal.returns-in_err-count-in-len1-up
returns-in_err-count-in-len1-up c =
    rw c.from_residual.ensures (λ letter n few e. c.in_err-count-in-len1-up.ensures (pos n) (omega (arith, ints), omega (arith, ints)) (take_rest c.args.word.now 1 ∙ ap (λ (w : List ℕ). drop 1 w) e))
