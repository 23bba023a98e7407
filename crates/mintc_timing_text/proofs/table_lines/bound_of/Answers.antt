use Rattle.std.proofs.Common.{◌∷◌, []}
use Rattle.mintc_timing_text.specs.Fields.{number}
use Rattle.mintc_timing_text.proofs.table_lines.bound_of.Goals as goal

pub returns-in_err-gap : goal.returns-in_err-gap
returns-in_err-gap c =
    rw c.from_residual-in_err-gap.ensures (λ x h. let a = c.in_ok-expect_word.ensures in let b = c.in_ok-word.ensures in let d = c.in_ok-word-2.ensures in let e = h.1 in
    c.in_err-gap.ensures x.gap (number x.cycles ∷ []) h.0.gap cc)
