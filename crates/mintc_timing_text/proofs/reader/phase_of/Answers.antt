use Rattle.std.proofs.Common.{[]}
use Rattle.mintc_timing_text.proofs.reader.phase_of.Goals as goal

pub returns-in_err-width : goal.returns-in_err-width
returns-in_err-width c =
    rw c.from_residual-in_err-width.ensures (λ p h. let t = c.in_ok-expect_word.ensures in let u = c.in_ok-start.ensures.1 in let e = h.2 in c.in_err-width.ensures p.1 [] h.1 cc)
