use Rattle.std.proofs.Common.{pos, arith}
use Rattle.std.proofs.lemmas.Int.{ints}
use Rattle.mintc_timing_text.proofs.fields.Fields.count.Goals as goal

pub returns-in_err-found : goal.returns-in_err-found
returns-in_err-found c =
    rw c.from_residual.ensures (λ n more low high e. c.in_err-found.ensures (pos n) more (omega (arith, ints), omega (arith, ints)) e)
