use Rattle.std.proofs.Common.{ℕ, ◌++◌, codes, decimal, arith}
use Rattle.std.proofs.lemmas.List.FromFn.{map-range_with_len_more}
use Rattle.mintc_timing_text.proofs.table_text.inner_names.Goals as goal

pub loop-number-preserved : goal.loop-number-preserved
loop-number-preserved c =
    let more = map-range_with_len_more (λ (n : ℕ). codes "n" ++ decimal n) 0 c.loop-number.number c.loop-number.number (omega arith) in
    grind arith
