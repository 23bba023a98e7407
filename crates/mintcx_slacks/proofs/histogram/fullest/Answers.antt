use Rattle.std.proofs.Common.{◌≡◌, ℕ, max, ap, ◌∙◌, sym, arith}
use Rattle.std.specs.List.{fold, range_with_len}
use Rattle.mintcx_slacks.specs.Histograms.{count_of}
use Rattle.mintcx_slacks.proofs.Steps.{most_more}
use Rattle.mintcx_slacks.proofs.histogram.fullest.Goals as goal

pub loop-number-preserved : goal.loop-number-preserved
loop-number-preserved c =
    let step = c.args.step.femtoseconds in
    let extra = c.args.extra.now in
    let n = c.loop-number.number in
    let before : ℕ = fold (λ most b. max most (count_of step extra b)) 1 (range_with_len 0 n) in
    record {
      value = c.max-most.ensures ∙ ap (λ most. max most c.count.result) c.loop-number.invariant.value ∙ ap (max before) c.count.ensures.value ∙ sym (most_more step extra n);
      some = omega (arith, c.max-most.ensures, c.loop-number.invariant.some);
    }
