use Rattle.std.proofs.Common.{◌≡◌, ◌++◌, map}
use Rattle.std.specs.List.{range_with_len}
use Rattle.mintcx_histogram.specs.Bars.{bar_forms}
use Rattle.mintcx_histogram.specs.Pictures.{bar_at}
use Rattle.mintcx_histogram.proofs.drawing.push_bars.Given as goal

-- the layers of the bars so far
abbrev pub invariant-loop-number : goal.invariant-loop-number
invariant-loop-number l = l.layers.items ≡ l.fn.layers.items ++ map (λ number. bar_forms l.spread.unit (bar_at l.spread.step.femtoseconds l.spread.extra.now number)) (range_with_len 0 l.number)
