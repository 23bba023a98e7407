-- How many pairs a design has at most.
use Rattle.std.specs.Prelude.{◌≤◌, ◌*◌, ℕ, List, cond, length, nat_lt}
use Rattle.std.specs.List.{sum_by}
use Rattle.mintc_text.specs.declared.limits.Most.{Most}
use Rattle.mintc_timing.specs.declared.parts.Pair.{Pair}
use Rattle.mintc_timing.specs.declared.parts.TimingArc.{TimingArc}
use Rattle.mintc_timing.specs.Design.{Design}
use Rattle.mintc_timing.specs.Paths.{ArePairs}

-- How many pairs an arc brings at most, of a design with n elements: into an input one from an output, and one from
-- each element where it comes from an inner bit.
abbrev pub pairs_by : ℕ → TimingArc → ℕ
pairs_by n arc = cond (nat_lt arc.to (2 * n)) (cond (nat_lt arc.from (2 * n)) 1 n) 0

-- how many all arcs bring
abbrev pub most_pairs : ℕ → List TimingArc → ℕ
most_pairs n arcs = sum_by (pairs_by n) arcs

-- The design has no more pairs than a run takes.
abbrev pub HasFewPairs : Most → Design → Type 0
HasFewPairs most design = (pairs : List Pair) × ArePairs design pairs × (length pairs ≤ most.pairs)
