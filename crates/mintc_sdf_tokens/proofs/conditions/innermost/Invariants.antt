use Rattle.std.proofs.Common.{◌≡◌, ◌≤◌, ◌+◌, ◌∷◌, [], length, None}
use Rattle.mintc_sdf_tokens.specs.Conditions.{walked}
use Rattle.mintc_sdf_tokens.proofs.conditions.innermost.Given as goal

-- what is left ends the walk
abbrev pub invariant-loop-layers : goal.invariant-loop-layers
invariant-loop-layers l = record {
  same : walked l.fn.both (l.fn.outer ∷ []) None 0 l.fn.reader ≡ walked l.both l.layers.items l.last l.depth l.reader;
  few : l.depth + length l.reader ≤ length l.fn.reader;
}

abbrev pub decreases-loop-layers : goal.decreases-loop-layers
decreases-loop-layers l = length l.reader
