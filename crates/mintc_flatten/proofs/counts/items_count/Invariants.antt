use Rattle.std.proofs.Common.{◌≡◌, ◌≤◌, ℕ, take}
use Rattle.mintc_text.specs.declared.limits.TheConstants.{MOST_TOLD}
use Rattle.mintc_flatten_hierarchy.specs.Sources.{source_of}
use Rattle.mintc_flatten_hierarchy.specs.Walks.{counts, plus}
use Rattle.mintc_flatten.specs.Totals.{capped, sum_parts, IsCapped, greatest_depth}
use Rattle.mintc_flatten.proofs.counts.items_count.Given as goal

-- the counts are those of the bindings so far
abbrev pub invariant-loop-binding : goal.invariant-loop-binding
invariant-loop-binding l = let s = source_of l.cells l.modules in record {
  scopes : l.count.scopes ≤ MOST_TOLD;
  leaves : l.count.leaves ≤ MOST_TOLD;
  inner : l.count.inner ≤ MOST_TOLD;
  sums : (own : ℕ) → l.bits ≡ capped own → IsCapped (plus (counts 1 0 own) (sum_parts s (take l.binding-index l.bindings))) (greatest_depth s (take l.binding-index l.bindings)) l.count;
}
