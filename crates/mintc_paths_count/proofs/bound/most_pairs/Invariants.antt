use Rattle.std.proofs.Common.{◌≡◌, ◌≤◌, ◌*◌, length, take}
use Rattle.mintc_text.specs.declared.limits.TheConstants.{MOST_ELEMENTS}
use Rattle.mintc_paths_count.specs.Bound.{most_pairs}
use Rattle.mintc_paths_count.proofs.bound.most_pairs.Given as goal

-- what the arcs so far bring
abbrev pub invariant-loop-arc : goal.invariant-loop-arc
invariant-loop-arc l = record {
  sum : l.most ≡ most_pairs (length l.flat.elements) (take l.arc-index l.flat.arcs);
  few : l.most ≤ l.arc-index * MOST_ELEMENTS;
}
