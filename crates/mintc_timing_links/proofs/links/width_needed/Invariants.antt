use Rattle.std.proofs.Common.{◌≡◌, ◌==◌, take, map, pos}
use Rattle.std.specs.List.{filter}
use Rattle.mintc_timing.specs.declared.parts.Element.{Element}
use Rattle.mintc_timing.specs.Extremes.{greater_of, greatest_of}
use Rattle.mintc_timing.specs.Limits.{IsDelay}
use Rattle.mintc_timing_links.proofs.links.width_needed.Given as goal

-- the width is that of the elements so far
abbrev pub invariant-loop-element : goal.invariant-loop-element
invariant-loop-element l = record {
  is : l.width ≡ greater_of (pos 0) (greatest_of (map (λ (e : Element). e.width) (filter (λ (e : Element). e.phase == l.phase) (take l.element-index l.flat.elements))));
  range : IsDelay l.width;
}
