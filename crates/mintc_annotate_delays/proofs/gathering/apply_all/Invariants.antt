use Rattle.std.proofs.Common.{◌≡◌, take, None}
use Rattle.mintc_annotate_resolve.specs.Resolution.{first_refusal, said}
use Rattle.mintc_annotate_resolve.specs.Instances.{IsAt}
use Rattle.mintc_annotate_delays.specs.Ranges.{HasRanges, IsSameRoom}
use Rattle.mintc_annotate_delays.proofs.gathering.apply_all.Given as goal

-- the delays so far are taken in
abbrev pub invariant-loop-delay : goal.invariant-loop-delay
invariant-loop-delay l = record {
  unrefused : first_refusal l.lookup.hierarchy.now l.lookup.cells.now (take l.delay-index l.delays) ≡ None;
  ranges : HasRanges l.ranges (said l.lookup.hierarchy.now l.lookup.cells.now (take l.delay-index l.delays));
  room : IsSameRoom l.fn.ranges l.ranges;
  last : IsAt l.lookup.hierarchy.now l.last.path.now l.last.instance;
}
