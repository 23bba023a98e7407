use Rattle.std.proofs.Common.{◌≡◌, take, None}
use Rattle.mintc_annotate_resolve.specs.Resolution.{first_refusal}
use Rattle.mintc_annotate_resolve.specs.Instances.{IsAt}
use Rattle.mintc_edges.specs.Claims.{HasClaims, claims}
use Rattle.mintc_edges.specs.Numbers.{without_edges}
use Rattle.mintc_edges.specs.Told.{IsSameRoom}
use Rattle.mintc_edges.proofs.gathering.apply_all.Given as goal

-- the delays so far are taken in
abbrev pub invariant-loop-delay : goal.invariant-loop-delay
invariant-loop-delay l = record {
  unrefused : first_refusal l.lookup.hierarchy.now l.lookup.cells.now (without_edges (take l.delay-index l.delays)) ≡ None;
  told : HasClaims l.lookup.hierarchy.now l.lookup.cells.now (claims l.lookup.hierarchy.now l.lookup.cells.now (take l.delay-index l.delays)) l.told;
  room : IsSameRoom l.fn.told l.told;
  last : IsAt l.lookup.hierarchy.now l.last.path.now l.last.instance;
}
