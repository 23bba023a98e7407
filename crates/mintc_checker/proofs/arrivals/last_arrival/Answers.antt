use Rattle.std.proofs.Common.{◌≡◌, ◌<◌, ◌+◌, ℕ, length, arith, ap, ◌∙◌, sym, subst, to_z, of_z, w64}
use Rattle.std.specs.Int.{int_max}
use Rattle.mintc_timing.specs.declared.parts.Element.{Element}
use Rattle.mintc_timing.specs.Paths.{input_of}
use Rattle.mintc_timing.proofs.SharedFitting.{read_time, IsTime-IsModest}
use Rattle.mintc_lanes.specs.Lanes.{joined}
use Rattle.mintc_checker.specs.Labels.{label_at}
use Rattle.mintc_checker.specs.Trails.{IsLastUpTo}
use Rattle.mintc_checker.proofs.Arriving.{last-more, last-all}
use Rattle.mintc_checker.proofs.arrivals.last_arrival.Goals as goal

pub loop-lane-preserved : goal.loop-lane-preserved
loop-lane-preserved c = record {
  last_so_far = λ d labels.
      let lane : ℕ = c.loop-lane.lane in
      let below : lane < 8 = omega arith in
      subst (λ o. IsLastUpTo c.args.clocked.now.flat.now c.args.clocked.now.schedule.now d (lane + 1) c.args.number c.element.result.now.phase o) (sym (c.later-last.ensures.value ∙ ap (λ o. joined int_max c.loop-lane.last o (to_z w64 (of_z w64 c.shift-add.result))) c.label_in.ensures))
      (last-more c.args.clocked.now.flat.now c.element.ensures.kept c.args.clocked.now.schedule.now d c.args.number c.element.result.now.phase lane c.loop-lane.last (label_at c.args.labels.now (input_of c.args.number) lane) _
      (read_time c.shift-add.result (IsTime-IsModest _ c.shift-add.ensures.range) ∙ c.shift-add.ensures.value)
      (c.loop-lane.invariant.last_so_far d labels) (labels.each c.args.number lane c.requires.number below));
  range = c.later-last.ensures.range;
}

pub returns-clause-last : goal.returns-clause-last
returns-clause-last c = λ d labels.
    let all : c.loop-lane.lane ≡ length c.args.clocked.now.flat.now.phases = omega arith in
    last-all c.args.clocked.now.flat.now c.element.ensures.kept c.args.clocked.now.schedule.now d c.args.number c.element.result.now.phase c.loop-lane.lane c.loop-lane.last all
    (ap (λ (e : Element). e.phase) c.element.ensures.value) (c.loop-lane.invariant.last_so_far d labels)
