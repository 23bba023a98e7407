use Rattle.std.proofs.Common.{◌≡◌, ◌∙◌, false, refl}
use Rattle.std.specs.Int.{w64, w128}
use Rattle.std.proofs.lemmas.Int.{to_z-of_z}
use Rattle.mintc_timing.specs.Design.{element_at}
use Rattle.mintc_departure.proofs.NetworkLaws.{arcs-count, arc_is}
use Rattle.mintc_departure.proofs.pair_network.ClockedSystemNetwork.arc.Goals as goal

pub pair-pair-requires : goal.pair-pair-requires
pair-pair-requires c = rw (arcs-count c.args.self.now.system.now c.args.self.now.schedule.now) at c.requires

pub element-requires : goal.element-requires
element-requires c = c.pair-pair.ensures.to

pub late_delay-requires : goal.late_delay-requires
late_delay-requires c = record { number = rw (arcs-count c.args.self.now.system.now c.args.self.now.schedule.now) at c.requires }

pub returns-then-element : goal.returns-then-element
returns-then-element c =
    let t = c.args.self.now.system.now in
    let s = c.args.self.now.schedule.now in
    rw (arc_is t s c.args.number (rw (arcs-count t s) at c.requires), ← c.pair-pair.ensures.value, ← c.element.ensures.value, c.if-element.true) refl

pub returns-else-element : goal.returns-else-element
returns-else-element c =
    let t = c.args.self.now.system.now in
    let s = c.args.self.now.schedule.now in
    let is : c.from.result ≡ c.late_delay.result = c.from.ensures ∙ to_z-of_z w64 c.late_delay.result (record { sfits = c.late_delay.type_inv }) in
    let flop : (element_at t.flat c.pair-pair.result.now.to).flop ≡ false = rw (← c.element.ensures.value) c.if-element.false in
    rw (
      to_z-of_z w128 c.from.result (record { sfits = c.from.type_inv }),
      is,
      c.late_delay.ensures.value,
      arc_is t s c.args.number (rw (arcs-count t s) at c.requires),
      ← c.pair-pair.ensures.value,
      flop,
    ) refl
