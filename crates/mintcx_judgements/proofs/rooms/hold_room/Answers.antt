use Rattle.std.proofs.Common.{◌≡◌, ℤ, ◌+ℤ◌, ◌-ℤ◌, Some, ◌∙◌, ap, refl, sym}
use Rattle.mintcx_judgements.specs.Sources.{coming_early, edge_of, hold_of}
use Rattle.mintcx_judgements.proofs.RoomLaws.{held_room, hold_fits, hold_in_range, hold_is, next_fits}
use Rattle.mintcx_judgements.proofs.rooms.hold_room.Goals as goal

pub overflow_sub-result : goal.overflow_sub-result
overflow_sub-result c =
    next_fits c.coming_early.result c.cycle.result c.edge.result c.coming_early.ensures.range c.cycle.ensures.range c.edge.ensures.range

pub overflow_sub-result-2 : goal.overflow_sub-result-2
overflow_sub-result-2 c =
    hold_fits c.coming_early.result c.cycle.result c.edge.result c.hold.result c.coming_early.ensures.range c.cycle.ensures.range c.edge.ensures.range c.hold.ensures.range

pub returns-clause-value : goal.returns-clause-value
returns-clause-value c =
    let t = c.args.causes.now.told.system.now in
    let s = c.args.causes.now.told.schedule.now in
    let early = c.args.causes.now.early.now in
    let l = c.args.element in
    let value : c.coming_early.result +ℤ c.cycle.result -ℤ c.edge.result -ℤ c.hold.result
    ≡ coming_early t s early c.in_ok-pair.pair +ℤ s.cycle -ℤ edge_of t.flat s l -ℤ hold_of t.flat s l =
    rw (c.coming_early.ensures.value, c.cycle.ensures.value, c.edge.ensures.value, c.hold.ensures.value) refl in
    ap (λ (x : ℤ). Some x) (hold_is c.coming_early.result c.cycle.result c.edge.result c.hold.result c.coming_early.ensures.range c.cycle.ensures.range c.edge.ensures.range c.hold.ensures.range ∙ value)
    ∙ sym (held_room t s early l c.in_ok-pair.pair (ap (λ e. e.has_hold) (sym c.element.ensures.value) ∙ c.if-not-element.false) (sym c.earliest.ensures.value ∙ c.in_ok-pair.was))

pub returns-clause-range : goal.returns-clause-range
returns-clause-range c =
    hold_in_range c.coming_early.result c.cycle.result c.edge.result c.hold.result c.coming_early.ensures.range c.cycle.ensures.range c.edge.ensures.range c.hold.ensures.range
