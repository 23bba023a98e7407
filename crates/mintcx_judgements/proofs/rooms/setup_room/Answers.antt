use Rattle.std.proofs.Common.{◌≡◌, ℤ, ◌-ℤ◌, Some, ◌∙◌, ap, refl, sym, arith}
use Rattle.std.proofs.lemmas.Int.{ints}
use Rattle.mintcx_judgements.specs.Shown.{IsComing}
use Rattle.mintcx_judgements.specs.Sources.{coming_late, edge_of, setup_of, there}
use Rattle.mintcx_judgements.proofs.RoomLaws.{flop_room, latch_room, setup_fits, setup_in_range, setup_is}
use Rattle.mintcx_judgements.proofs.rooms.setup_room.Goals as goal

pub returns-then-not-element-clause-value : goal.returns-then-not-element-clause-value
returns-then-not-element-clause-value c =
    let t = c.args.causes.now.told.system.now in
    let s = c.args.causes.now.told.schedule.now in
    let late = c.args.causes.now.late.now in
    let l = c.args.element in
    let leaves = c.there.ensures.range in
    let comes : IsComing c.there.result = (omega (arith, ints), omega (arith, ints)) in
    let value : c.edge.result -ℤ c.setup.result -ℤ c.there.result ≡ edge_of t.flat s l -ℤ setup_of t.flat s l -ℤ there t.flat s late l =
    rw (c.edge.ensures.value, c.setup.ensures.value, c.there.ensures.value) refl in
    ap (λ (x : ℤ). Some x) (setup_is c.edge.result c.setup.result c.there.result c.edge.ensures.range c.setup.ensures.range comes ∙ value)
    ∙ sym (latch_room t s late l (ap (λ e. e.flop) (sym c.element.ensures.value) ∙ c.if-not-element.true))

pub overflow_sub-result-2 : goal.overflow_sub-result-2
overflow_sub-result-2 c =
    setup_fits c.edge.result c.setup.result c.coming_late.result c.edge.ensures.range c.setup.ensures.range c.coming_late.ensures.range

pub returns-clause-value : goal.returns-clause-value
returns-clause-value c =
    let t = c.args.causes.now.told.system.now in
    let s = c.args.causes.now.told.schedule.now in
    let late = c.args.causes.now.late.now in
    let l = c.args.element in
    let value : c.edge.result -ℤ c.setup.result -ℤ c.coming_late.result ≡ edge_of t.flat s l -ℤ setup_of t.flat s l -ℤ coming_late t s late c.in_ok-pair.pair =
    rw (c.edge.ensures.value, c.setup.ensures.value, c.coming_late.ensures.value) refl in
    ap (λ (x : ℤ). Some x) (setup_is c.edge.result c.setup.result c.coming_late.result c.edge.ensures.range c.setup.ensures.range c.coming_late.ensures.range ∙ value)
    ∙ sym (flop_room t s late l c.in_ok-pair.pair (ap (λ e. e.flop) (sym c.element.ensures.value) ∙ c.if-not-element.false) (sym c.latest.ensures.value ∙ c.in_ok-pair.was))

pub returns-clause-range : goal.returns-clause-range
returns-clause-range c =
    setup_in_range c.edge.result c.setup.result c.coming_late.result c.edge.ensures.range c.setup.ensures.range c.coming_late.ensures.range
