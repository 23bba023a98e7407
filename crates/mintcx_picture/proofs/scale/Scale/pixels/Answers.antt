use Rattle.std.proofs.Common.{◌≡◌, ℤ, pos, ◌+ℤ◌, ◌-ℤ◌, ◌*ℤ◌, to_z, of_z, ap, ◌∙◌, arith}
use Rattle.std.specs.Int.{int_div_euclid}
use Rattle.std.proofs.lemmas.Int.{ints, clamps, to_z-of_z}
use mir.Syntax.{w128}
use mir.Val.{SFits}
use Rattle.mintcx_picture.specs.Places.{exact_of, span_of, twice_span}
use Rattle.mintcx_picture.proofs.scale.Scale.pixels.Goals as goal

pub returns : goal.returns
returns c =
    let scale = c.args.self.now in
    let e = c.scaled-exact.result in
    let s = c.span-span.result in
    let low = c.scaled-exact.ensures.low in
    let high = c.scaled-exact.ensures.high in
    let some = c.span-span.ensures.some in
    let few = c.span-span.ensures.few in
    let bottom = to_z w128 (of_z w128 (to_z w128 (of_z w128 s) +ℤ to_z w128 (of_z w128 s))) in
    let above : to_z w128 (of_z w128 (to_z w128 (of_z w128 (to_z w128 (of_z w128 e) +ℤ to_z w128 (of_z w128 e))) +ℤ to_z w128 (of_z w128 s))) ≡ e +ℤ e +ℤ s =
    omega (arith, ints, clamps, low, high, some, few) in
    let below : bottom ≡ s +ℤ s = omega (arith, ints, clamps, some, few) in
    let fits : SFits w128 c.quotient.result = record { sfits = c.quotient.type_inv } in
    let since : SFits w128 c.since-since.result = record { sfits = c.since-since.type_inv } in
    let exact : e ≡ exact_of scale c.args.time =
    c.scaled-exact.ensures.value ∙ ap (λ (x : ℤ). x *ℤ pos scale.wide) (to_z-of_z w128 c.since-since.result since ∙ c.since-since.ensures.value)
    ∙ ap (λ (x : ℤ). (x -ℤ scale.first) *ℤ pos scale.wide) (to_z-of_z w128 c.args.time c.ranges.time) in
    to_z-of_z w128 c.quotient.result fits ∙ c.quotient.ensures
    ∙ ap (λ (x : ℤ). int_div_euclid x bottom) above ∙ ap (λ (y : ℤ). int_div_euclid (e +ℤ e +ℤ s) y) below
    ∙ ap (λ (x : ℤ). int_div_euclid (e +ℤ e +ℤ x) (x +ℤ x)) c.span-span.ensures.value
    ∙ ap (λ (x : ℤ). int_div_euclid (x +ℤ x +ℤ span_of scale) (twice_span scale)) exact
