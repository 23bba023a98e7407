use Rattle.std.proofs.Common.{◌≡◌, ◌++◌, ◌∷◌, [], ◌∙◌, ap, codes, List, ℕ, ℤ, ◌*ℤ◌, SFits, w64, to_z, of_z, arith, rules}
use Rattle.std.specs.Int.{w128}
use Rattle.std.proofs.lemmas.Grind.{common_steps}
use Rattle.std.proofs.lemmas.Int.{clamps, ints, to_z-of_z}
use Rattle.std.proofs.lemmas.Result.{on_ok_weaker}
use Rattle.mintc_timing.specs.Design.{pair_at}
use Rattle.mintcx_frame.specs.Names.{element_name}
use Rattle.mintcx_slacks.specs.Slacks.{delay_of}
use Rattle.mintcx_json.specs.Objects.{Field, name, whole}
use Rattle.mintcx_json.specs.Pieces.{fields_tokens}
use Rattle.mintcx_json.proofs.PieceLaws.{in_four, one_object}
use Rattle.mintcx_json.proofs.slacks.put_pair.Goals as goal

pub returns : goal.returns
returns c =
    let t = c.args.system.now in
    let den = c.args.den in
    let place = c.args.place in
    let pair = pair_at t place.1 in
    let from_field : Field = (codes "from", name (element_name t.flat pair.from)) in
    let to_field : Field = (codes "to", name (element_name t.flat pair.to)) in
    let delay_field : Field = (codes "delay", whole (delay_of t place.1 *ℤ den)) in
    let slack_field : Field = (codes "slack", whole (place.0 *ℤ den)) in
    let from_name : c.element_name.result.now ≡ element_name t.flat pair.from =
    grind (arith, common_steps, c.element_name.ensures, c.pair-pair.ensures.value, c.flat-flat.ensures.value) in
    let to_name : c.element_name-2.result.now ≡ element_name t.flat pair.to =
    grind (arith, common_steps, c.element_name-2.ensures, c.pair-pair.ensures.value, c.flat-flat.ensures.value) in
    let delay_fits : SFits w64 c.delay.result = search rules in
    let slack_fits : SFits w64 place.0 = search rules in
    let over : to_z w128 (of_z w128 den) ≡ den = to_z-of_z w128 den c.ranges.den in
    let low = c.long_span.ensures.low in
    let high = c.long_span.ensures.high in
    let slack_low = c.long_span-2.ensures.low in
    let slack_high = c.long_span-2.ensures.high in
    let delay_read : to_z w128 (of_z w128 c.long_span.result) ≡ c.long_span.result = to_z-of_z w128 c.long_span.result (omega (arith, ints, clamps)) in
    let slack_read : to_z w128 (of_z w128 c.long_span-2.result) ≡ c.long_span-2.result = to_z-of_z w128 c.long_span-2.result (omega (arith, ints, clamps)) in
    let delay_is : to_z w128 (of_z w128 c.long_span.result) ≡ delay_of t place.1 *ℤ den =
    delay_read ∙ c.long_span.ensures.value ∙ ap (λ (z : ℤ). z *ℤ to_z w128 (of_z w128 den)) (to_z-of_z w64 c.delay.result delay_fits ∙ c.delay.ensures)
    ∙ ap (λ (z : ℤ). delay_of t place.1 *ℤ z) over in
    let slack_is : to_z w128 (of_z w128 c.long_span-2.result) ≡ place.0 *ℤ den =
    slack_read ∙ c.long_span-2.ensures.value ∙ ap (λ (z : ℤ). z *ℤ to_z w128 (of_z w128 den)) (to_z-of_z w64 place.0 slack_fits)
    ∙ ap (λ (z : ℤ). place.0 *ℤ z) over in
    let from = c.in_ok-put_name.ensures ∙ ap (λ (n : List ℕ). c.open.new.self ++ fields_tokens ((codes "from", name n) ∷ [])) from_name in
    let to = c.in_ok-put_name-2.ensures ∙ ap (λ (n : List ℕ). c.put_name.new.sheet ++ fields_tokens ((codes "to", name n) ∷ [])) to_name in
    let delay = c.in_ok-put_long.ensures ∙ ap (λ (z : ℤ). c.put_name-2.new.sheet ++ fields_tokens ((codes "delay", whole z) ∷ [])) delay_is in
    let slack = c.in_ok-put_long-2.ensures ∙ ap (λ (z : ℤ). c.put_long.new.sheet ++ fields_tokens ((codes "slack", whole z) ∷ [])) slack_is in
    on_ok_weaker c.close.result
    (λ e. one_object c.args.sheet.now (from_field ∷ to_field ∷ delay_field ∷ slack_field ∷ []) c.in_ok-open.ensures
    (in_four c.open.new.self from_field to_field delay_field slack_field from to delay slack) e)
    c.close.ensures
