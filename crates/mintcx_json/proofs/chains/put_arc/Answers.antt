use Rattle.std.proofs.Common.{◌≡◌, ◌++◌, ◌∷◌, [], ◌∙◌, ap, codes, List, ℕ, ℤ, ◌*ℤ◌, w64, to_z, of_z, arith}
use Rattle.std.proofs.lemmas.Int.{clamps, ints, to_z-of_z}
use Rattle.std.proofs.lemmas.Result.{on_ok_weaker}
use Rattle.mintc_timing.specs.declared.parts.TimingArc.{TimingArc}
use Rattle.mintc_timing.specs.Paths.{arc_at}
use Rattle.mintcx_json.specs.Objects.{Field, count, name, whole}
use Rattle.mintcx_json.specs.Chains.{arc_delay, end_name}
use Rattle.mintcx_json.specs.Pieces.{fields_tokens}
use Rattle.mintcx_json.proofs.PieceLaws.{in_three, one_object}
use Rattle.mintcx_json.proofs.chains.put_arc.Goals as goal

pub returns : goal.returns
returns c =
    let design = c.args.flat.now in
    let den = c.args.den in
    let arc = arc_at design.arcs c.args.number in
    let found = c.arc_at-arc.ensures.value in
    let arc_field : Field = (codes "arc", count c.args.number) in
    let to_field : Field = (codes "to", name (end_name design arc.to)) in
    let delay_field : Field = (codes "delay", whole (arc_delay c.args.least arc *ℤ den)) in
    let numbered = c.in_ok-put_count.ensures ∙ ap (λ (n : ℕ). c.open.new.self ++ fields_tokens ((codes "arc", count n) ∷ [])) c.from.ensures in
    let to = c.in_ok-put_name.ensures
    ∙ ap (λ (n : List ℕ). c.put_count.new.sheet ++ fields_tokens ((codes "to", name n) ∷ []))
    (c.end_name.ensures ∙ ap (λ (x : TimingArc). end_name design x.to) found) in
    let low = c.span_of.ensures.low in
    let high = c.span_of.ensures.high in
    let fewest = c.arc_delay.ensures.range.0 in
    let most = c.arc_delay.ensures.range.1 in
    let span : to_z w64 (of_z w64 c.arc_delay.result) ≡ c.arc_delay.result = to_z-of_z w64 c.arc_delay.result (omega (arith, ints, clamps)) in
    let read : to_z w64 (of_z w64 c.span_of.result) ≡ c.span_of.result = to_z-of_z w64 c.span_of.result (omega (arith, ints, clamps)) in
    let over : to_z w64 (of_z w64 den) ≡ den = to_z-of_z w64 den c.ranges.den in
    let taken : to_z w64 (of_z w64 c.span_of.result) ≡ arc_delay c.args.least arc *ℤ den =
    read ∙ c.span_of.ensures.value ∙ ap (λ (z : ℤ). z *ℤ to_z w64 (of_z w64 den)) span ∙ ap (λ (z : ℤ). c.arc_delay.result *ℤ z) over
    ∙ ap (λ (z : ℤ). z *ℤ den) (c.arc_delay.ensures.value ∙ ap (λ (x : TimingArc). arc_delay c.args.least x) found) in
    let delay = c.in_ok-put_whole.ensures
    ∙ ap (λ (z : ℤ). c.put_name.new.sheet ++ fields_tokens ((codes "delay", whole z) ∷ []))
    taken in
    on_ok_weaker c.close.result
    (λ e. one_object c.args.sheet.now (arc_field ∷ to_field ∷ delay_field ∷ []) c.in_ok-open.ensures
    (in_three c.open.new.self arc_field to_field delay_field numbered to delay) e)
    c.close.ensures
