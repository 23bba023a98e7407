use Rattle.std.proofs.Common.{◌++◌, ◌∷◌, [], ◌∙◌, ap, codes, map, ℕ, ℤ, w64}
use Rattle.std.proofs.lemmas.Int.{to_z-of_z}
use Rattle.std.proofs.lemmas.Result.{on_ok_weaker}
use Rattle.mintcx_chain.specs.Sums.{cycles_of}
use Rattle.mintcx_json.specs.Objects.{Field, array_of, count, whole}
use Rattle.mintcx_json.specs.Chains.{stage_value}
use Rattle.mintcx_json.specs.Pieces.{fields_tokens}
use Rattle.mintcx_json.proofs.PieceLaws.{in_three, one_object}
use Rattle.mintcx_json.proofs.chains.put_chain.Goals as goal

pub returns : goal.returns
returns c =
    let stages = c.args.stages.now in
    let delay_field : Field = (codes "delay", whole c.args.delay) in
    let cycles_field : Field = (codes "cycles", count (cycles_of stages)) in
    let members_field : Field = (codes "members", array_of (map (stage_value c.args.flat.now c.args.den) stages)) in
    let cycles = c.in_ok-put_count.ensures
    ∙ ap (λ (n : ℕ). c.put_whole.new.sheet ++ fields_tokens ((codes "cycles", count n) ∷ [])) c.sums_of-sums.ensures.cycles in
    let delay = c.in_ok-put_whole.ensures
    ∙ ap (λ (z : ℤ). c.open.new.self ++ fields_tokens ((codes "delay", whole z) ∷ [])) (to_z-of_z w64 c.args.delay c.ranges.delay) in
    let members = c.in_ok-put_stages.ensures
    ∙ ap (λ (z : ℤ). c.put_count.new.sheet ++ fields_tokens ((codes "members", array_of (map (stage_value c.args.flat.now z) stages)) ∷ []))
    (to_z-of_z w64 c.args.den c.ranges.den) in
    on_ok_weaker c.close.result
    (λ e. one_object c.args.sheet.now (delay_field ∷ cycles_field ∷ members_field ∷ []) c.in_ok-open.ensures
    (in_three c.open.new.self delay_field cycles_field members_field delay cycles members) e)
    c.close.ensures
