use Rattle.std.proofs.Common.{◌≡◌, ◌++◌, ◌∷◌, [], ◌∙◌, ap, codes, List, ℕ, ℤ, ◌*ℤ◌, w64, to_z, of_z, arith}
use Rattle.std.proofs.lemmas.Int.{clamps, ints, to_z-of_z}
use Rattle.std.proofs.lemmas.Result.{on_ok_weaker}
use Rattle.json.specs.Json.{string}
use Rattle.mintcx_frame.specs.Names.{node_name}
use Rattle.mintcx_chain.specs.Names.{from_name}
use Rattle.mintcx_json.specs.Objects.{Field, count, name, whole}
use Rattle.mintcx_json.specs.Chains.{why_fields, why_word}
use Rattle.mintcx_json.specs.Pieces.{fields_tokens}
use Rattle.mintcx_json.proofs.PieceLaws.{and_fields, in_five}
use Rattle.mintcx_json.proofs.chains.put_stage_fields.Goals as goal

pub returns : goal.returns
returns c =
    let design = c.args.flat.now in
    let den = c.args.den in
    let k = c.args.stage.now in
    let old = c.args.sheet.now in
    let kind_field : Field = (codes "kind", string (why_word k.why)) in
    let from_field : Field = (codes "from", name (from_name design k)) in
    let to_field : Field = (codes "to", name (node_name design k.to)) in
    let delay_field : Field = (codes "delay", whole (k.delay *ℤ den)) in
    let cycles_field : Field = (codes "cycles", count k.cycles) in
    let kind = c.in_ok-put_word.ensures
    ∙ ap (λ (n : List ℕ). old ++ fields_tokens ((codes "kind", string n) ∷ [])) c.why_word.ensures in
    let from = c.in_ok-put_name.ensures
    ∙ ap (λ (n : List ℕ). c.put_word.new.sheet ++ fields_tokens ((codes "from", name n) ∷ [])) (c.bytes.ensures ∙ c.in_ok-from.ensures) in
    let to = c.in_ok-put_name-2.ensures
    ∙ ap (λ (n : List ℕ). c.put_name.new.sheet ++ fields_tokens ((codes "to", name n) ∷ [])) (c.bytes-2.ensures ∙ c.in_ok-to.ensures) in
    let low = c.span_of.ensures.low in
    let high = c.span_of.ensures.high in
    let least = c.requires.short.span.0 in
    let most = c.requires.short.span.1 in
    let span : to_z w64 (of_z w64 k.delay) ≡ k.delay = to_z-of_z w64 k.delay (omega (arith, ints, clamps)) in
    let read : to_z w64 (of_z w64 c.span_of.result) ≡ c.span_of.result = to_z-of_z w64 c.span_of.result (omega (arith, ints, clamps)) in
    let over : to_z w64 (of_z w64 den) ≡ den = to_z-of_z w64 den c.ranges.den in
    let taken : to_z w64 (of_z w64 c.span_of.result) ≡ k.delay *ℤ den =
    read ∙ c.span_of.ensures.value ∙ ap (λ (z : ℤ). z *ℤ to_z w64 (of_z w64 den)) span ∙ ap (λ (z : ℤ). k.delay *ℤ z) over in
    let delay = c.in_ok-put_whole.ensures ∙ ap (λ (z : ℤ). c.put_name-2.new.sheet ++ fields_tokens ((codes "delay", whole z) ∷ [])) taken in
    let cycles = c.in_ok-put_count.ensures ∙ ap (λ (n : ℕ). c.put_whole.new.sheet ++ fields_tokens ((codes "cycles", count n) ∷ [])) c.from-2.ensures in
    on_ok_weaker c.put_why.result
    (λ e. and_fields old (kind_field ∷ from_field ∷ to_field ∷ delay_field ∷ cycles_field ∷ []) (why_fields design den k.why)
    (in_five old kind_field from_field to_field delay_field cycles_field kind from to delay cycles)
    (e ∙ ap (λ (z : ℤ). c.put_count.new.sheet ++ fields_tokens (why_fields design z k.why)) over))
    c.put_why.ensures
