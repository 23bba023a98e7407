use Rattle.std.proofs.Common.{◌≡◌, ◌++◌, ◌∷◌, [], ◌∙◌, ap, codes, List, ℕ, ℤ, w64, to_z, of_z, arith}
use Rattle.std.proofs.lemmas.Grind.{common_steps}
use Rattle.std.proofs.lemmas.Result.{on_ok_weaker}
use Rattle.json.specs.Json.{string}
use Rattle.mintc_timing.specs.Departures.{departure}
use Rattle.mintc_timing.specs.Design.{element_at, phase_of}
use Rattle.mintc_timing.specs.declared.parts.Element.{Element}
use Rattle.mintcx_frame.specs.Names.{element_name, kind_word, phase_name}
use Rattle.mintcx_json.specs.Objects.{Field, name, whole}
use Rattle.mintcx_json.specs.Pieces.{fields_tokens}
use Rattle.mintcx_json.proofs.PieceLaws.{in_five, one_object}
use Rattle.mintcx_json.proofs.judgements.put_departing.Goals as goal

pub returns : goal.returns
returns c =
    let design = c.args.flat.now in
    let l = c.args.number in
    let found = c.element-element.ensures.value in
    let name_field : Field = (codes "name", name (element_name design l)) in
    let kind_field : Field = (codes "kind", string (kind_word (element_at design l).flop)) in
    let phase_field : Field = (codes "phase", name (phase_name design (phase_of design l))) in
    let late_field : Field = (codes "late", whole (departure c.args.departing.now.late.now l)) in
    let called = c.in_ok-put_name.ensures
    ∙ ap (λ (n : List ℕ). c.open.new.self ++ fields_tokens ((codes "name", name n) ∷ [])) (c.bytes.ensures ∙ ap (λ (x : Element). x.name) found) in
    let kind = c.in_ok-put_word.ensures
    ∙ ap (λ (n : List ℕ). c.put_name.new.sheet ++ fields_tokens ((codes "kind", string n) ∷ [])) (c.kind_word.ensures ∙ ap (λ (x : Element). kind_word x.flop) found) in
    let phase = c.in_ok-put_name-2.ensures
    ∙ ap (λ (n : List ℕ). c.put_word.new.sheet ++ fields_tokens ((codes "phase", name n) ∷ []))
    (c.phase_name.ensures ∙ ap (λ (x : Element). phase_name design x.phase) found) in
    let departs : to_z w64 (of_z w64 c.departure_at.result) ≡ departure c.args.departing.now.late.now l = grind (arith, common_steps, c.departure_at.ensures) in
    let late = c.in_ok-put_whole.ensures
    ∙ ap (λ (z : ℤ). c.put_name-2.new.sheet ++ fields_tokens ((codes "late", whole z) ∷ [])) departs in
    let early_field : Field = (codes "early", whole (departure c.args.departing.now.early.now l)) in
    let sooner : to_z w64 (of_z w64 c.departure_at-2.result) ≡ departure c.args.departing.now.early.now l = grind (arith, common_steps, c.departure_at-2.ensures) in
    let early = c.in_ok-put_whole-2.ensures
    ∙ ap (λ (z : ℤ). c.put_whole.new.sheet ++ fields_tokens ((codes "early", whole z) ∷ [])) sooner in
    on_ok_weaker c.close.result
    (λ e. one_object c.args.sheet.now (name_field ∷ kind_field ∷ phase_field ∷ late_field ∷ early_field ∷ []) c.in_ok-open.ensures
    (in_five c.open.new.self name_field kind_field phase_field late_field early_field called kind phase late early) e)
    c.close.ensures
