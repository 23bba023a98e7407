use Rattle.std.proofs.Common.{◌≡◌, ◌++◌, ◌∷◌, [], ◌∙◌, ap, codes, List, ℕ, ℤ, w64, to_z, of_z, arith}
use Rattle.std.proofs.lemmas.Grind.{common_steps}
use Rattle.std.proofs.lemmas.Result.{on_ok_weaker}
use Rattle.mintc_timing.specs.Clocking.{start_of, width_of}
use Rattle.mintcx_frame.specs.Names.{phase_name}
use Rattle.mintcx_json.specs.Objects.{Field, name, whole}
use Rattle.mintcx_json.specs.Pieces.{fields_tokens}
use Rattle.mintcx_json.proofs.PieceLaws.{in_three, one_object}
use Rattle.mintcx_json.proofs.clocks.put_phase.Goals as goal

pub returns : goal.returns
returns c =
    let p = c.args.phase in
    let s = c.args.schedule.now in
    let called = c.in_ok-put_name.ensures
    ∙ ap (λ (n : List ℕ). c.open.new.self ++ fields_tokens ((codes "name", name n) ∷ [])) c.phase_name.ensures in
    let begun : to_z w64 (of_z w64 c.start_at.result) ≡ start_of s p = grind (arith, common_steps, c.start_at.ensures) in
    let broad : to_z w64 (of_z w64 c.width_at.result) ≡ width_of s p = grind (arith, common_steps, c.width_at.ensures) in
    let starts = c.in_ok-put_whole.ensures
    ∙ ap (λ (z : ℤ). c.put_name.new.sheet ++ fields_tokens ((codes "start", whole z) ∷ [])) begun in
    let wide = c.in_ok-put_whole-2.ensures
    ∙ ap (λ (z : ℤ). c.put_whole.new.sheet ++ fields_tokens ((codes "width", whole z) ∷ [])) broad in
    let name_field : Field = (codes "name", name (phase_name c.args.flat.now p)) in
    let start_field : Field = (codes "start", whole (start_of s p)) in
    let width_field : Field = (codes "width", whole (width_of s p)) in
    on_ok_weaker c.close.result
    (λ e. one_object c.args.sheet.now (name_field ∷ start_field ∷ width_field ∷ []) c.in_ok-open.ensures
    (in_three c.open.new.self name_field start_field width_field called starts wide) e)
    c.close.ensures
