use Rattle.std.proofs.Common.{◌≡◌, ◌++◌, ap, ◌∙◌, arith}
use Rattle.std.proofs.lemmas.Int.{ints}
use Rattle.std.proofs.lemmas.Result.{on_ok_weaker}
use Rattle.mintc_fraction.specs.Ratio.{over}
use Rattle.mintc_timing.specs.Design.{element_at, phase_of}
use Rattle.mintcx_amounts.specs.Amounts.{amount_text}
use Rattle.mintcx_frame.specs.Names.{phase_name}
use Rattle.mintcx_judgements.specs.Data.{edge_word}
use Rattle.mintcx_judgements.specs.Shown.{timed}
use Rattle.mintcx_judgements.proofs.WideLaws.{read_wide, wide}
use Rattle.mintcx_judgements.proofs.WrittenLaws.{named_and}
use Rattle.mintcx_judgements.proofs.data.put_edge.Goals as goal

pub returns : goal.returns
returns c =
    let unit = c.args.told.now.unit in
    let s = c.args.told.now.schedule.now in
    let design = c.args.told.now.system.now.flat in
    let l = c.args.element in
    let range = c.requires.edge in
    let edge : wide c.args.edge ≡ c.args.edge = read_wide c.args.edge (omega (arith, ints), omega (arith, ints)) in
    on_ok_weaker c.put_timed.result
    (λ e. named_and c.args.lines.now c.put.new.self c.put_timed.new.lines (phase_name design (phase_of design l)) (edge_word (element_at design l).flop)
    (amount_text unit (over c.args.edge s.den))
    (c.in_ok-put.ensures.ok ∙ ap (λ v. c.args.lines.now ++ v) (c.phase_name.ensures ∙ ap (λ found. phase_name design found.phase) c.element-found.ensures.value))
    (e ∙ ap (λ x. c.put.new.self ++ timed unit s c.edge_word.result.now x) edge
    ∙ ap (λ v. c.put.new.self ++ timed unit s v c.args.edge) (c.edge_word.ensures ∙ ap (λ found. edge_word found.flop) c.element-found.ensures.value)))
    c.put_timed.ensures
