use Rattle.std.proofs.Common.{◌≡◌, ◌++◌, ap, ◌∙◌, arith}
use Rattle.std.specs.Prelude.{codes}
use Rattle.std.proofs.lemmas.Int.{ints}
use Rattle.std.proofs.lemmas.Result.{on_ok_weaker}
use Rattle.mintc_text.specs.Lines.{ended}
use Rattle.mintcx_judgements.specs.Data.{wanted_line}
use Rattle.mintcx_judgements.specs.Shown.{timed}
use Rattle.mintcx_judgements.specs.Sources.{edge_of, there}
use Rattle.mintcx_judgements.proofs.WideLaws.{read_wide, wide}
use Rattle.mintcx_judgements.proofs.WrittenLaws.{line_of_two_then}
use Rattle.mintcx_judgements.proofs.data.put_opening.Goals as goal

pub returns : goal.returns
returns c =
    let unit = c.args.told.now.unit in
    let s = c.args.told.now.schedule.now in
    let t = c.args.told.now.system.now in
    let l = c.args.element in
    let leaves = c.there.ensures.range in
    let edges = c.edge.ensures.range in
    let opens : wide c.there.result ≡ there t.flat s c.args.late.now l = read_wide c.there.result (omega (arith, ints), omega (arith, ints)) ∙ c.there.ensures.value in
    let edge : wide c.edge.result ≡ edge_of t.flat s l = read_wide c.edge.result (omega (arith, ints), omega (arith, ints)) ∙ c.edge.ensures.value in
    on_ok_weaker c.put_wanted.result
    (λ e. line_of_two_then c.args.lines.now (timed unit s (codes "         it lets data in from ") (there t.flat s c.args.late.now l)) (codes " on")
    (wanted_line t.flat s unit l (edge_of t.flat s l))
    (c.in_ok-put_timed.ensures ∙ ap (λ x. c.args.lines.now ++ timed unit s (codes "         it lets data in from ") x) opens)
    c.in_ok-put.ensures.ok
    (e ∙ ap (λ x. c.put.new.self ++ ended (wanted_line t.flat s unit l x)) edge))
    c.put_wanted.ensures
