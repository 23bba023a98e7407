use Rattle.std.proofs.Common.{◌≡◌, [], ◌∷◌, ◌++◌, ap, ◌∙◌}
use Rattle.std.specs.Prelude.{codes}
use Rattle.std.proofs.lemmas.Result.{on_ok_weaker}
use Rattle.mintc_timing.specs.declared.parts.Element.{Element}
use Rattle.mintc_timing.specs.Design.{element_at}
use Rattle.mintcx_judgements.specs.Data.{element_in_words}
use Rattle.mintcx_judgements.specs.Shown.{measured, timed}
use Rattle.mintcx_judgements.specs.Sources.{setup_of}
use Rattle.mintcx_verdicts.specs.Arrivals.{there_at, there_words}
use Rattle.mintcx_verdicts.proofs.WideLaws.{long_modest, read_late, read_modest, read_wide, wide}
use Rattle.mintcx_verdicts.proofs.WrittenLaws.{in_six}
use Rattle.mintcx_verdicts.proofs.elements.put_tardy.Goals as goal

pub returns : goal.returns
returns c =
    let told = c.args.judging.now.told in
    let t = told.system.now in
    let s = told.schedule.now in
    let d = c.args.judging.now.departures.now in
    let unit = told.unit in
    let l = c.args.element in
    let by = c.args.amount in
    let said = there_words (element_at t.flat l).flop in
    let amount : wide by ≡ by = read_late by c.requires.amount in
    let words : c.there_words-words.result.now ≡ said = c.there_words-words.ensures ∙ ap (λ (e : Element). there_words e.flop) c.element.ensures.value in
    let there : wide c.there_at-there.result ≡ there_at t s d l by =
    read_wide c.there_at-there.result c.there_at-there.ensures.range ∙ c.there_at-there.ensures.value ∙ ap (there_at t s d l) amount in
    let setup : wide c.setup.result ≡ setup_of t.flat s l = read_modest c.setup.result c.setup.ensures.range ∙ c.setup.ensures.value in
    on_ok_weaker c.put-2.result
    (λ e. in_six c.args.lines.now (codes "  ") (element_in_words t.flat l) (timed unit s said (there_at t s d l by)) (measured unit s (codes ", ") by)
    (timed unit s (codes " too late for its setup of ") (setup_of t.flat s l)) (10 ∷ []) c.in_ok-put.ensures.ok c.in_ok-put_element.ensures
    (c.in_ok-put_timed.ensures ∙ ap (λ v. c.put_element.new.lines ++ timed unit s v (wide c.there_at-there.result)) words ∙ ap (λ x. c.put_element.new.lines ++ timed unit s said x) there)
    (c.in_ok-put_measured.ensures ∙ ap (λ x. c.put_timed.new.lines ++ measured unit s (codes ", ") x) amount)
    (c.in_ok-put_timed-2.ensures ∙ ap (λ x. c.put_measured.new.lines ++ timed unit s (codes " too late for its setup of ") x) setup)
    e)
    c.put-2.ensures.ok

pub put_timed-requires-2 : goal.put_timed-requires-2
put_timed-requires-2 c = long_modest c.setup.result c.setup.ensures.range
