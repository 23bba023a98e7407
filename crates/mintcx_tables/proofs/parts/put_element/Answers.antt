use Rattle.std.proofs.Common.{◌∷◌, [], codes}
use Rattle.std.proofs.lemmas.Result.{on_ok_weaker}
use Rattle.mintc_timing_text.specs.Fields.{number}
use Rattle.mintc_timing_text.specs.TableText.{kind_word}
use Rattle.mintcx_tables.specs.Lines.{margin_words, time_words}
use Rattle.mintcx_tables.proofs.PieceLaws.{line_of_three}
use Rattle.mintcx_tables.proofs.parts.put_element.Goals as goal

pub returns : goal.returns
returns c =
    let e = c.args.element.now in
    on_ok_weaker c.put-2.result
    (λ done. line_of_three c.args.lines.now c.put.new.self c.put_kind.new.lines c.put_margins.new.lines c.put_times.new.lines c.put-2.new.self (codes "element")
    (e.name ∷ number e.phase ∷ kind_word e.flop ∷ []) (margin_words e) (time_words e)
    c.in_ok-put.ensures.ok c.in_ok-put_kind.ensures c.in_ok-put_margins.ensures c.in_ok-put_times.ensures done)
    c.put-2.ensures.ok
