use Rattle.std.proofs.Common.{◌++◌, ◌∷◌, [], List, ℕ, ap, ◌∙◌}
use Rattle.std.proofs.lemmas.Result.{on_ok_weaker}
use Rattle.mintc_text.specs.Lines.{spaced}
use Rattle.mintc_timing_text.specs.Fields.{number}
use Rattle.mintc_timing_text.specs.TableText.{kind_word}
use Rattle.mintcx_tables.proofs.PieceLaws.{more_words}
use Rattle.mintcx_tables.proofs.words.put_kind.Goals as goal

pub returns : goal.returns
returns c =
    let e = c.args.element.now in
    let name = c.in_ok-put_word.ensures ∙ ap (λ (w : List ℕ). c.args.lines.now ++ spaced (w ∷ [])) c.bytes.ensures in
    let phase = more_words c.args.lines.now c.put_word.new.lines c.numbers.new.self (e.name ∷ []) (number e.phase ∷ []) name c.in_ok-numbers.ensures.ok in
    on_ok_weaker c.put_word-2.result
    (λ done. more_words c.args.lines.now c.numbers.new.self c.put_word-2.new.lines (e.name ∷ number e.phase ∷ []) (kind_word e.flop ∷ []) phase
    (done ∙ ap (λ (w : List ℕ). c.numbers.new.self ++ spaced (w ∷ [])) c.kind_word.ensures))
    c.put_word-2.ensures
