use Rattle.std.proofs.Common.{◌≡◌, ap, ◌∙◌, sym}
use Rattle.mintc_text.specs.Lines.{words}
use Rattle.mintc_timing_text.specs.Fields.{fields_of}
use Rattle.mintc_timing_text.specs.Reading.{Reading}
use Rattle.mintc_timing_text.proofs.SharedFieldsLaws.{fields-words}
use Rattle.mintc_timing_text.proofs.SharedReadingLaws.{one_line, line_free, words_free}
use Rattle.mintc_timing_text.proofs.reader.Reader.fields.Goals as goal

pub returns-clause-only : goal.returns-clause-only
returns-clause-only c = λ ws more plain_words e.
    let line = c.in_ok-line.line.now in
    let seen : c.args.self.now.left ≡ c.self.inside.text = ap (λ (r : Reading). r.left) (sym c.self.view_is) in
    let same = one_line line (words ws) c.line.new.self more (line_free line c.in_ok-line.ensures.free) (words_free ws plain_words) (sym c.in_ok-line.ensures.found ∙ sym seen ∙ e) in
    c.new.ensures ∙ ap fields_of same.0 ∙ fields-words ws plain_words
