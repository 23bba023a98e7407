use Rattle.mintc_timing_text.specs.Fields.{IsWordLine}
use Rattle.mintc_timing_text.proofs.SharedLineLaws.{word_form}
use Rattle.mintc_timing_text.proofs.SharedReadingLaws.{read_there}
use Rattle.mintc_timing_text.proofs.reader.Reader.word_line.Goals as goal

pub returns-clause-read : goal.returns-clause-read
returns-clause-read c =
    let told = c.in_ok-fields.ensures in
    read_there (IsWordLine c.args.word.now) (λ x. tt) c.args.self.now.left c.fields.new.self.left c.in_ok-fields.fields c.word_of.result (word_form c.args.word.now c.requires).plain told.whole told.only c.word_of.ensures
