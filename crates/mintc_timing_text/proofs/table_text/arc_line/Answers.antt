use Rattle.std.proofs.Common.{arith}
use Rattle.mintc_timing_text.specs.TableText.{IsArcLine}
use Rattle.mintc_timing_text.proofs.SharedFieldsLaws.{seen}
use Rattle.mintc_timing_text.proofs.SharedReadingLaws.{read_there}
use Rattle.mintc_timing_text.proofs.TablePlain.{arc_form}
use Rattle.mintc_timing_text.proofs.table_text.arc_line.Goals as goal

pub returns-in_err-fields-clause-read : goal.returns-in_err-fields-clause-read
returns-in_err-fields-clause-read c = let none = c.in_err-fields.ensures.none in grind (arith, seen, none)

pub returns-clause-read : goal.returns-clause-read
returns-clause-read c =
    let told = c.in_ok-fields.ensures in
    read_there (IsArcLine c.args.elements c.args.inner) (λ x. x) c.args.reader.now.left c.fields.new.self.left c.in_ok-fields.fields c.arc_of.result
    (arc_form c.args.elements c.args.inner c.requires.elements c.requires.inner).plain told.whole told.only c.arc_of.ensures
