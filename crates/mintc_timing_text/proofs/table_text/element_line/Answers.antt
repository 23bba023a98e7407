use Rattle.std.proofs.Common.{arith}
use Rattle.mintc_timing_text.specs.ElementWords.{named}
use Rattle.mintc_timing_text.specs.TableText.{IsElementLine}
use Rattle.mintc_timing_text.proofs.SharedReadingLaws.{read_there}
use Rattle.mintc_timing_text.proofs.TableReading.{plain-element_line}
use Rattle.mintc_timing_text.proofs.table_text.element_line.Goals as goal

pub returns-in_err-fields-clause-read : goal.returns-in_err-fields-clause-read
returns-in_err-fields-clause-read c =
    rw c.from_residual.ensures (λ e line more whole s. let same = s.2 in c.in_err-fields.ensures.none s.0 more (plain-element_line c.args.version c.args.phases (omega arith) e s.0 s.1) cc)

pub returns-clause-read : goal.returns-clause-read
returns-clause-read c =
    let told = c.in_ok-fields.ensures in
    read_there (IsElementLine c.args.version c.args.phases) (λ found. named found.0.now found.1) c.args.reader.now.left c.fields.new.self.left c.in_ok-fields.fields c.element_of.result
    (plain-element_line c.args.version c.args.phases (omega arith)) told.whole told.only c.element_of.ensures
