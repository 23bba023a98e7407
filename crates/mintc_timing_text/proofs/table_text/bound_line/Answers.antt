use Rattle.std.proofs.Common.{arith}
use Rattle.mintc_timing_text.specs.TableText.{IsBoundLine}
use Rattle.mintc_timing_text.proofs.SharedReadingLaws.{read_there}
use Rattle.mintc_timing_text.proofs.TablePlain.{bound_form}
use Rattle.mintc_timing_text.proofs.TableReading.{seen_points}
use Rattle.mintc_timing_text.proofs.table_text.bound_line.Goals as goal

pub returns-in_err-fields-clause-read : goal.returns-in_err-fields-clause-read
returns-in_err-fields-clause-read c = let none = c.in_err-fields.ensures.none in let few = c.requires in grind (arith, seen_points, none)

pub returns-clause-read : goal.returns-clause-read
returns-clause-read c =
    let told = c.in_ok-fields.ensures in
    read_there (IsBoundLine c.args.phases) (λ x. x) c.args.reader.now.left c.fields.new.self.left c.in_ok-fields.fields c.bound_of.result (bound_form c.args.phases c.requires).plain told.whole told.only c.bound_of.ensures
