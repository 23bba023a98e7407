use Rattle.std.proofs.Common.{◌≡◌, Some, inr}
use Rattle.std.proofs.lemmas.Result.{MatchResult-weaker}
use Rattle.mintc_timing.specs.Design.{Design}
use Rattle.mintc_timing.specs.Limits.{limit_of}
use Rattle.mintc_timing_text.specs.TableReading.{ArePartsOf}
use Rattle.mintc_timing_text.specs.TableText.{NextOfTable, first, IsTableRefusal}
use Rattle.mintc_timing_text.proofs.SharedReadingLaws.{at_start}
use Rattle.mintc_timing_text.proofs.TableLaws.{HasParts-from_text, stops_weaker}
use Rattle.mintc_timing_text.proofs.table_text.read_table.Goals as goal

pub flat_of-requires : goal.flat_of-requires
flat_of-requires c =
    let text = c.args.text.now in
    let told = c.in-Ok.ensures text (at_start NextOfTable first text c.new-reader.result c.requires c.new-reader.ensures.left c.new-reader.ensures.number) in
    (told.0, HasParts-from_text text told.0 told.1, told.2)

pub returns-in-Ok-clause-stop : goal.returns-in-Ok-clause-stop
returns-in-Ok-clause-stop c =
    let text = c.args.text.now in
    let told = c.in-Ok.ensures text (at_start NextOfTable first text c.new-reader.result c.requires c.new-reader.ensures.left c.new-reader.ensures.number) in
    MatchResult-weaker c.flat_of.result c.flat_of.ensures.stop (λ flat h. h)
    (λ s. stops_weaker (λ r. (d : Design) → ArePartsOf d c.in-Ok.parts → limit_of c.args.limits.now d ≡ Some r) (IsTableRefusal c.args.limits.now text) s (λ r is. inr (told.0, told.1, is told.0 told.2)))
