use Rattle.std.proofs.Common.{w64, arith}
use Rattle.std.proofs.lemmas.Int.{to_z-of_z}
use Rattle.mintc_timing_text.proofs.SharedFieldsLaws.{seen}
use Rattle.mintc_timing_text.proofs.reader.Reader.number_line.Goals as goal

pub returns-in_err-fields-clause-read : goal.returns-in_err-fields-clause-read
returns-in_err-fields-clause-read c = let none = c.in_err-fields.ensures.none in grind (arith, seen, none)

pub returns-clause-read : goal.returns-clause-read
returns-clause-read c =
    let number = rw (to_z-of_z w64 c.args.least c.ranges.least, to_z-of_z w64 c.args.most c.ranges.most) at c.number_of.ensures in
    grind (arith, seen)
