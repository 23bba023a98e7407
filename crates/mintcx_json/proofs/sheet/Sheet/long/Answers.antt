use Rattle.std.specs.Int.{w128}
use Rattle.std.proofs.lemmas.Int.{to_z-of_z}
use Rattle.mintcx_json.proofs.NumberLaws.{long_is_number}
use Rattle.mintcx_json.proofs.sheet.Sheet.long.Goals as goal

pub number-requires : goal.number-requires
number-requires c = rw (c.format.ensures.text, to_z-of_z w128 c.args.value c.ranges.value) (long_is_number c.args.value c.ranges.value)
