use Rattle.std.proofs.Common.{option_map, map, reverse, sym, ap}
use Rattle.mintc_senses_expressions.specs.Reading.{among}
use Rattle.mintc_senses_expressions.specs.Seen.{level_seen}
use Rattle.mintc_senses_expressions.proofs.readings.Reading.operate.Goals as goal

pub returns-in-Some : goal.returns-in-Some
returns-in-Some c = ap (option_map (among (reverse (map level_seen c.args.self.now.outside.items)))) (sym c.in-Some.ensures)

pub returns-in-None : goal.returns-in-None
returns-in-None c = ap (option_map (among (reverse (map level_seen c.args.self.now.outside.items)))) (sym c.in-None.ensures)
