use Rattle.std.proofs.Common.{◌≡◌, ◌≤◌}
use Rattle.mintc_senses_expressions.specs.Reading.{start}
use Rattle.mintc_senses_expressions.specs.Seen.{seen, read_from}
use Rattle.mintc_senses_expressions.proofs.readings.read.Given as goal

-- what is left comes to what all does
abbrev pub invariant-loop-place : goal.invariant-loop-place
invariant-loop-place l = record {
  word : l.from ≤ l.place;
  same : read_from l.name l.text 0 0 start ≡ read_from l.name l.text l.from l.place (seen l.reading);
}
