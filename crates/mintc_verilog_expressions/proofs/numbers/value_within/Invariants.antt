use Rattle.std.proofs.Common.{◌≡◌, ◌≤◌, drop}
use Rattle.mintc_verilog_expressions.specs.Lexemes.{value_from}
use Rattle.mintc_verilog_expressions.proofs.numbers.value_within.Given as goal

abbrev pub invariant-loop-at : goal.invariant-loop-at
invariant-loop-at l = record { most : l.value ≤ l.most; whole : value_from 0 l.digits ≡ value_from l.value (drop l.at l.digits) }
