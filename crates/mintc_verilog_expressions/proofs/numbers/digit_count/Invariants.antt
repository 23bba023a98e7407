use Rattle.std.proofs.Common.{◌≡◌, ◌+◌, drop}
use Rattle.mintc_vlex.specs.declared.bytes.Class.TheVariants as class
use Rattle.mintc_vlex.specs.Bytes.{is_in, run}
use Rattle.mintc_verilog_expressions.proofs.numbers.digit_count.Given as goal

abbrev pub invariant-loop-at : goal.invariant-loop-at
invariant-loop-at l = run (is_in class.Digit) l.bytes ≡ l.at + run (is_in class.Digit) (drop l.at l.bytes)
