use Rattle.std.proofs.Common.{◌≡◌, ◌≤◌, ◌+◌, length}
use Rattle.mintc_liberty_tokens.specs.Statements.{front, count}
use Rattle.mintc_liberty.proofs.texts.syntax_of.Given as goal

-- what is left in the end is the same, and so many statements are passed
abbrev pub invariant-loop-reader : goal.invariant-loop-reader
invariant-loop-reader l = record {
  same : (front 63 l.initial.reader).after ≡ (front 63 l.reader).after;
  counted : count (front 63 l.initial.reader).statements ≡ l.count + count (front 63 l.reader).statements;
  few : l.count + length l.reader ≤ length l.initial.reader;
}

abbrev pub decreases-loop-reader : goal.decreases-loop-reader
decreases-loop-reader l = length l.reader
