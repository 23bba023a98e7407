use Rattle.std.proofs.Common.{◌≡◌, take}
use Rattle.toml.specs.View.{table_view}
use Rattle.liberty2toml_command.specs.Tables.{tables_of}
use Rattle.liberty2toml_command.proofs.tables.named_tables.Given as goal

abbrev pub invariant-loop-number : goal.invariant-loop-number
invariant-loop-number l = table_view l.named ≡ tables_of (take l.number l.cells)
