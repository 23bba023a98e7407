use Rattle.std.proofs.Common.{◌≡◌, take}
use Rattle.toml.specs.View.{items_view}
use Rattle.liberty2toml_command.specs.Tables.{text_items}
use Rattle.liberty2toml_command.proofs.tables.texts_value.Given as goal

abbrev pub invariant-loop-at : goal.invariant-loop-at
invariant-loop-at l = items_view l.items.items ≡ text_items (take l.at l.names)
