use Rattle.std.proofs.Common.{◌≡◌, drop}
use Rattle.std.specs.List.{list_all}
use Rattle.mintc_toml.specs.Rules.{is_name}
use Rattle.mintc_cells.proofs.rules.are_all_names.Given as goal

-- it depends on the names that are left
abbrev pub invariant-loop-name : goal.invariant-loop-name
invariant-loop-name l = list_all is_name l.names ≡ list_all is_name (drop l.name-index l.names)
