use Rattle.std.proofs.Common.{◌≡◌, length}
use Rattle.mintc_liberty_tokens.specs.Tokens.{is_item, names_in}
use Rattle.mintc_liberty_tokens.specs.Statements.{taken}
use Rattle.mintc_liberty_cell.specs.Expressions.{is_among}
use Rattle.mintc_senses.proofs.groups.has_name.Given as goal

-- the names that are passed are others
abbrev pub invariant-loop-next : goal.invariant-loop-next
invariant-loop-next l = is_among (names_in (taken is_item l.initial.items)) l.name ≡ is_among (names_in (taken is_item l.items)) l.name

abbrev pub decreases-loop-next : goal.decreases-loop-next
decreases-loop-next l = length l.items
