use Rattle.std.proofs.Common.{◌≡◌}
use Rattle.mintc_timing_text.specs.TableText.{inner_names}
use Rattle.mintc_timing_text.proofs.table_text.inner_names.Given as goal

-- the names so far
abbrev pub invariant-loop-number : goal.invariant-loop-number
invariant-loop-number l = l.names.items ≡ inner_names l.number
