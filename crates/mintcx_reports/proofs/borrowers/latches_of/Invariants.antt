use Rattle.std.proofs.Common.{◌≡◌}
use Rattle.std.specs.Prelude.{filter}
use Rattle.std.specs.List.{range_with_len}
use Rattle.mintcx_reports.specs.Borrowers.{may_borrow}
use Rattle.mintcx_reports.proofs.borrowers.latches_of.Given as goal

-- the latches so far
abbrev pub invariant-loop-element : goal.invariant-loop-element
invariant-loop-element l = l.latches.items ≡ filter (may_borrow l.system) (range_with_len 0 l.element)
