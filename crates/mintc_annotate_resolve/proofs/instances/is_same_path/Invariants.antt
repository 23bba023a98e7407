use Rattle.std.proofs.Common.{◌≡◌, drop}
use Rattle.mintc_annotate_resolve.specs.Resolution.{same_path}
use Rattle.mintc_annotate_resolve.proofs.instances.is_same_path.Given as goal

-- it depends on the names that are left
abbrev pub invariant-loop-number : goal.invariant-loop-number
invariant-loop-number l = same_path l.one l.other ≡ same_path (drop l.number l.one) (drop l.number l.other)
