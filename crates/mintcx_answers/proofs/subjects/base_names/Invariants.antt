use Rattle.std.proofs.Common.{◌≡◌, length}
use Rattle.mintcx_answers.proofs.subjects.base_names.Given as goal

-- each name so far has its base
abbrev pub invariant-loop-name : goal.invariant-loop-name
invariant-loop-name l = length l.bases.items ≡ l.name-index
