use Rattle.std.proofs.Common.{◌≡◌, List, length}
use Rattle.mintc_sdf_tokens.specs.Items.{Items}
use Rattle.mintc_sdf_edges.specs.Walking.{spelled, IsOn}
use Rattle.mintc_sdf_edges.proofs.texts.walk.Given as goal

-- rows are left that complete what is known
abbrev pub invariant-loop-spans : goal.invariant-loop-spans
invariant-loop-spans l = (rows : List Items) → l.initial.reader ≡ spelled rows → IsOn l.initial.telling rows l.telling l.reader

abbrev pub decreases-loop-spans : goal.decreases-loop-spans
decreases-loop-spans l = length l.reader
