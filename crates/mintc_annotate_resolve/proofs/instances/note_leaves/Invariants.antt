use Rattle.mintc_annotate_resolve.specs.Pins.{leaf_path}
use Rattle.mintc_annotate_resolve.specs.Instances.{AreSeen}
use Rattle.mintc_annotate_resolve.proofs.instances.note_leaves.Given as goal

-- the leaves so far are taken in
abbrev pub invariant-loop-number : goal.invariant-loop-number
invariant-loop-number l = AreSeen l.hierarchy (leaf_path l.hierarchy) l.number l.children
