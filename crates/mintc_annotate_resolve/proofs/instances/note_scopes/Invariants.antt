use Rattle.std.proofs.Common.{◌≤◌}
use Rattle.mintc_annotate_resolve.specs.Pins.{scope_path}
use Rattle.mintc_annotate_resolve.specs.Instances.{AreFirst, AreSeen}
use Rattle.mintc_annotate_resolve.proofs.instances.note_scopes.Given as goal

-- the scopes so far are taken in
abbrev pub invariant-loop-number : goal.invariant-loop-number
invariant-loop-number l = (1 ≤ l.number) × AreFirst l.hierarchy l.number l.firsts.items × AreSeen l.hierarchy (scope_path l.hierarchy) l.number l.children
