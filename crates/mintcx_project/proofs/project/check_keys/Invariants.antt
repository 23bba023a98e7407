use Rattle.std.proofs.Common.{◌≡◌, map}
use Rattle.toml.specs.View.{members_view}
use Rattle.mintcx_project.specs.Projects.{stray_fault}
use Rattle.mintcx_project.proofs.project.check_keys.Given as goal

-- it depends on the entries that are left
abbrev pub invariant-loop-key : goal.invariant-loop-key
invariant-loop-key l = stray_fault (map (λ k. k.now) l.keys) (members_view l.table.entries) ≡ stray_fault (map (λ k. k.now) l.keys) (members_view l.key-iterator)
