use Rattle.std.proofs.Common.{◌≡◌, ◌==◌, ◌&&◌, not, drop}
use Rattle.std.specs.List.{list_any}
use Rattle.mintcx_lint.proofs.outputs.has_element_on.Given as goal

-- it depends on the elements that are left
abbrev pub invariant-loop-element : goal.invariant-loop-element
invariant-loop-element l = list_any (λ e. e.phase == l.phase) l.elements ≡ list_any (λ e. e.phase == l.phase) (drop l.element-index l.elements)
