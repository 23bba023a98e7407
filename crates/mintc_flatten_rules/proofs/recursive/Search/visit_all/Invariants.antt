use Rattle.std.proofs.Common.{◌≡◌, take}
use Rattle.mintc_flatten_rules.specs.Searching.{with_bindings}
use Rattle.mintc_flatten_rules.proofs.recursive.Search.visit_all.Given as goal

-- the bindings so far are taken in
abbrev pub invariant-loop-binding : goal.invariant-loop-binding
invariant-loop-binding l = l.self ≡ with_bindings l.initial.self (take l.binding-index l.bindings)
