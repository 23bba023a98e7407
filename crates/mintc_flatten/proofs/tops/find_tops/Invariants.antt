use Rattle.std.proofs.Common.{◌≡◌, ◌&&◌, not, filter}
use Rattle.std.specs.List.{range_with_len}
use Rattle.std.specs.Option.{option_copied}
use Rattle.mintc_flatten_hierarchy.specs.Sources.{source_of, module_at, is_stub}
use Rattle.mintc_flatten_hierarchy.specs.Refusals.{may_be_top}
use Rattle.mintc_flatten.proofs.tops.find_tops.Given as goal

abbrev pub invariant-loop-number : goal.invariant-loop-number
invariant-loop-number l = let s = source_of l.cells l.modules in
    l.tops.items ≡ filter (λ k. not (is_stub s (module_at s k)) && may_be_top s (option_copied l.top) k) (range_with_len 0 l.number)
