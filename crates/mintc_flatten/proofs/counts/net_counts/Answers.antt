use Rattle.std.proofs.Common.{◌≡◌, ◌+◌, ◌<◌, ◌++◌, ◌∷◌, [], ℕ, List, map, take, min, length, get_or, sym, ap, ◌∙◌, subst}
use Rattle.std.proofs.lemmas.List.{take_more, map-append, get_or-map, length-map}
use Rattle.mintc_text.specs.declared.limits.TheConstants.{MOST_TOLD}
use Rattle.mintc_netlist_nets.specs.Tables.{NetTable, table_of}
use Rattle.mintc_flatten_hierarchy.specs.Sources.{no_module}
use Rattle.mintc_flatten.specs.Totals.{net_count}
use Rattle.mintc_flatten.proofs.counts.net_counts.Goals as goal

pub loop-table-preserved : goal.loop-table-preserved
loop-table-preserved c =
    let ms = c.args.modules.now in
    let k = c.loop-table.table-index in
    let table = c.table-item.result in
    let inside : k < length ms = subst (λ (n : ℕ). k < n) (length-map ms table_of) (subst (λ (ts : List NetTable). k < length ts) c.requires c.loop-table-test.true) in
    let is : table ≡ table_of (get_or ms k no_module) = c.table-item.is ∙ ap (λ (ts : List NetTable). get_or ts k table) c.requires ∙ get_or-map table_of ms k no_module table inside in
    let count : c.min.result ≡ net_count (get_or ms k no_module) = c.min.ensures ∙ ap (λ (n : ℕ). min n MOST_TOLD) (c.count.ensures ∙ ap (λ (t : NetTable). t.count) is) in
    let longer : take (k + 1) ms ≡ take k ms ++ get_or ms k no_module ∷ [] = take_more ms k no_module inside in
    c.in_ok-push.ensures.items
    ∙ ap (λ (ns : List ℕ). ns ++ c.min.result ∷ []) c.loop-table.invariant
    ∙ ap (λ (n : ℕ). map net_count (take k ms) ++ n ∷ []) count
    ∙ sym (map-append net_count (take k ms) (get_or ms k no_module ∷ []))
    ∙ sym (ap (map net_count) longer)
