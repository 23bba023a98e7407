use Rattle.std.proofs.Common.{◌≡◌, ◌<◌, ◌≤◌, ◌+◌, ℕ, List, [], length, slice_index_or, sym, ap, ◌∙◌, subst, arith, Vec, Global}
use Rattle.std.proofs.lemmas.List.{get_or_default}
use Rattle.mintc_flatten_hierarchy.specs.declared.hierarchy.Leaf.{Leaf}
use Rattle.mintc_annotate_resolve.specs.Pins.{leaf_at, no_leaf}
use Rattle.mintc_annotate_delays.proofs.SharedGroupLaws.{cell_within, no_groups_more, groups_more, groups_all}
use Rattle.mintc_annotate_delays.proofs.groups.leaves_by_cell.Goals as goal

pub loop-cell-preserved : goal.loop-cell-preserved
loop-cell-preserved c =
    subst (λ (l : List (Vec ℕ Global)). (length l ≡ c.loop-cell.cell + 1) × ((k : ℕ) (d : Vec ℕ Global) → k < c.loop-cell.cell + 1 → (slice_index_or l k d).items ≡ [])) (sym c.in_ok-push.ensures.items)
    (no_groups_more c.loop-cell.groups.items c.loop-cell.cell c.new.result c.loop-cell.invariant.0 c.loop-cell.invariant.1 c.new.ensures.items)

pub loop-number-init : goal.loop-number-init
loop-number-init c =
    let all : c.loop-cell.cell ≡ length c.args.cells.now = omega (arith, c.loop-cell-test.false, c.loop-cell.auto.cell-end, c.count-cell-end.ensures.count) in
    (c.loop-cell.invariant.0 ∙ all, λ k d below. c.loop-cell.invariant.1 k d (omega (arith, below, all)))

pub group-requires : goal.group-requires
group-requires c =
    let h = c.args.hierarchy.now in
    let n = c.loop-number.number in
    let leaf = c.index-leaves-number.result in
    let within : n < length h.leaves = omega (arith, c.loop-number-test.true, ap length c.items-leaves.ensures) in
    let at : leaf_at h n ≡ leaf =
    get_or_default h.leaves n no_leaf leaf within ∙ ap (λ (ls : List Leaf). slice_index_or ls n leaf) (sym c.items-leaves.ensures) ∙ sym c.index-leaves-number.is in
    let cell : leaf.cell < length c.args.cells.now = subst (λ (x : Leaf). x.cell < length c.args.cells.now) at (cell_within h c.args.cells.now n c.requires within) in
    omega (arith, cell, c.loop-number.invariant.0)

pub loop-number-preserved : goal.loop-number-preserved
loop-number-preserved c =
    let h = c.args.hierarchy.now in
    let n = c.loop-number.number in
    let leaf = c.index-leaves-number.result in
    let within : n < length h.leaves = omega (arith, c.loop-number-test.true, ap length c.items-leaves.ensures) in
    let at : leaf_at h n ≡ leaf =
    get_or_default h.leaves n no_leaf leaf within ∙ ap (λ (ls : List Leaf). slice_index_or ls n leaf) (sym c.items-leaves.ensures) ∙ sym c.index-leaves-number.is in
    groups_more h (length c.args.cells.now) n leaf.cell c.loop-number.groups.items c.group.new.groups.items within (ap (λ (x : Leaf). x.cell) at) c.loop-number.invariant.0 c.in_ok-group.ensures c.loop-number.invariant.1

pub returns : goal.returns
returns c =
    let h = c.args.hierarchy.now in
    let past : length h.leaves ≤ c.loop-number.number = omega (arith, c.loop-number-test.false, ap length c.items-leaves.ensures) in
    record { size = c.loop-number.invariant.0; each = λ k d below. c.loop-number.invariant.1 k d below ∙ groups_all h c.loop-number.number k past }
