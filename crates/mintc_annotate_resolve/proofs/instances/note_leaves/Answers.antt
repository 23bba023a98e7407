use Rattle.std.proofs.Common.{◌≡◌, ◌<◌, ◌++◌, ◌∷◌, [], ℕ, List, length, slice_index_or, sym, ap, ◌∙◌, subst, arith}
use Rattle.std.proofs.lemmas.List.{get_or_default}
use Rattle.mintc_flatten_hierarchy.specs.declared.hierarchy.Leaf.{Leaf}
use Rattle.mintc_annotate_resolve.specs.Pins.{leaf_at, no_leaf, scope_path, leaf_path}
use Rattle.mintc_annotate_resolve.proofs.SharedInstanceLaws.{StandsFor, stands_for, leaf_path_at, seen_more}
use Rattle.mintc_annotate_resolve.proofs.instances.note_leaves.Goals as goal

pub loop-number-preserved : goal.loop-number-preserved
loop-number-preserved c =
    let h = c.args.hierarchy.now in
    let n = c.loop-number.number in
    let leaf = c.index-leaves-number.result in
    let f = slice_index_or c.args.firsts.now leaf.scope 0 in
    let within : n < length h.leaves = omega (arith, c.loop-number-test.true, ap length c.items-leaves.ensures) in
    let at : leaf_at h n ≡ leaf =
    get_or_default h.leaves n no_leaf leaf within ∙ ap (λ (ls : List Leaf). slice_index_or ls n leaf) (sym c.items-leaves.ensures) ∙ sym c.index-leaves-number.is in
    let below : leaf.scope < length h.scopes = subst (λ (x : Leaf). x.scope < length h.scopes) at (c.requires.names.leaves n no_leaf within) in
    let stands : StandsFor h f leaf.scope =
    stands_for h (length h.scopes) c.args.firsts.now leaf.scope f c.requires.firsts below (get_or_default c.args.firsts.now leaf.scope 0 f (omega (arith, below, c.requires.firsts.size))) in
    let name = c.bytes.result.now in
    let path : leaf_path h n ≡ scope_path h f ++ name ∷ [] = leaf_path_at h n f leaf at stands ∙ ap (λ (m : List ℕ). scope_path h f ++ m ∷ []) (sym c.bytes.ensures) in
    let noted = c.in_ok-note.ensures.first in
    seen_more h (leaf_path h) n c.loop-number.children c.note.new.children f name c.in_ok-note.field-0 c.loop-number.invariant stands.first path noted.0 noted.1 c.in_ok-note.ensures.seen
