use Rattle.std.proofs.Common.{◌≡◌, ◌<◌, ◌+◌, ◌++◌, ◌∷◌, [], ℕ, List, length, slice_index_or, sym, ap, ◌∙◌, subst, arith}
use Rattle.std.proofs.lemmas.List.{get_or_default}
use Rattle.mintc_flatten_hierarchy.specs.declared.hierarchy.Scope.{Scope}
use Rattle.mintc_annotate_resolve.specs.Pins.{scope_at, no_scope, scope_path}
use Rattle.mintc_annotate_resolve.specs.Instances.{AreFirst, key_of}
use Rattle.mintc_annotate_resolve.proofs.SharedInstanceLaws.{StandsFor, stands_for, scope_path_at, seen_more, noted_first, first_push, top_first, none_in_top}
use Rattle.mintc_annotate_resolve.proofs.instances.note_scopes.Goals as goal

pub loop-number-init : goal.loop-number-init
loop-number-init c = (
  omega arith,
  subst (AreFirst c.args.hierarchy.now 1) (sym (c.in_ok-push.ensures.items ∙ ap (λ (l : List ℕ). l ++ 0 ∷ []) c.new-firsts.ensures.items)) (top_first c.args.hierarchy.now c.requires.some),
  λ s first name its. c.requires.empty (key_of s name) ∙ sym (none_in_top c.args.hierarchy.now (scope_path c.args.hierarchy.now s) name),
)

pub loop-number-preserved : goal.loop-number-preserved
loop-number-preserved c =
    let h = c.args.hierarchy.now in
    let n = c.loop-number.number in
    let scope = c.index-scopes-number.result in
    let within : n < length h.scopes = omega (arith, c.loop-number-test.true, ap length c.items-scopes.ensures) in
    let at : scope_at h n ≡ scope =
    get_or_default h.scopes n no_scope scope within ∙ ap (λ (ls : List Scope). slice_index_or ls n scope) (sym c.items-scopes.ensures) ∙ sym c.index-scopes-number.is in
    let below : scope.parent < n = subst (λ (x : Scope). x.parent < n) at (c.requires.parents.parents n no_scope c.loop-number.invariant.0 within) in
    let stands : StandsFor h c.index-parent.result.now scope.parent = stands_for h n c.loop-number.firsts.items scope.parent c.index-parent.result.now c.loop-number.invariant.1 below c.index-parent.ensures in
    let f = c.index-parent.result.now in
    let name = c.bytes.result.now in
    let path : scope_path h n ≡ scope_path h f ++ name ∷ [] =
    scope_path_at h n f scope c.requires.parents c.loop-number.invariant.0 within at stands ∙ ap (λ (m : List ℕ). scope_path h f ++ m ∷ []) (sym c.bytes.ensures) in
    let noted = c.in_ok-first.ensures.first in (
      omega (arith, c.loop-number.invariant.0),
      subst (AreFirst h (n + 1)) (sym c.in_ok-push-2.ensures.items)
          (first_push h n c.in_ok-first.first c.loop-number.firsts.items c.loop-number.invariant.1
          (noted_first h n c.loop-number.children f name c.in_ok-first.first c.loop-number.invariant.2 stands.first path within noted.0 noted.1)),
      seen_more h (scope_path h) n c.loop-number.children c.note.new.children f name c.in_ok-first.first c.loop-number.invariant.2 stands.first path noted.0 noted.1 c.in_ok-first.ensures.seen,
    )
