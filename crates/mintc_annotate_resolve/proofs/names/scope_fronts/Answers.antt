use Rattle.std.proofs.Common.{◌≡◌, ◌∙◌, ◌+◌, ap, sym, subst, List, ℕ, slice_index_or, length, arith, ◌<◌}
use Rattle.std.proofs.lemmas.List.{get_or_default}
use Rattle.mintc_annotate_resolve.specs.Names.{AreFronts, next_front}
use Rattle.mintc_annotate_resolve.specs.Pins.{scope_at, no_scope}
use Rattle.mintc_annotate_resolve.proofs.SharedNameLaws.{fronts_push}
use Rattle.mintc_annotate_resolve.proofs.names.scope_fronts.Goals as goal

pub loop-number-preserved : goal.loop-number-preserved
loop-number-preserved c =
    let within : c.loop-number.number < length c.args.hierarchy.now.scopes = omega (arith, c.loop-number-test.true, ap length c.items-scopes.ensures) in
    let at : scope_at c.args.hierarchy.now c.loop-number.number ≡ c.index-scopes-number.result =
    get_or_default c.args.hierarchy.now.scopes c.loop-number.number no_scope c.index-scopes-number.result within
    ∙ ap (λ ls. slice_index_or ls c.loop-number.number c.index-scopes-number.result) (sym c.items-scopes.ensures) ∙ sym c.index-scopes-number.is in
    let named : c.in_ok-name.name ≡ next_front c.loop-number.found.items c.loop-number.number (scope_at c.args.hierarchy.now c.loop-number.number) =
    c.in_ok-name.ensures ∙ ap (λ l. next_front l c.loop-number.number c.index-scopes-number.result) c.deref.ensures.value ∙ ap (next_front c.loop-number.found.items c.loop-number.number) (sym at) in
    subst (λ (l : List (List ℕ)). AreFronts c.args.hierarchy.now (c.loop-number.number + 1) l) (sym c.in_ok-push.ensures.items)
    (fronts_push c.args.hierarchy.now c.loop-number.found.items c.loop-number.number c.in_ok-name.name c.requires.parents c.loop-number.invariant within named)
