use Rattle.std.proofs.Common.{◌≡◌, ◌∙◌, ◌≤◌, ◌++◌, ◌∷◌, [], ℕ, List, slice_index_or, sym, ap, arith, append_assoc}
use Rattle.std.proofs.lemmas.List.{get_or_default}
use Rattle.std.proofs.lemmas.Result.{on_ok_weaker}
use Rattle.mintc_annotate_resolve.specs.Pins.{no_scope, scope_at, scope_path}
use Rattle.mintc_annotate_resolve.specs.Names.{front_of}
use Rattle.mintc_annotate.proofs.BuildLaws.{front_below}
use Rattle.mintc_annotate.proofs.naming.+put_front.Goals as goal

pub returns : goal.returns
returns t c =
    let at : scope_at c.args.hierarchy.now c.args.number ≡ c.index-items-number.result =
    get_or_default c.args.hierarchy.now.scopes c.args.number no_scope c.index-items-number.result c.requires.scope ∙ ap (λ ls. slice_index_or ls c.args.number c.index-items-number.result) (sym c.items.ensures) ∙ sym c.index-items-number.is in
    let some : 1 ≤ c.args.number = omega (arith, c.if-number-eq0.false) in
    let front : List ℕ = front_of (scope_path c.args.hierarchy.now c.index-items-number.result.parent) in
    let name : List ℕ = c.index-items-number.result.name in
    on_ok_weaker c.put-2.result (λ e.
    e ∙ ap (λ l. l ++ 46 ∷ []) (c.in_ok-put.ensures.ok ∙ ap (λ l. l ++ c.bytes.result.now) c.in_ok-put_front.ensures ∙ ap (λ l. c.args.lines.now ++ front ++ l) c.bytes.ensures)
    ∙ append_assoc (c.args.lines.now ++ front) name (46 ∷ []) ∙ append_assoc c.args.lines.now front (name ++ 46 ∷ [])
    ∙ ap (λ l. c.args.lines.now ++ l) (sym (front_below c.args.hierarchy.now c.args.number c.index-items-number.result c.requires.names.parents some c.requires.scope at))) c.put-2.ensures.ok
