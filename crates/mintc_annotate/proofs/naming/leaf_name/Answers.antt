use Rattle.std.proofs.Common.{◌≡◌, ◌∙◌, ◌++◌, ◌∷◌, [], ℕ, List, slice_index_or, sym, ap}
use Rattle.std.proofs.lemmas.List.{get_or_default}
use Rattle.std.proofs.lemmas.Result.{IfOk-weaker}
use Rattle.mintc_flatten_hierarchy.specs.declared.hierarchy.Leaf.{Leaf}
use Rattle.mintc_annotate_resolve.specs.Pins.{no_leaf, leaf_at, scope_path, dotted}
use Rattle.mintc_annotate_resolve.specs.Names.{front_of}
use Rattle.mintc_annotate_resolve.proofs.SharedNameLaws.{dotted_push}
use Rattle.mintc_annotate.proofs.naming.leaf_name.Goals as goal

pub returns : goal.returns
returns c =
    let at : leaf_at c.args.hierarchy.now c.args.number ≡ c.index-items-number.result =
    get_or_default c.args.hierarchy.now.leaves c.args.number no_leaf c.index-items-number.result c.requires.leaf ∙ ap (λ ls. slice_index_or ls c.args.number c.index-items-number.result) (sym c.items.ensures) ∙ sym c.index-items-number.is in
    let front : List ℕ = front_of (scope_path c.args.hierarchy.now c.index-items-number.result.scope) in
    let whole : c.deref.result.now ≡ front ++ c.index-items-number.result.name =
    c.deref.ensures.value ∙ c.into_bytes.ensures ∙ c.in_ok-put.ensures.ok ∙ ap (λ l. l ++ c.bytes.result.now) (c.in_ok-put_front.ensures ∙ ap (λ l. l ++ front) c.new-lines.ensures) ∙ ap (λ l. front ++ l) c.bytes.ensures in
    IfOk-weaker c.new.result _ _ (λ name e. e ∙ whole ∙ sym (dotted_push (scope_path c.args.hierarchy.now c.index-items-number.result.scope) c.index-items-number.result.name)
    ∙ ap (λ (x : Leaf). dotted (scope_path c.args.hierarchy.now x.scope ++ x.name ∷ [])) (sym at)) c.new.ensures
