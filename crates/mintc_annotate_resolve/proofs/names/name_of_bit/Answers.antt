use Rattle.std.proofs.Common.{◌≡◌, ◌<◌, ◌∙◌, ◌++◌, ◌∷◌, [], ap, sym, subst, List, ℕ, slice_index_or, length, arith}
use Rattle.std.proofs.lemmas.List.{get_or_default}
use Rattle.std.proofs.lemmas.Result.{IfOk-weaker}
use Rattle.mintc_flatten_hierarchy.specs.Shape.{IsInner}
use Rattle.mintc_annotate_resolve.specs.Names.{front_of}
use Rattle.mintc_annotate_resolve.specs.Pins.{inner_name, index_text, scope_path, leaf_at, no_leaf}
use Rattle.mintc_annotate_resolve.proofs.SharedNameLaws.{net_called, pin_called}
use Rattle.mintc_annotate_resolve.proofs.names.name_of_bit.Goals as goal

pub returns-in-Net : goal.returns-in-Net
returns-in-Net c =
    let within : c.in-Net.scope < length c.args.hierarchy.now.scopes = subst (IsInner c.args.hierarchy.now) c.in-Net.is c.requires.inner in
    let front : c.bytes.result.now ≡ front_of (scope_path c.args.hierarchy.now c.in-Net.scope) =
    c.bytes.ensures ∙ c.index-fronts-scope.is ∙ get_or_default c.args.fronts.now c.in-Net.scope c.index-fronts-scope.result [] (omega (arith, within, c.requires.fronts.size)) ∙ c.requires.fronts.each c.in-Net.scope within in
    IfOk-weaker c.net_name.result _ _ (λ n e. e ∙ ap (λ (name : List ℕ). c.bytes.result.now ++ name ++ index_text c.in-Net.index) c.bytes-in-Net.ensures
    ∙ net_called c.args.hierarchy.now c.in-Net.scope c.in-Net.name c.in-Net.index c.bytes.result.now front ∙ ap (inner_name c.args.hierarchy.now) (sym c.in-Net.is)) c.net_name.ensures

pub returns-in_ok-front-in-Pin : goal.returns-in_ok-front-in-Pin
returns-in_ok-front-in-Pin c =
    let within : c.in-Pin.leaf < length c.args.hierarchy.now.leaves = subst (IsInner c.args.hierarchy.now) c.in-Pin.is c.requires.inner in
    let at : leaf_at c.args.hierarchy.now c.in-Pin.leaf ≡ c.index-items-leaf.result =
    get_or_default c.args.hierarchy.now.leaves c.in-Pin.leaf no_leaf c.index-items-leaf.result within
    ∙ ap (λ ls. slice_index_or ls c.in-Pin.leaf c.index-items-leaf.result) (sym c.items.ensures) ∙ sym c.index-items-leaf.is in
    let scope : c.index-items-leaf.result.scope < length c.args.hierarchy.now.scopes = subst (λ leaf. leaf.scope < length c.args.hierarchy.now.scopes) at (c.requires.shape.leaves c.in-Pin.leaf no_leaf within) in
    let front : c.bytes-in-Pin.result.now ≡ front_of (scope_path c.args.hierarchy.now c.index-items-leaf.result.scope) =
    c.bytes-in-Pin.ensures ∙ c.index-fronts-leaf.is
    ∙ get_or_default c.args.fronts.now c.index-items-leaf.result.scope c.index-fronts-leaf.result [] (omega (arith, scope, c.requires.fronts.size)) ∙ c.requires.fronts.each c.index-items-leaf.result.scope scope in
    let start : c.bytes-in-Pin-3.result.now ≡ c.bytes-in-Pin.result.now ++ c.index-items-leaf.result.name ++ 46 ∷ [] =
    c.bytes-in-Pin-3.ensures ∙ c.in_ok-front-in-Pin.ensures ∙ ap (λ (name : List ℕ). c.bytes-in-Pin.result.now ++ name ++ 46 ∷ []) c.bytes-in-Pin-2.ensures in
    IfOk-weaker c.concatenate-in-Pin.result _ _ (λ n e. e ∙ ap (λ (f : List ℕ). f ++ c.bytes-in-Pin-4.result.now ++ []) start ∙ ap (λ (pin : List ℕ). (c.bytes-in-Pin.result.now ++ c.index-items-leaf.result.name ++ 46 ∷ []) ++ pin ++ []) c.bytes-in-Pin-4.ensures
    ∙ pin_called c.args.hierarchy.now c.in-Pin.leaf c.index-items-leaf.result c.in-Pin.pin c.bytes-in-Pin.result.now at front ∙ ap (inner_name c.args.hierarchy.now) (sym c.in-Pin.is)) c.concatenate-in-Pin.ensures
