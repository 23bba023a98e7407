-- A delay at the one instance of its place, and the first refusal of delays, one by one.
use Rattle.std.proofs.Common.{◌≡◌, ◌<◌, ◌+◌, ℕ, List, [], ◌∷◌, ◌++◌, length, take, drop, get_or, Option, Some, None, refl, sym, ap, ◌∙◌, subst, arith}
use Rattle.std.specs.Option.{option_or}
use Rattle.std.proofs.lemmas.List.{take_more, drop_more, take-append-drop}
use Rattle.mintc_text.specs.declared.refusals.Refusal.{Refusal}
use Rattle.mintc_sdf.specs.declared.delays.Delay.{Delay}
use Rattle.mintc_sdf.specs.declared.delays.Place.{Place}
use Rattle.mintc_sdf.specs.declared.delays.Place.TheVariants.{Top, Every, Path}
use Rattle.mintc_flatten_hierarchy.specs.declared.hierarchy.Hierarchy.{Hierarchy}
use Rattle.mintc_flatten_hierarchy.specs.Shape.{CellTable}
use Rattle.mintc_annotate_resolve.specs.Resolution.{resolved, of_instance, of_place, leaf_called, refusal_of, first_refusal}
use Rattle.mintc_annotate_delays.specs.Groups.{path_of}
use Rattle.mintc_annotate_resolve.proofs.SharedInstanceLaws.{no_leaf_at_top}

-- at the one instance of a place
resolved_at : (h : Hierarchy) (cells : CellTable) (d : Delay) (place : Place) (path : List (List ℕ)) → path_of place ≡ Some path → of_instance h cells path d.subject (leaf_called h path) ≡ of_place h cells d place
resolved_at h cells d Top path is =
    let top : [] ≡ path = cc in
    subst (λ (p : List (List ℕ)). of_instance h cells p d.subject (leaf_called h p) ≡ of_place h cells d Top) top (ap (of_instance h cells [] d.subject) (no_leaf_at_top h))
resolved_at h cells d Every path is = absurd (cc)
resolved_at h cells d (Path named) path is =
    let same : named ≡ path = cc in
    subst (λ (p : List (List ℕ)). of_instance h cells p d.subject (leaf_called h p) ≡ of_place h cells d (Path named)) same refl

pub path_resolved : (h : Hierarchy) (cells : CellTable) (d : Delay) (path : List (List ℕ)) → path_of d.place ≡ Some path → of_instance h cells path d.subject (leaf_called h path) ≡ resolved h cells d
path_resolved h cells d path is = resolved_at h cells d d.place path is

-- ---- refusals
or_assoc : (a b c : Option Refusal) → option_or a (option_or b c) ≡ option_or (option_or a b) c
or_assoc a b c = grind arith

pub refusal_append : (h : Hierarchy) (cells : CellTable) (xs ys : List Delay) → first_refusal h cells (xs ++ ys) ≡ option_or (first_refusal h cells xs) (first_refusal h cells ys)
refusal_append h cells [] ys = refl
refusal_append h cells (d ∷ xs) ys = rw (refusal_append h cells xs ys, or_assoc) refl

pub unrefused_more : (h : Hierarchy) (cells : CellTable) (ds : List Delay) (k : ℕ) (d : Delay) → k < length ds → d ≡ get_or ds k d → first_refusal h cells (take k ds) ≡ None → refusal_of d.entry (resolved h cells d) ≡ None → first_refusal h cells (take (k + 1) ds) ≡ None
unrefused_more h cells ds k d within is before here = rw (take_more ds k d within, ← is, refusal_append h cells (take k ds) (d ∷ []), before, here) refl

pub refused_here : (h : Hierarchy) (cells : CellTable) (ds : List Delay) (k : ℕ) (d : Delay) (r : Refusal) → k < length ds → d ≡ get_or ds k d → first_refusal h cells (take k ds) ≡ None → refusal_of d.entry (resolved h cells d) ≡ Some r → first_refusal h cells ds ≡ Some r
refused_here h cells ds k d r within is before here =
    ap (first_refusal h cells) (sym (take-append-drop k ds) ∙ ap (λ (l : List Delay). take k ds ++ l) (drop_more ds k d within ∙ ap (λ (x : Delay). x ∷ drop (k + 1) ds) (sym is)))
    ∙ rw (refusal_append h cells (take k ds) (d ∷ drop (k + 1) ds), before, here) refl
