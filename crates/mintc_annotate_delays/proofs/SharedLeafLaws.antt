-- What delays annotate at one leaf after the other, and where they stop.
use Rattle.std.proofs.Common.{◌≡◌, ◌<◌, ◌+◌, ℕ, List, [], ◌∷◌, ◌++◌, length, take, drop, get_or, Some, None, refl, sym, ap, ◌∙◌, append_assoc, append-nil}
use Rattle.std.proofs.lemmas.List.{take_more, drop_more, take-append-drop}
use Rattle.mintc_text.specs.declared.refusals.Refusal.{Refusal}
use Rattle.mintc_text.specs.declared.refusals.Stop.{Stop}
use Rattle.mintc_text.specs.declared.refusals.Stop.TheVariants as stop
use Rattle.mintc_text.specs.Stops.{StopsAt}
use Rattle.mintc_sdf.specs.declared.delays.Subject.{Subject}
use Rattle.mintc_flatten_hierarchy.specs.declared.hierarchy.Hierarchy.{Hierarchy}
use Rattle.mintc_flatten_hierarchy.specs.Shape.{CellTable}
use Rattle.mintc_annotate_resolve.specs.Resolution.{Resolved, of, of_leaf, together, of_each, refusal_of}

together_nil : (a : Resolved) → together a (of []) ≡ a
together_nil (of ms) = ap of (append-nil ms)
together_nil _ = refl

together_assoc : (a b c : Resolved) → together a (together b c) ≡ together (together a b) c
together_assoc (of ms) (of ns) (of ps) = ap of (sym (append_assoc ms ns ps))
together_assoc _ _ _ = refl

of_nil : (a : Resolved) → together (of []) a ≡ a
of_nil (of ms) = refl
of_nil _ = refl

each_append : (h : Hierarchy) (cells : CellTable) (s : Subject) (xs ys : List ℕ) → of_each h cells s (xs ++ ys) ≡ together (of_each h cells s xs) (of_each h cells s ys)
each_append h cells s [] ys = sym (of_nil (of_each h cells s ys))
each_append h cells s (x ∷ xs) ys = ap (together (of_leaf h cells x s)) (each_append h cells s xs ys) ∙ together_assoc (of_leaf h cells x s) (of_each h cells s xs) (of_each h cells s ys)

pub each_more : (h : Hierarchy) (cells : CellTable) (s : Subject) (ls : List ℕ) (k d : ℕ) → k < length ls → of_each h cells s (take (k + 1) ls) ≡ together (of_each h cells s (take k ls)) (of_leaf h cells (get_or ls k d) s)
each_more h cells s ls k d within = rw (take_more ls k d within, each_append h cells s (take k ls) (get_or ls k d ∷ []), together_nil) refl

-- a refusal after a front that isn't refused
refused_at : (entry : ℕ) (a b c : Resolved) (r : Refusal) → refusal_of entry a ≡ None → refusal_of entry b ≡ Some r → refusal_of entry (together a (together b c)) ≡ Some r
refused_at entry (of ms) (of ns) c r front here = absurd (cc)
refused_at entry (of ms) _ c r front here = here
refused_at entry _ b c r front here = absurd (cc)

pub each_refused : (h : Hierarchy) (cells : CellTable) (s : Subject) (ls : List ℕ) (k d entry : ℕ) (r : Refusal) → k < length ls → refusal_of entry (of_each h cells s (take k ls)) ≡ None → refusal_of entry (of_leaf h cells (get_or ls k d) s) ≡ Some r →
    refusal_of entry (of_each h cells s ls) ≡ Some r
each_refused h cells s ls k d entry r within front here =
    ap (λ (l : List ℕ). refusal_of entry (of_each h cells s l)) (sym (take-append-drop k ls) ∙ ap (λ (l : List ℕ). take k ls ++ l) (drop_more ls k d within))
    ∙ ap (refusal_of entry) (each_append h cells s (take k ls) (get_or ls k d ∷ drop (k + 1) ls))
    ∙ refused_at entry (of_each h cells s (take k ls)) (of_leaf h cells (get_or ls k d) s) (of_each h cells s (drop (k + 1) ls)) r front here

-- ---- stops
pub stops_more : (P Q : Refusal → Type 0) → ((r : Refusal) → P r → Q r) → (s : Stop) → StopsAt P s → StopsAt Q s
stops_more P Q more (stop.Refused r) known = more r known
stops_more P Q more stop.OutOfMemory known = tt
