-- Counts up to what is told pass the same limits as those that they stand for.
use Rattle.std.proofs.Common.{◌≡◌, ◌<◌, ℕ, min, List, [], ◌∷◌, Bool, true, false, cond, find, nat_lt, Some, refl, ap, ◌∙◌, arith}
use Rattle.std.specs.Option.{option_map}
use Rattle.std.proofs.lemmas.Bool.Decides.{nat_tests}
use Rattle.mintc_text.specs.Limits.{AreLimits}
use Rattle.mintc_text.specs.Refusals.{over_limit}
use Rattle.mintc_text.specs.declared.limits.Most.{Most}
use Rattle.mintc_text.specs.declared.limits.TheConstants.{MOST_BOUNDS, MOST_PHASES, MOST_TOLD}
use Rattle.mintc_text.specs.declared.refusals.Kind.{Kind}
use Rattle.mintc_text.specs.declared.refusals.Kind.TheVariants as kind
use Rattle.mintc_text.specs.declared.refusals.Refusal.TheVariants as refusal
use Rattle.mintc_timing.specs.Limits.{quantities}

passes_alike : (m a b : ℕ) → m < MOST_TOLD → min a MOST_TOLD ≡ min b MOST_TOLD → nat_lt m a ≡ nat_lt m b
passes_alike m a b small same = grind (arith, nat_tests)

over_by : (k : Kind) (a b m : ℕ) (rest others : List (Kind × ℕ × ℕ)) (test : Bool) → min a MOST_TOLD ≡ min b MOST_TOLD → over_limit rest ≡ over_limit others →
    option_map (λ (x : Kind × ℕ × ℕ). refusal.Limit x.0 (min x.1 MOST_TOLD)) (cond test (Some (k, a, m)) (find (λ (x : Kind × ℕ × ℕ). nat_lt x.2 x.1) rest))
    ≡ option_map (λ (x : Kind × ℕ × ℕ). refusal.Limit x.0 (min x.1 MOST_TOLD)) (cond test (Some (k, b, m)) (find (λ (x : Kind × ℕ × ℕ). nat_lt x.2 x.1) others))
over_by k a b m rest others true same h = ap (λ (n : ℕ). Some (refusal.Limit k n)) same
over_by k a b m rest others false same h = h

over_step : (k : Kind) (a b m : ℕ) (rest others : List (Kind × ℕ × ℕ)) → m < MOST_TOLD → min a MOST_TOLD ≡ min b MOST_TOLD → over_limit rest ≡ over_limit others →
    over_limit ((k, a, m) ∷ rest) ≡ over_limit ((k, b, m) ∷ others)
over_step k a b m rest others small same h =
    over_by k a b m rest others (nat_lt m a) same h
    ∙ ap (λ (t : Bool). option_map (λ (x : Kind × ℕ × ℕ). refusal.Limit x.0 (min x.1 MOST_TOLD)) (cond t (Some (k, b, m)) (find (λ (x : Kind × ℕ × ℕ). nat_lt x.2 x.1) others))) (passes_alike m a b small same)

pub limits_alike : (most : Most) → AreLimits most → (inner phases bounds elements told_elements arcs told_arcs : ℕ) → min told_elements MOST_TOLD ≡ min elements MOST_TOLD → min told_arcs MOST_TOLD ≡ min arcs MOST_TOLD →
    over_limit (quantities most inner phases told_elements told_arcs bounds) ≡ over_limit (quantities most inner phases elements arcs bounds)
limits_alike most kept inner phases bounds elements told_elements arcs told_arcs same_elements same_arcs =
    let last : List (Kind × ℕ × ℕ) = (kind.Bounds, bounds, MOST_BOUNDS) ∷ [] in
    let by_arcs = over_step kind.Arcs told_arcs arcs most.arcs last last (omega (arith, kept.arcs)) same_arcs refl in
    let by_elements = over_step kind.Elements told_elements elements most.elements ((kind.Arcs, told_arcs, most.arcs) ∷ last) ((kind.Arcs, arcs, most.arcs) ∷ last) (omega (arith, kept.elements)) same_elements by_arcs in
    let told : List (Kind × ℕ × ℕ) = (kind.Elements, told_elements, most.elements) ∷ (kind.Arcs, told_arcs, most.arcs) ∷ last in
    let whole : List (Kind × ℕ × ℕ) = (kind.Elements, elements, most.elements) ∷ (kind.Arcs, arcs, most.arcs) ∷ last in
    let by_phases = over_step kind.Phases phases phases MOST_PHASES told whole (omega arith) refl by_elements in
    over_step kind.Inner inner inner most.inner ((kind.Phases, phases, MOST_PHASES) ∷ told) ((kind.Phases, phases, MOST_PHASES) ∷ whole) (omega (arith, kept.inner)) refl by_phases
