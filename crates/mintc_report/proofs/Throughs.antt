-- The bits between the arcs of a listed path are inner bits.
use Rattle.std.proofs.Common.{◌≡◌, ◌≢◌, ℕ, zero, suc, ◌+◌, ◌*◌, ◌<◌, ◌≤◌, List, [], ◌∷◌, length, arith, sym, subst}
use Rattle.std.specs.Prelude.{All}
use Rattle.std.proofs.lemmas.List.Elements.{All-nil, All-cons}
use Rattle.mintc_timing.specs.Design.{Timing, element_count, no_arc}
use Rattle.mintc_timing.specs.Limits.{IsArc, IsDesign}
use Rattle.mintc_timing.specs.Paths.{Leads, arc_at, input_of}
use Rattle.mintc_certificate.specs.declared.members.Member.{Member}
use Rattle.mintc_certificate.specs.declared.members.Member.TheVariants as member
use Rattle.mintc_certificate.specs.Valid.{IsMember}
use Rattle.mintc_report.specs.Reports.{IsInner, IsThrough, later_arcs}

-- A bit that is neither an input nor an output of an element comes after those.
past_elements : (n bit : ℕ) → ((l : ℕ) → l < n → bit ≢ 2 * l) → ((l : ℕ) → l < n → bit ≢ 2 * l + 1) → 2 * n ≤ bit
past_elements zero bit input output = omega arith
past_elements (suc n) bit input output =
    let below : 2 * n ≤ bit = past_elements n bit (λ l h. input l (omega arith)) (λ l h. output l (omega arith)) in
    let a : bit ≢ 2 * n = input n (omega arith) in
    let b : bit ≢ 2 * n + 1 = output n (omega arith) in
    omega arith

-- A bit that an arc leaves and another enters is an inner one.
inner_between : (t : Timing) (a b : ℕ) → IsDesign t.flat → a < length t.flat.arcs → b < length t.flat.arcs →
    (arc_at t.flat.arcs b).from ≡ (arc_at t.flat.arcs a).to → IsInner t.flat (arc_at t.flat.arcs b).from
inner_between t a b design here there e =
    let first : IsArc (length t.flat.elements) (length t.flat.inner) (arc_at t.flat.arcs a) = design.each_arc a no_arc here in
    let second : IsArc (length t.flat.elements) (length t.flat.inner) (arc_at t.flat.arcs b) = design.each_arc b no_arc there in (
      past_elements (element_count t.flat) (arc_at t.flat.arcs b).from second.leaves
          (subst (λ bit. (l : ℕ) → l < element_count t.flat → bit ≢ 2 * l + 1) (sym e) first.enters),
      second.from,
    )

-- the arcs of a path after an arc
later_inner : (t : Timing) (a to : ℕ) (path : List ℕ) → IsDesign t.flat → a < length t.flat.arcs →
    Leads t.flat.arcs (arc_at t.flat.arcs a).to path to → All (IsThrough t.flat) path
later_inner t a to [] design below h = All-nil (IsThrough t.flat)
later_inner t a to (n ∷ path) design below h =
    All-cons (IsThrough t.flat) n path (h.0, inner_between t a n design below h.0 h.1) (later_inner t n to path design h.0 h.2)

-- The arcs of a member after the first leave inner bits.
pub are_through : (t : Timing) (m : Member) → IsDesign t.flat → IsMember t m → All (IsThrough t.flat) (later_arcs m)
are_through t (member.Reach j l []) design h = All-nil (IsThrough t.flat)
are_through t (member.Reach j l (n ∷ path)) design h = later_inner t n (input_of l) path design h.2.1.0 h.2.1.2
are_through t m design h = All-nil (IsThrough t.flat)
