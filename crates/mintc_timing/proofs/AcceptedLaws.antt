-- The systems that can be made are the accepted designs.
use Rattle.std.proofs.Common.{◌≡◌, ◌≤◌, ℕ, List, [], ◌∷◌, length, Bool, true, false, cond, Some, None, find, nat_lt, min, arith, ap, refl}
use Rattle.std.specs.Option.{option_map}
use Rattle.std.proofs.lemmas.Bool.Decides.{nat_tests}
use Rattle.mintc_text.specs.Refusals.{over_limit}
use Rattle.mintc_text.specs.declared.limits.TheConstants.{MOST_BOUNDS, MOST_PHASES, MOST_TOLD}
use Rattle.mintc_text.specs.declared.refusals.Kind.{Kind}
use Rattle.mintc_text.specs.declared.refusals.Kind.TheVariants as kind
use Rattle.mintc_text.specs.declared.refusals.Refusal.TheVariants as refusal
use Rattle.mintc_timing.specs.declared.parts.Pair.{Pair}
use Rattle.mintc_timing.specs.Accepted.{SystemsAreAccepted, UnrefusedAreWithin, UsualLimitsOfDesigns, UsuallyAccepted}
use Rattle.mintc_timing.proofs.PairLaws.{pairs_are_determined_lem}
use Rattle.mintc_timing.proofs.SharedOrdered.{none_round}

pub systems_are_accepted_lem : SystemsAreAccepted
systems_are_accepted_lem most flat order pairs limits within kept few = record {
  limits = limits;
  within = within;
  no_loop = λ loop h. h.some (none_round flat.arcs order kept.ordered loop h.closed.0 h.closed.1);
  short = kept.short;
  few = λ others h. let same = ap (λ (ps : List Pair). length ps) (pairs_are_determined_lem flat others pairs h kept.extremes) in omega arith;
}

pub usual_limits_lem : UsualLimitsOfDesigns
usual_limits_lem design = refl

pub usually_accepted_lem : UsuallyAccepted
usually_accepted_lem design a = (a.within.inner, a.within.elements, a.within.arcs, a.few)

not_over : (k : Kind) (q m : ℕ) (rest : List (Kind × ℕ × ℕ)) (b : Bool) → nat_lt m q ≡ b →
    option_map (λ (x : Kind × ℕ × ℕ). refusal.Limit x.0 (min x.1 MOST_TOLD)) (cond b (Some (k, q, m)) (find (λ (x : Kind × ℕ × ℕ). nat_lt x.2 x.1) rest)) ≡ None → (q ≤ m) × (over_limit rest ≡ None)
not_over k q m rest true e h = cc
not_over k q m rest false e h = (grind (arith, nat_tests), h)

kept : (k : Kind) (q m : ℕ) (rest : List (Kind × ℕ × ℕ)) → over_limit ((k, q, m) ∷ rest) ≡ None → (q ≤ m) × (over_limit rest ≡ None)
kept k q m rest h = not_over k q m rest (nat_lt m q) refl h

pub unrefused_lem : UnrefusedAreWithin
unrefused_lem most design none =
    let a = kept kind.Inner (length design.inner) most.inner ((kind.Phases, length design.phases, MOST_PHASES) ∷ (kind.Elements, length design.elements, most.elements) ∷ (kind.Arcs, length design.arcs, most.arcs) ∷ (kind.Bounds, length design.bounds, MOST_BOUNDS) ∷ []) none in
    let b = kept kind.Phases (length design.phases) MOST_PHASES ((kind.Elements, length design.elements, most.elements) ∷ (kind.Arcs, length design.arcs, most.arcs) ∷ (kind.Bounds, length design.bounds, MOST_BOUNDS) ∷ []) a.1 in
    let c = kept kind.Elements (length design.elements) most.elements ((kind.Arcs, length design.arcs, most.arcs) ∷ (kind.Bounds, length design.bounds, MOST_BOUNDS) ∷ []) b.1 in
    let d = kept kind.Arcs (length design.arcs) most.arcs ((kind.Bounds, length design.bounds, MOST_BOUNDS) ∷ []) c.1 in
    record { inner = a.0; elements = c.0; arcs = d.0 }
