-- How deep the parts of an answer nest.
use Rattle.std.proofs.Common.{ℕ, ◌≤◌, ℤ, pos, ◌*ℤ◌, true, false, List, [], ◌∷◌, Option, Some, None, codes, length, map, arith}
use Rattle.std.specs.Prelude.{slice_index_or}
use Rattle.std.specs.List.{range_with_len}
use Rattle.json.specs.Json.{Json}
use Rattle.json.specs.Tree.{depth, items_depth, members_depth}
use Rattle.mintc_timing.specs.declared.clocking.Schedule.{Schedule}
use Rattle.mintc_timing.specs.Design.{Design, element_count, phase_count}
use Rattle.mintcx_chain.specs.declared.stages.Stage.{Stage}
use Rattle.mintcx_chain.specs.declared.stages.Why.{Why}
use Rattle.mintcx_chain.specs.declared.stages.Why.TheVariants.{Rule, Reach, Hold}
use Rattle.mintcx_chain.specs.Sums.{cycles_of, delay_of}
use Rattle.mintcx_json.specs.Objects.{items_of, members_of, object_of}
use Rattle.mintcx_json.specs.Clocks.{element_value, elements_value, phase_value, phases_value}
use Rattle.mintcx_json.specs.Chains.{arc_value, bound_fields, bound_of, chain_value, stage_value, why_fields}
use Rattle.mintc_timing.specs.declared.violation.Violation.{Violation}
use Rattle.mintc_timing.specs.Design.{Timing}
use Rattle.mintcx_json.specs.Objects.{name}
use Rattle.mintcx_json.specs.Judgements.{departing_value, fail_value, names_of, pass_value, violation_value}
use Rattle.mintcx_json.specs.Judgements.{bound_of as bound_of_broken}
use Rattle.mintcx_json.specs.Optimum.{least_value, never_value}
use Rattle.mintc_fraction.specs.Ratio.{Ratio}
use Rattle.mintc_certificate.specs.declared.certificate.Certificate.{Certificate}
use Rattle.mintc_certificate.specs.declared.certificate.Certificate.TheVariants.{Least, Never}
use Rattle.mintc_checker.specs.declared.verdict.Verdict.{Verdict}
use Rattle.mintc_checker.specs.declared.verdict.Verdict.TheVariants.{Valid, Invalid}
use Rattle.mintc_corners.specs.declared.members.CornerMember.{CornerMember}
use Rattle.mintcx_chain.specs.Turning.{turned}
use Rattle.mintcx_joint.specs.Shown.{corner_at, design_of, joint_stages, own_stage}
use Rattle.mintcx_json.specs.Corners.{alone_value, joint_value, member_value}
use Rattle.mintcx_json.specs.Corners.{least_value as least_of_corners, never_value as never_of_corners}
use Rattle.mintcx_json.specs.Cycles.{right_value, short_value}
use Rattle.mintcx_json.specs.Safe.{safe_value}
use Rattle.mintcx_json.specs.Slacks.{no_slacks_value, pair_value, slacks_value}
use Rattle.mintcx_json.specs.Verdicts.{claim_fields, verdict_value}

-- items that are each made of one thing
pub mapped : {X : Type 0} (n : ℕ) (f : X → Json) (xs : List X) → ((x : X) → depth (f x) ≤ n) → items_depth (items_of (map f xs)) ≤ n
mapped n f [] h = omega arith
mapped n f (x ∷ xs) h = omega (arith, h x, mapped n f xs h)

phases : (design : Design) (s : Schedule) → depth (phases_value design s) ≤ 2
phases design s = omega (arith, mapped 1 (phase_value design s) (range_with_len 1 (phase_count design)) (λ p. omega arith))

elements : (design : Design) (d : List ℤ) → depth (elements_value design d) ≤ 2
elements design d = omega (arith, mapped 1 (element_value design d) (range_with_len 0 (element_count design)) (λ l. omega arith))

bound : (o : Option ℕ) → members_depth (members_of (bound_fields o)) ≤ 2
bound (Some n) = omega arith
bound None = omega arith

why : (design : Design) (den : ℤ) (w : Why) → members_depth (members_of (why_fields design den w)) ≤ 2
why design den (Rule kind) = bound (bound_of kind)
why design den (Reach j l path) = omega (arith, mapped 1 (arc_value design den false) path (λ n. omega arith))
why design den (Hold j l path) = omega (arith, mapped 1 (arc_value design den true) path (λ n. omega arith))

stage : (design : Design) (den : ℤ) (k : Stage) → depth (stage_value design den k) ≤ 3
stage design den k = omega (arith, why design den k.why)

chain : (design : Design) (den delay : ℤ) (stages : List Stage) → depth (chain_value design den delay stages) ≤ 5
chain design den delay stages = omega (arith, mapped 3 (stage_value design den) stages (stage design den))

pub least : (command : List ℕ) (design : Design) (s : Schedule) (d : List ℤ) (stages : List Stage) (subject : List ℕ) →
    depth (least_value command design s d stages subject) ≤ 6
least command design s d stages subject = omega (arith, phases design s, elements design d, chain design s.den (pos (cycles_of stages) *ℤ s.cycle) stages)

pub never : (command : List ℕ) (design : Design) (stages : List Stage) (subject : List ℕ) → depth (never_value command design stages subject) ≤ 6
never command design stages subject = omega (arith, chain design (pos 1) (delay_of stages) stages)

-- the names of a constraint's parts, and a violation
violation : (t : Timing) (v : Violation) → depth (violation_value t v) ≤ 3
violation t v = omega (arith, mapped 1 name (names_of t v.broken) (λ n. omega arith), bound (bound_of_broken v.broken))

pub passed : (t : Timing) (s : Schedule) (late early : List ℤ) (subject : List ℕ) → depth (pass_value t s late early subject) ≤ 6
passed t s late early subject =
    omega (arith, phases t.flat s, mapped 1 (departing_value t.flat late early) (range_with_len 0 (element_count t.flat)) (λ l. omega arith))

pub failed : (t : Timing) (s : Schedule) (vs : List Violation) (subject : List ℕ) → depth (fail_value t s vs subject) ≤ 6
failed t s vs subject = omega (arith, phases t.flat s, mapped 3 (violation_value t) vs (violation t))

pub right : (design : Design) (s : Schedule) (d : List ℤ) (subject : List ℕ) → depth (right_value design s d subject) ≤ 6
right design s d subject = omega (arith, phases design s, elements design d)

pub short : (design : Design) (cycle : ℕ) (stages : List Stage) (subject : List ℕ) → depth (short_value design cycle stages subject) ≤ 6
short design cycle stages subject = omega (arith, chain design (pos 1) (delay_of stages) stages)

pub slacks : (t : Timing) (cycle : Ratio) (places : List (ℤ × ℕ)) (subject : List ℕ) → depth (slacks_value t cycle places subject) ≤ 6
slacks t cycle places subject = omega (arith, mapped 1 (pair_value t cycle.den) places (λ p. omega arith))

pub no_slacks : (subject : List ℕ) → depth (no_slacks_value subject) ≤ 6
no_slacks subject = omega arith

pub safe : (design : Design) (s : Schedule) (d : List ℤ) (stages : List Stage) (without : Ratio) (subject : List ℕ) → depth (safe_value design s d stages without subject) ≤ 6
safe design s d stages without subject = omega (arith, phases design s, elements design d, chain design s.den (pos (cycles_of stages) *ℤ s.cycle) stages)

-- verdicts, by what is claimed and by whether a test fails
pub verdict : (t : Timing) (c : Certificate) (design called : List ℕ) (vs : List Violation) (v : Verdict) → depth (verdict_value t c design called vs v) ≤ 6
verdict t (Least s d members) design called vs Valid = omega arith
verdict t (Never members) design called vs Valid = omega arith
verdict t (Least s d members) design called vs (Invalid n) = omega (arith, mapped 3 (violation_value t) vs (violation t))
verdict t (Never members) design called vs (Invalid n) = omega (arith, mapped 3 (violation_value t) vs (violation t))

-- corners
claimed : (key called : List ℕ) (c : Certificate) → depth (object_of ((codes "delays", name called) ∷ claim_fields key c)) ≤ 1
claimed key called (Least s d members) = omega arith
claimed key called (Never members) = omega arith

alone : (names : List (List ℕ)) (certificates : List Certificate) (c : ℕ) → depth (alone_value names certificates c) ≤ 1
alone names certificates c = claimed (codes "alone") (slice_index_or names c []) (slice_index_or certificates c (Never []))

member : (ts : List Timing) (den : ℤ) (m : CornerMember) → depth (member_value ts den m) ≤ 3
member ts den m = omega (arith, why (design_of ts m) den (own_stage ts m).why)

joint : (ts : List Timing) (den delay : ℤ) (members : List CornerMember) (n : ℕ) → depth (joint_value ts den delay members n) ≤ 5
joint ts den delay members n = omega (arith, mapped 3 (member_value ts den) (turned n members) (member ts den))

pub least_joint : (ts : List Timing) (names : List (List ℕ)) (certificates : List Certificate) (s : Schedule) (members : List CornerMember) (n : ℕ) (subject : List ℕ) →
    depth (least_of_corners ts names certificates s members n subject) ≤ 6
least_joint ts names certificates s members n subject =
    omega (
      arith,
      phases (corner_at ts 0).flat s,
      mapped 1 (alone_value names certificates) (range_with_len 0 (length names)) (alone names certificates),
      joint ts s.den (pos (cycles_of (joint_stages ts members)) *ℤ s.cycle) members n,
    )

pub never_joint : (ts : List Timing) (names : List (List ℕ)) (certificates : List Certificate) (members : List CornerMember) (n : ℕ) (subject : List ℕ) →
    depth (never_of_corners ts names certificates members n subject) ≤ 6
never_joint ts names certificates members n subject =
    omega (
      arith,
      mapped 1 (alone_value names certificates) (range_with_len 0 (length names)) (alone names certificates),
      joint ts (pos 1) (delay_of (joint_stages ts members)) members n,
    )
