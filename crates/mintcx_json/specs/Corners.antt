-- The answer of corners, as JSON.
use Rattle.std.specs.Prelude.{ℕ, ℤ, pos, ◌*ℤ◌, List, [], ◌∷◌, ◌++◌, codes, length, map, slice_index_or}
use Rattle.std.specs.List.{range_with_len}
use Rattle.json.specs.Json.{Json}
use Rattle.mintc_timing.specs.declared.clocking.Schedule.{Schedule}
use Rattle.mintc_timing.specs.Design.{Timing}
use Rattle.mintc_certificate.specs.declared.certificate.Certificate.{Certificate}
use Rattle.mintc_certificate.specs.declared.certificate.Certificate.TheVariants as certificate
use Rattle.mintc_corners.specs.declared.certificate.CornerCertificate.{CornerCertificate}
use Rattle.mintc_corners.specs.declared.certificate.CornerCertificate.TheVariants.{Least, Never}
use Rattle.mintc_corners.specs.declared.members.CornerMember.{CornerMember}
use Rattle.mintcx_chain.specs.Sums.{cycles_of, delay_of}
use Rattle.mintcx_chain.specs.Turning.{turned}
use Rattle.mintcx_joint.specs.Shown.{BeginsAt, corner_at, design_of, joint_stages, own_stage}
use Rattle.mintcx_json.specs.Objects.{Field, IsTextOf, array_of, count, head_fields, name, object_of, whole}
use Rattle.mintcx_json.specs.Clocks.{schedule_fields}
use Rattle.mintcx_json.specs.Chains.{stage_fields}
use Rattle.mintcx_json.specs.Verdicts.{claim_fields}

-- A corner, counted from 0: the name of its file of delays, and the least cycle time that it needs alone, or that it
-- has none.
abbrev pub alone_value : List (List ℕ) → List Certificate → ℕ → Json
alone_value names alone c = object_of (
    (codes "delays", name (slice_index_or names c [])) ∷
    claim_fields (codes "alone") (slice_index_or alone c (certificate.Never [])))

-- all corners, in order
abbrev pub corners_field : List (List ℕ) → List Certificate → Field
corners_field names alone =
    (codes "corners", array_of (map (alone_value names alone) (range_with_len 0 (length names))))

-- A member of a chain, by the numbers of its own corner, which are counted from 1; one of the clock has corner 0.
abbrev pub member_value : List Timing → ℤ → CornerMember → Json
member_value ts den m =
    object_of ((codes "corner", count m.corner) ∷ stage_fields (design_of ts m) den (own_stage ts m))

-- a chain that begins at its n-th member and takes so much time in its cycles: both, and its members in order
abbrev pub joint_value : List Timing → ℤ → ℤ → List CornerMember → ℕ → Json
joint_value ts den delay chain n = object_of (
    (codes "delay", whole delay) ∷ (codes "cycles", count (cycles_of (joint_stages ts chain))) ∷
    (codes "members", array_of (map (member_value ts den) (turned n chain))) ∷ [])

-- a chain that decides the cycle time of a schedule
abbrev pub deciding_field : List Timing → Schedule → List CornerMember → ℕ → Field
deciding_field ts s chain n =
    (codes "chain", joint_value ts s.den (pos (cycles_of (joint_stages ts chain)) *ℤ s.cycle) chain n)

-- a chain that forbids each cycle time, in whole femtoseconds
abbrev pub forbidding_field : List Timing → List CornerMember → ℕ → Field
forbidding_field ts chain n = (codes "chain", joint_value ts (pos 1) (delay_of (joint_stages ts chain)) chain n)

-- A least cycle time of all corners: the schedule that has it, what each corner needs alone, and the chain that forbids
-- every smaller one.
abbrev pub least_value : List Timing → List (List ℕ) → List Certificate → Schedule → List CornerMember → ℕ → List ℕ →
    Json
least_value ts names alone s chain n subject = object_of (
    head_fields (codes "corners") 0 (codes "least") subject ++ schedule_fields (corner_at ts 0).flat s ++
    corners_field names alone ∷ deciding_field ts s chain n ∷ [])

-- No schedule is right in all corners: what each needs alone, and the chain that forbids every cycle time.
abbrev pub never_value : List Timing → List (List ℕ) → List Certificate → List CornerMember → ℕ → List ℕ → Json
never_value ts names alone chain n subject = object_of (
    head_fields (codes "corners") 1 (codes "never") subject ++ ((codes "den", whole (pos 1)) ∷ []) ++
    corners_field names alone ∷ forbidding_field ts chain n ∷ [])

-- The text is the object of the least cycle of a schedule, whose chain begins where the departures say.
abbrev pub IsLeastObject : List Timing → List (List ℕ) → List Certificate → Schedule → List (List ℤ) →
    List CornerMember → List ℕ → List ℕ → Type 0
IsLeastObject ts names alone s departures chain subject text = (n : ℕ) × BeginsAt ts departures chain n
    × IsTextOf (least_value ts names alone s chain n subject) text

-- The same where a chain forbids every cycle time.
abbrev pub IsNeverObject : List Timing → List (List ℕ) → List Certificate → List CornerMember → List ℕ → List ℕ →
    Type 0
IsNeverObject ts names alone chain subject text = (n : ℕ) × BeginsAt ts [] chain n
    × IsTextOf (never_value ts names alone chain n subject) text

-- The text is the object of a certificate of corners of a design that is called so, with the names of their delay files
-- and the certificate of each alone.
abbrev pub IsCornersObject : List Timing → List (List ℕ) → List Certificate → CornerCertificate → List ℕ → List ℕ →
    Type 0
IsCornersObject ts names alone (Least s departures chain) subject text =
    IsLeastObject ts names alone s departures chain subject text
IsCornersObject ts names alone (Never chain) subject text = IsNeverObject ts names alone chain subject text
