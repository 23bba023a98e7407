-- The table of the chain of corners.
use Rattle.std.specs.Prelude.{ℕ, ℤ, List, [], ◌∷◌, codes, decimal, map}
use Rattle.mintc_timing.specs.Design.{Timing}
use Rattle.mintc_corners.specs.declared.certificate.CornerCertificate.{CornerCertificate}
use Rattle.mintc_corners.specs.declared.certificate.CornerCertificate.TheVariants.{Least, Never}
use Rattle.mintc_corners.specs.declared.members.CornerMember.{CornerMember}
use Rattle.mintcx_chain.specs.Turning.{turned}
use Rattle.mintcx_joint.specs.Shown.{BeginsAt, design_of, own_stage}
use Rattle.mintcx_csv.specs.Chains.{hop_fields, hop_record}
use Rattle.mintcx_csv.specs.Tables.{IsTable}

-- the head line
abbrev pub member_fields : List (List ℕ)
member_fields = codes "corner" ∷ hop_fields

-- the row of a member: the number of its corner, counted from 1, or 0 of the clock; what it begins at, how many
-- femtoseconds it asks for in how many cycles, and what it leads to
abbrev pub member_record : List Timing → CornerMember → List (List ℕ)
member_record ts m = decimal m.corner ∷ hop_record (design_of ts m) (own_stage ts m)

-- the rows of a chain that begins at its n-th member
abbrev pub member_records : List Timing → List CornerMember → ℕ → List (List (List ℕ))
member_records ts chain n = member_fields ∷ map (member_record ts) (turned n chain)

-- The text is the table of the members of a chain, which begins where the departures say.
abbrev pub IsJointTable : List Timing → List (List ℤ) → List CornerMember → List ℕ → Type 0
IsJointTable ts departures chain text =
    (n : ℕ) × BeginsAt ts departures chain n × IsTable (member_records ts chain n) text

-- The text is the table of the chain of a certificate of corners.
abbrev pub IsCornersTable : List Timing → CornerCertificate → List ℕ → Type 0
IsCornersTable ts (Least s departures chain) text = IsJointTable ts departures chain text
IsCornersTable ts (Never chain) text = IsJointTable ts [] chain text
