-- The text of the optimum of several corners.
use Rattle.std.specs.Prelude.{◌≡◌, ℕ, ℤ, List, [], ◌∷◌, ◌++◌, length, codes}
use Rattle.mintc_timing.specs.declared.clocking.Schedule.{Schedule}
use Rattle.mintc_timing.specs.Design.{Timing}
use Rattle.mintc_certificate.specs.declared.certificate.Certificate.{Certificate}
use Rattle.mintc_corners.specs.declared.certificate.CornerCertificate.{CornerCertificate}
use Rattle.mintc_corners.specs.declared.certificate.CornerCertificate.TheVariants.{Least, Never}
use Rattle.mintc_corners.specs.declared.members.CornerMember.{CornerMember}
use Rattle.mintcx_chain.specs.Sums.{cycles_of, delay_of}
use Rattle.mintcx_frame.specs.declared.view.View.{View}
use Rattle.mintcx_frame.specs.Ends.{foot_text, head_text, subject_text}
use Rattle.mintcx_frame.specs.Phases.{phases_text}
use Rattle.mintcx_optima.specs.Counts.{counted, decided_text}
use Rattle.mintcx_optima.specs.Least.{cycle_of, unit_of}
use Rattle.mintcx_optima.specs.Never.{asks_text, unit_of as unit_in_never}
use Rattle.mintcx_joint.specs.declared.tables.Telling.TheVariants.{Because, Through}
use Rattle.mintcx_joint.specs.Alone.{corners_table}
use Rattle.mintcx_joint.specs.Chains.{rows_text}
use Rattle.mintcx_joint.specs.Shown.{corner_at, joint_stages, BeginsAt}

-- what an answer is about, and behind it the number of its corners
abbrev pub cornered : ℕ → View → View
cornered count view = record view { subject = view.subject ++ codes ", " ++ counted count (codes "corner") }

-- the sums of a chain in words, and its rows from its n-th member on
abbrev pub deciding_text : List Timing → Schedule → List CornerMember → ℕ → View → List ℕ
deciding_text ts s chain n view =
    decided_text (length chain) (delay_of (joint_stages ts chain)) (cycles_of (joint_stages ts chain)) (unit_of s view)
    ++ 10 ∷ [] ++ rows_text Through ts (unit_of s view) view.limit chain n

-- The text of the least cycle of all corners: its head, what each corner needs alone, the phases of the schedule, and
-- the chain that decides, with a blank line between two.
abbrev pub least_text : List Timing → List (List ℕ) → List Certificate → Schedule → List CornerMember → ℕ → View →
    List ℕ
least_text ts names alone s chain n view =
    head_text (codes "least") (cycle_of s) (cornered (length names) view) ++ 10 ∷ []
    ++ corners_table (unit_of s view) names alone ++ 10 ∷ []
    ++ phases_text (corner_at ts 0).flat s (unit_of s view) ++ 10 ∷ []
    ++ deciding_text ts s chain n view ++ 10 ∷ [] ++ foot_text (unit_of s view) []

-- the first line where no schedule is right
abbrev pub claim_text : ℕ → View → List ℕ
claim_text count view = codes "never  no schedule is right in all corners" ++ subject_text (cornered count view).subject

-- The text where no schedule is right in all corners: its first line, what each corner needs alone, what the chain that
-- forbids every cycle time asks for, and its rows.
abbrev pub never_text : List Timing → List (List ℕ) → List Certificate → List CornerMember → ℕ → View → List ℕ
never_text ts names alone chain n view =
    claim_text (length names) view ++ 10 ∷ []
    ++ corners_table (unit_in_never (joint_stages ts chain) view) names alone ++ 10 ∷ []
    ++ asks_text (joint_stages ts chain) (unit_in_never (joint_stages ts chain) view)
    ++ rows_text Because ts (unit_in_never (joint_stages ts chain) view) view.limit chain n ++ 10 ∷ []
    ++ foot_text (unit_in_never (joint_stages ts chain) view) []

-- The text of the least cycle of a schedule, whose chain begins where the departures say.
abbrev pub IsLeastOf : List Timing → List (List ℕ) → List Certificate → Schedule → List (List ℤ) →
    List CornerMember → View → List ℕ → Type 0
IsLeastOf ts names alone s departures chain view text = (n : ℕ) × BeginsAt ts departures chain n
    × (text ≡ least_text ts names alone s chain n view)

-- The text where a chain forbids every cycle time.
abbrev pub IsNeverOf : List Timing → List (List ℕ) → List Certificate → List CornerMember → View → List ℕ → Type 0
IsNeverOf ts names alone chain view text = (n : ℕ) × BeginsAt ts [] chain n
    × (text ≡ never_text ts names alone chain n view)

-- The text of a certificate of corners, with the names of their delay files and the certificate of each alone.
abbrev pub IsCornersText : List Timing → List (List ℕ) → List Certificate → CornerCertificate → View → List ℕ → Type 0
IsCornersText ts names alone (Least s departures chain) view text =
    IsLeastOf ts names alone s departures chain view text
IsCornersText ts names alone (Never chain) view text = IsNeverOf ts names alone chain view text
