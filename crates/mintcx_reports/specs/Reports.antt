-- The report of an optimum, gate by gate.
use Rattle.std.specs.Prelude.{◌≡◌, ℕ, ℤ, List, [], ◌∷◌, ◌++◌, codes, length}
use Rattle.mintc_timing.specs.declared.clocking.Schedule.{Schedule}
use Rattle.mintc_timing.specs.Design.{Design, Timing}
use Rattle.mintc_certificate.specs.declared.certificate.Certificate.{Certificate}
use Rattle.mintc_certificate.specs.declared.certificate.Certificate.TheVariants.{Least, Never}
use Rattle.mintc_certificate.specs.declared.members.Member.{Member}
use Rattle.mintcx_amounts.specs.declared.unit.Unit.{Unit}
use Rattle.mintcx_chain.specs.declared.stages.Stage.{Stage}
use Rattle.mintcx_chain.specs.Rows.{rows_of}
use Rattle.mintcx_chain.specs.Sums.{cycles_of, delay_of}
use Rattle.mintcx_columns.specs.Tables.{table_text}
use Rattle.mintcx_frame.specs.declared.view.View.{View}
use Rattle.mintcx_frame.specs.Ends.{foot_text, head_text}
use Rattle.mintcx_frame.specs.Phases.{phases_text}
use Rattle.mintcx_optima.specs.Counts.{decided_text}
use Rattle.mintcx_optima.specs.Least.{cycle_of, unit_of}
use Rattle.mintcx_optima.specs.Optimum.{AreStages, IsNeverOf}
use Rattle.mintcx_reports.specs.Borrowers.{AreBorrowers, borrowers_text, latches_of}
use Rattle.mintcx_reports.specs.Rows.{hop_grid}

-- the chain that decides: its sums, and its hops by the schedule with its departures
abbrev pub deciding_text : Design → Schedule → List ℤ → List (List ℕ) → Unit → List Stage → List ℕ
deciding_text design s d cells unit stages =
    decided_text (length stages) (delay_of stages) (cycles_of stages) unit ++ 10 ∷ []
    ++ table_text (hop_grid design s cells unit stages (rows_of design s d stages))

-- The report of a least cycle: its head, the phases of its schedule, the chain that decides hop by hop, and the latches
-- that borrow, of so many that may, with a blank line between two.
abbrev pub report_text : Design → Schedule → List ℤ → List (List ℕ) → List Stage → ℕ → List (ℤ × ℕ) → View → List ℕ
report_text design s d cells stages all places view = head_text (codes "least") (cycle_of s) view ++ 10 ∷ []
    ++ phases_text design s (unit_of s view) ++ 10 ∷ []
    ++ deciding_text design s d cells (unit_of s view) stages ++ 10 ∷ []
    ++ borrowers_text design s d (unit_of s view) view all places ++ 10 ∷ [] ++ foot_text (unit_of s view) []

-- The report of the least cycle of a schedule, which a chain decides.
abbrev pub IsReportOf : Timing → Schedule → List ℤ → List Member → List (List ℕ) → View → List ℕ → Type 0
IsReportOf t s d chain cells view text =
    (stages : List Stage) × AreStages t.flat d chain stages
    × ((places : List (ℤ × ℕ)) × AreBorrowers t d places
    × (text ≡ report_text t.flat s d cells stages (length (latches_of t)) places view))

-- The report of a certificate: that of the least cycle, or, where no schedule is right, the text of the chain that
-- forbids them all.
abbrev pub IsReportText : Timing → Certificate → List (List ℕ) → View → List ℕ → Type 0
IsReportText t (Least s d chain) cells view text = IsReportOf t s d chain cells view text
IsReportText t (Never chain) cells view text = IsNeverOf t.flat chain view text
