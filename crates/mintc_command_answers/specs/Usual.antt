-- The usual limits in numbers.
use Rattle.std.specs.Prelude.{◌≡◌, ◌<◌, ◌≤◌, ◌↔◌, ℕ, List, [], ◌∷◌, length, min, codes, All}
use Rattle.mintc_text.specs.Limits.{usual}
use Rattle.mintc_text.specs.Refusals.{over_limit}
use Rattle.mintc_text.specs.declared.refusals.Kind.TheVariants as kind
use Rattle.mintc_text.specs.declared.refusals.Refusal.{Refusal}
use Rattle.mintc_text.specs.declared.refusals.Refusal.TheVariants as refusal
use Rattle.mintc_timing.specs.declared.parts.Pair.{Pair}
use Rattle.mintc_timing.specs.Design.{Design, Timing}
use Rattle.mintc_timing.specs.Accepted.{IsAccepted}
use Rattle.mintc_timing.specs.Limits.{limit_of}
use Rattle.mintc_timing.specs.Order.{ArePathsShort}
use Rattle.mintc_timing.specs.Paths.{ArePairs}
use Rattle.mintc_timing_text.specs.Fields.{IsCountLine}
use Rattle.mintc_flatten_hierarchy.specs.Sources.{Source}
use Rattle.mintc_flatten_hierarchy.specs.Walks.{depth}
use Rattle.mintc_flatten_hierarchy.specs.Hierarchies.{hierarchy_of}
use Rattle.mintc_flatten_hierarchy.specs.Refusals.{limit_refusal}
use Rattle.mintc_paths.specs.Refusals.{AreTooMany as ArePairsTooMany}
use Rattle.mintc_certificate.specs.CertificateText.{IsChainLine}
use Rattle.mintc_command_answers.specs.Corners.{AreTooMany, elements_together}
use Rattle.mintc_command_answers.specs.Jobs.{IsFileRefused}
use Rattle.mintc_command_answers.specs.Sources.{AreShort}
use Rattle.mintc_command_answers.specs.declared.command.Job.TheVariants.{Slack}

-- What each definition that asks a limit says in a run with the usual limits: of files, of designs, of hierarchies, of
-- pairs, of a chain, of corners and of slacks.
pub record UsualLimits : Type 0 where
  pub files : (files : List (List ℕ)) → AreShort usual files ↔ All (λ bytes. length bytes ≤ 67108864) files
  pub designs : (d : Design) → limit_of usual d ≡
      over_limit ((kind.Inner, length d.inner, 262144) ∷ (kind.Phases, length d.phases, 8) ∷
      (kind.Elements, length d.elements, 2000) ∷ (kind.Arcs, length d.arcs, 524288) ∷
      (kind.Bounds, length d.bounds, 64) ∷ [])
  pub hierarchies : (s : Source) (top : ℕ) → limit_refusal usual s top ≡
      over_limit ((kind.Scopes, length (hierarchy_of s top).scopes, 50000) ∷
      (kind.Depth, depth s (length s.modules) top, 32) ∷ (kind.Leaves, length (hierarchy_of s top).leaves, 50000) ∷
      (kind.Inner, length (hierarchy_of s top).inner, 262144) ∷ [])
  pub pairs : (d : Design) (count : ℕ) → ArePairsTooMany usual d count ↔ (ArePathsShort d × ((pairs : List Pair)
      × ArePairs d pairs × (200000 < length pairs) × (count ≡ min (length pairs) 1000000000)))
  pub members : (m : ℕ) (ws : List (List ℕ)) → IsChainLine usual.members m ws ↔ IsCountLine (codes "chain") 1 4096 m ws
  pub corners : (ts : List Timing) (r : Refusal) → AreTooMany usual ts r ↔ ((2000 < elements_together ts)
      × (r ≡ refusal.Limit kind.Elements (elements_together ts)))
  -- no accepted design has more elements than slacks are found for
  pub slack : (d : Design) (file : List ℕ) (r : Refusal) → IsAccepted usual d → IsFileRefused usual Slack d file r → ⊥
