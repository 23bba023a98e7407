-- How large the labels and arrivals are, and what a phase and its elements ask.
use Rattle.std.specs.Prelude.{◌≡◌, ◌+◌, ◌-◌, ◌<◌, ℕ, ℤ, pos, negsuc, neg_ℤ, ◌≤ℤ◌, IfSome, List, length, IsFalse, IsSome}
use Rattle.std.specs.Prelude.{All, ◌*ℤ◌}
use Rattle.mintc_text.specs.declared.limits.TheConstants.{MOST_NUMERATOR}
use Rattle.mintc_timing.specs.Clocking.{least_width, start_of, width_of}
use Rattle.mintc_timing.specs.Design.{Design, phase_count, element_at}
use Rattle.mintc_timing.specs.Paths.{input_of}
use Rattle.mintc_timing.specs.declared.clocking.Schedule.{Schedule}
use Rattle.mintc_certificate.specs.Ranges.{IsDeparture}
use Rattle.mintc_checker.specs.declared.labels.Labels.{Labels}
use Rattle.mintc_checker.specs.Labels.{AreLabels, label_at}

-- Each label is a time.
abbrev pub IsLate : ℤ → Type 0
IsLate x = (neg_ℤ MOST_NUMERATOR ≤ℤ x) × (x ≤ℤ pos 300000000000000)

-- Each label at the inputs of so many elements is a time.
abbrev pub AreTimely : ℕ → List Labels → Type 0
AreTimely count labels = (l lane : ℕ) → l < count → lane < 8 → IfSome (label_at labels (input_of l) lane) IsLate

-- the labels of departures in range, each of which is a time
pub record AreTimelyLabels (design : Design) (den : ℤ) (d : List ℤ) (labels : List Labels) : Type 0 where
  pub departures : All IsDeparture d
  pub each : AreLabels design den d labels
  pub timely : AreTimely (length design.elements) labels

-- an arrival
abbrev pub IsArrivalTime : ℤ → Type 0
IsArrivalTime x = (negsuc 299999999999999 ≤ℤ x) × (x ≤ℤ pos 500000000000000)

-- Element l is a latch on phase j, and data of phase i reaches it.
abbrev pub IsFedAt : Design → List Labels → ℕ → ℕ → ℕ → Type 0
IsFedAt design labels i j l = ((element_at design l).phase ≡ j) × IsFalse (element_at design l).flop
    × IsSome (label_at labels (input_of l) (i - 1))

-- What the clock asks of phase p by itself: that its start and its width are in range, that the next phase starts no
-- sooner, and that it is as wide as its elements ask.
pub record KeepsOwn (design : Design) (s : Schedule) (p : ℕ) : Type 0 where
  pub start : (pos 0 ≤ℤ start_of s p) × (start_of s p ≤ℤ s.cycle)
  pub span : (pos 0 ≤ℤ width_of s p) × (width_of s p ≤ℤ s.cycle)
  pub order : p < phase_count design → start_of s p ≤ℤ start_of s (p + 1)
  pub wide : (least_width design p *ℤ s.den) ≤ℤ width_of s p
