-- When the moments of nodes are, by their numbers.
use Rattle.std.proofs.Common.{◌≡◌, ◌≢◌, ℕ, ◌<◌, ◌≤◌, ◌+◌, ◌-◌, ◌*◌, ◌/◌, ◌%◌, ℤ, pos, negsuc, ◌≤ℤ◌, ◌+ℤ◌, ◌*ℤ◌, List, [], ap, ◌∙◌, arith}
use Rattle.std.proofs.lemmas.Int.{ints}
use Rattle.mintc_timing.proofs.SharedProducts.{times-mono}
use Rattle.mintc_timing.proofs.SharedTimesLaws.{node_time-start, node_time-end, node_time-element}
use Rattle.mintc_timing.specs.declared.clocking.Schedule.{Schedule}
use Rattle.mintc_timing.specs.Clocking.{start_of, width_of}
use Rattle.mintc_timing.specs.Design.{Design, Timing, phase_count}
use Rattle.mintc_timing.specs.Links.{element_node, end_node, node_count, start_node}
use Rattle.mintc_timing.specs.Times.{element_time, node_time}

module _ (design : Design) (s : Schedule) (d : List ℤ) where
  abbrev t : Timing
  t = record { flat = design; order = []; pairs = [] }

  pub starts : (n : ℕ) → n % 2 ≡ 1 → n ≤ 2 * phase_count design → node_time design s d n ≡ start_of s (n / 2 + 1)
  starts n odd h =
      let number : n ≡ start_node (n / 2 + 1) = omega arith in
      ap (node_time design s d) number ∙ node_time-start t s d (n / 2 + 1) (omega arith, omega arith)

  pub ends : (n : ℕ) → n % 2 ≢ 1 → 1 ≤ n → n ≤ 2 * phase_count design → node_time design s d n ≡ start_of s (n / 2) +ℤ width_of s (n / 2)
  ends n even some h =
      let number : n ≡ end_node (n / 2) = omega arith in
      ap (node_time design s d) number ∙ node_time-end t s d (n / 2) (omega arith, omega arith)

  pub elements : (n : ℕ) → 2 * phase_count design < n → n < node_count design → node_time design s d n ≡ element_time design s d (n - 2 * phase_count design - 1)
  elements n low high =
      let number : n ≡ element_node design (n - 2 * phase_count design - 1) = omega arith in
      ap (node_time design s d) number ∙ node_time-element t s d (n - 2 * phase_count design - 1) (omega arith)

-- a span over a denominator
pub span_low : (x den : ℤ) → negsuc 3999999999 ≤ℤ x → pos 1 ≤ℤ den → den ≤ℤ pos 100000 → negsuc 399999999999999 ≤ℤ (x *ℤ den)
span_low x (pos n) low some most = let h = times-mono (negsuc 3999999999) x n low in omega (arith, ints)
span_low x (negsuc n) low some most = absurd (omega (arith, ints))

pub span_high : (x den : ℤ) → x ≤ℤ pos 4000000000 → pos 1 ≤ℤ den → den ≤ℤ pos 100000 → (x *ℤ den) ≤ℤ pos 400000000000000
span_high x (pos n) high some most = let h = times-mono x (pos 4000000000) n high in omega (arith, ints)
span_high x (negsuc n) high some most = absurd (omega (arith, ints))
