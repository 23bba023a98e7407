-- Pairs that are counted one after another.
use Rattle.std.proofs.Common.{◌≡◌, ◌≢◌, ◌<◌, ◌≤◌, ◌+◌, ◌*◌, ℕ, List, [], ◌∷◌, ◌++◌, length, length-append, arith, ap, ◌∙◌, sym, subst, ⊎_elim}
use Rattle.mintc_text.specs.declared.limits.TheConstants.{MOST_ELEMENTS}
use Rattle.mintc_timing.specs.declared.parts.Pair.{Pair}
use Rattle.mintc_timing.specs.Design.{Design}
use Rattle.mintc_timing.specs.Limits.{IsDesign}
use Rattle.mintc_timing.specs.Order.{IsOrder}
use Rattle.mintc_timing.specs.Paths.{Leads, IsPath, HasExtremes, input_of, output_of}
use Rattle.mintc_timing.proofs.SharedOrdered.{all_among}
use Rattle.mintc_paths_sums.specs.Placed.{row_of}
use Rattle.mintc_paths_count.specs.Count.{AreEndsOf, IsCountBefore, IsPairMark}
use Rattle.mintc_paths_count.specs.declared.marks.Marks.{Marks}
use Rattle.mintc_paths_count.specs.Marks.{AreMarksAlong, mark_in, marks_at}
use Rattle.mintc_paths.specs.Sums.{LeadsBack}
use Rattle.mintc_paths.specs.Reversed.{reversed_design}
use Rattle.mintc_paths.proofs.SharedExisting.{pairs_exist_lem}
use Rattle.mintc_paths.proofs.SharedFinding.{ArePairsBefore-next, ArePairsBefore-push, ArePairsBefore-skip}
use Rattle.mintc_paths.proofs.SharedReversedPairs.{ArePairsBefore-back}
use Rattle.mintc_paths_count.proofs.Leading.{mark_is}

module _ (design : Design) (from to count : ℕ) (h : IsCountBefore design from to count) where
  skipped : ((path : List ℕ) → IsPath design.arcs from path (input_of to) → ⊥) → IsCountBefore design from (to + 1) count
  skipped none = record { pairs = h.pairs; are_pairs = ArePairsBefore-skip design from to h.pairs h.are_pairs none; is_count = h.is_count; few = omega arith }

  pushed : (pair : Pair) → HasExtremes design pair → pair.from ≡ from → pair.to ≡ to → IsCountBefore design from (to + 1) (count + 1)
  pushed pair extremes is_from is_to = record {
    pairs = h.pairs ++ pair ∷ [];
    are_pairs = ArePairsBefore-push design from to h.pairs h.are_pairs pair extremes is_from is_to;
    is_count = omega (arith, length-append h.pairs (pair ∷ []));
    few = omega arith;
  }

  -- the mark at an input is what comes to the count
  pub IsCountBefore-more : (marks : Marks) (lane : ℕ) → IsPairMark design from to (mark_in marks lane) → IsCountBefore design from (to + 1) (count + mark_in marks lane)
  IsCountBefore-more marks lane mark = ⊎_elim
      (λ (zero : mark_in marks lane ≡ 0).
      let same : count + mark_in marks lane ≡ count = omega arith in
      rw same (skipped (λ path is. absurd (omega (arith, mark.whole path is)))))
      (λ (one : mark_in marks lane ≡ 1).
      let pair = mark.sound one in
      rw one (pushed pair.0 pair.1 pair.2 pair.3))
      (mark_is marks lane)

module _ (design : Design) (order : List ℕ) (is_order : IsOrder design.arcs order) where
  -- where a path leads there is a pair
  pair_of_path : (j l : ℕ) → j < length design.elements → l < length design.elements → (path : List ℕ) → IsPath design.arcs j path (input_of l) →
      (pair : Pair) × HasExtremes design pair × (pair.from ≡ j) × (pair.to ≡ l)
  pair_of_path j l from to path is =
      let all = pairs_exist_lem design order is_order in
      let found = all.1.whole j l path from to is in
      (found.0, subst (λ (p : Pair). HasExtremes design p) found.1.2 (all.1.each found.1.0 found.0 found.1.1), found.2, found.3)

  odd_or_even : (j l : ℕ) → 2 * j + 1 ≢ 2 * l
  odd_or_even j l e = omega arith

  -- the marks at the inputs, where all arcs are carried along
  pub AreEndsOf-marks : (n : ℕ) (rows : List ℕ) (first lanes lane : ℕ) (marks ends : List Marks) → AreMarksAlong n design.arcs order (length order) rows first lanes marks →
      2 * length design.elements ≤ n → lane < lanes → first + lanes ≤ length design.elements →
      ((to : ℕ) → to < length design.elements → marks_at ends to ≡ marks_at marks (row_of rows (input_of to))) → AreEndsOf design (first + lane) lane ends
  AreEndsOf-marks n rows first lanes lane marks ends along bits below few gathered to inside =
      let from : ℕ = first + lane in
      let same : mark_in (marks_at ends to) lane ≡ mark_in (marks_at marks (row_of rows (input_of to))) lane = ap (λ (m : Marks). mark_in m lane) (gathered to inside) in
      let mark = along (input_of to) lane (omega arith) below in
      record {
        sound = λ one.
            let reached = mark.sound (sym same ∙ one) in
            pair_of_path from to (omega arith) inside reached.0 ((λ e. odd_or_even from to (subst (λ path. Leads design.arcs (output_of from) path (input_of to)) e reached.2)), reached.2);
        whole = λ path is. same ∙ mark.whole (path, all_among design.arcs order is_order (output_of from) path (input_of to) is.1, is.1);
      }

pub IsCountBefore-next : (design : Design) (from count : ℕ) → length design.elements ≤ MOST_ELEMENTS → IsCountBefore design from (length design.elements) count → IsCountBefore design (from + 1) 0 count
IsCountBefore-next design from count limit h = record { pairs = h.pairs; are_pairs = ArePairsBefore-next design from h.pairs h.are_pairs; is_count = h.is_count; few = omega arith }

-- the pairs of the design reversed are as many as the design's
pub IsCountBefore_back : (design : Design) → IsDesign design → (places elements : List ℕ) → LeadsBack (length design.elements) places elements → LeadsBack (length design.elements) elements places →
    (count : ℕ) → IsCountBefore (reversed_design places design) (length design.elements) 0 count → IsCountBefore design (length design.elements) 0 count
IsCountBefore_back design kept places elements there back count h =
    let reversed = ArePairsBefore-back design kept places elements there back h.pairs h.are_pairs in
    record { pairs = reversed.0; are_pairs = reversed.1; is_count = reversed.2 ∙ h.is_count; few = h.few }
