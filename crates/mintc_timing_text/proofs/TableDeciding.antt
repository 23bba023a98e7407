-- Whether a line may come next in a table: the lines of elements, arcs and bounds.
use Rattle.std.proofs.Common.{◌≡◌, ℕ, zero, suc, ◌<◌, ◌≤◌, ◌+◌, ◌*◌, ℤ, pos, neg_ℤ, ◌≤ℤ◌, Bool, List, [], ◌∷◌, ◌++◌, arith, refl, sym, ap, ◌∙◌, codes, ◌⊎◌, inl, inr}
use Rattle.mintc_text.specs.declared.limits.TheConstants.{MOST_DELAY}
use Rattle.mintc_text.specs.Lines.{numeral_of}
use Rattle.mintc_timing.specs.declared.parts.Element.{Element}
use Rattle.mintc_timing.specs.declared.parts.TimingArc.{TimingArc}
use Rattle.mintc_timing.specs.declared.parts.Bound.{Bound}
use Rattle.mintc_timing.specs.declared.parts.Point.{Point}
use Rattle.mintc_timing.specs.declared.parts.Point.TheVariants.{Origin, Start, End}
use Rattle.mintc_timing.specs.Limits.{IsDelay, IsGap, IsElement, IsPoint, IsBound}
use Rattle.mintc_timing_text.specs.declared.table_lines.Version.{Version}
use Rattle.mintc_timing_text.specs.declared.table_lines.Version.TheVariants.{Latches, Flops, Openings}
use Rattle.mintc_timing_text.specs.Fields.{IsName, number, Spells}
use Rattle.mintc_timing_text.specs.TableText.{IsOfVersion, IsElementLine, element_words, IsFromWord, IsToWord, IsArcLine, IsBoundLine, point_word}
use Rattle.mintc_timing_text.proofs.SharedDeciding.{Decided, same_decided, both_decided, if_decided, most_decided, most_decided_z, same_decided_z, true_decided, false_decided}
use Rattle.mintc_timing_text.proofs.SharedDeciding.{Searched, searched_as, searched_both, searched_either, searched_unit, searched_bool, searched_numbers, searched_whole}
use Rattle.mintc_timing_text.proofs.SharedEachText.{spelled_by}
use Rattle.mintc_timing_text.proofs.SharedFormDeciding.{Anything, name_decided, name_short, IsShort, searched_short}

delay_decided : (x : ℤ) → Decided (IsDelay x)
delay_decided x = both_decided (most_decided_z (pos 0) x) (most_decided_z x MOST_DELAY)

gap_decided : (x : ℤ) → Decided (IsGap x)
gap_decided x = both_decided (most_decided_z (neg_ℤ MOST_DELAY) x) (most_decided_z x MOST_DELAY)

searched_delay : Searched IsDelay
searched_delay = searched_whole (pos 0) MOST_DELAY

searched_gap : Searched IsGap
searched_gap = searched_whole (neg_ℤ MOST_DELAY) MOST_DELAY

-- ---- elements
abbrev Numbers : Type 0
Numbers = ℤ × (ℤ × (ℤ × (ℤ × (ℤ × (ℤ × ℤ)))))

abbrev Signs : Type 0
Signs = List ℕ × (ℕ × (Bool × Bool))

abbrev element_from : Signs × Numbers → Element
element_from p = record {
  name = p.0.0;
  phase = p.0.1.0;
  flop = p.0.1.1.0;
  has_hold = p.0.1.1.1;
  setup = p.1.0;
  hold = p.1.1.0;
  dq_min = p.1.1.1.0;
  dq_max = p.1.1.1.1.0;
  cq_min = p.1.1.1.1.1.0;
  cq_max = p.1.1.1.1.1.1.0;
  width = p.1.1.1.1.1.1.1;
}

abbrev AreSigns : ℕ → Signs → Type 0
AreSigns k s = IsShort s.0 × ((s.1.0 ≤ k) × (Anything s.1.1.0 × Anything s.1.1.1))

abbrev AreNumbers : Numbers → Type 0
AreNumbers n = IsGap n.0 × (IsGap n.1.0 × (IsDelay n.1.1.0 × (IsDelay n.1.1.1.0 × (IsDelay n.1.1.1.1.0 × (IsDelay n.1.1.1.1.1.0 × IsDelay n.1.1.1.1.1.1)))))

searched_signs : (k : ℕ) → Searched (AreSigns k)
searched_signs k = searched_both IsShort (λ (s : ℕ × (Bool × Bool)). (s.0 ≤ k) × (Anything s.1.0 × Anything s.1.1)) searched_short
    (searched_both (λ n. n ≤ k) (λ (s : Bool × Bool). Anything s.0 × Anything s.1) (searched_numbers k) (searched_both Anything Anything searched_bool searched_bool))

more_numbers : {X : Type 0} (B : ℤ → Type 0) (C : X → Type 0) → Searched B → Searched C → Searched (λ (p : ℤ × X). B p.0 × C p.1)
more_numbers B C search other = searched_both B C search other

searched_elements_numbers : Searched AreNumbers
searched_elements_numbers =
    more_numbers IsGap _ searched_gap (more_numbers IsGap _ searched_gap (more_numbers IsDelay _ searched_delay (more_numbers IsDelay _ searched_delay
    (more_numbers IsDelay _ searched_delay (more_numbers IsDelay IsDelay searched_delay searched_delay)))))

-- an element within bounds
record IsBounded (k : ℕ) (e : Element) : Type 0 where
  pub name : IsShort e.name
  pub phase : e.phase ≤ k
  pub setup : IsGap e.setup
  pub hold : IsGap e.hold
  pub dq_min : IsDelay e.dq_min
  pub dq_max : IsDelay e.dq_max
  pub cq_min : IsDelay e.cq_min
  pub cq_max : IsDelay e.cq_max
  pub width : IsDelay e.width

searched_elements : (k : ℕ) → Searched (IsBounded k)
searched_elements k = searched_as (λ (p : Signs × Numbers). AreSigns k p.0 × AreNumbers p.1) (IsBounded k) element_from
    (λ p h. record {
      name = h.0.0;
      phase = h.0.1.0;
      setup = h.1.0;
      hold = h.1.1.0;
      dq_min = h.1.1.1.0;
      dq_max = h.1.1.1.1.0;
      cq_min = h.1.1.1.1.1.0;
      cq_max = h.1.1.1.1.1.1.0;
      width = h.1.1.1.1.1.1.1;
    })
    (λ e h. (
      ((e.name, (e.phase, (e.flop, e.has_hold))), (e.setup, (e.hold, (e.dq_min, (e.dq_max, (e.cq_min, (e.cq_max, e.width))))))),
      ((h.name, (h.phase, (tt, tt))), (h.setup, (h.hold, (h.dq_min, (h.dq_max, (h.cq_min, (h.cq_max, h.width))))))),
      refl,
    ))
    (searched_both (AreSigns k) AreNumbers (searched_signs k) searched_elements_numbers)

element_bounded : (k : ℕ) (e : Element) → IsElement k e → IsName e.name → IsBounded k e
element_bounded k e h named = record {
  name = name_short e.name named;
  phase = h.phase.1;
  setup = h.setup;
  hold = h.hold;
  dq_min = h.dq_min;
  dq_max = h.dq_max;
  cq_min = h.cq_min;
  cq_max = h.cq_max;
  width = h.width;
}

-- what else an element keeps
record Keeps (v : Version) (k : ℕ) (e : Element) : Type 0 where
  pub element : IsElement k e
  pub name : IsName e.name
  pub version : IsOfVersion v e

element_decided : (k : ℕ) (e : Element) → Decided (IsElement k e)
element_decided k e = same_decided
    (λ h. record {
      phase = h.0;
      setup = h.1.0;
      hold = h.1.1.0;
      no_hold = h.1.1.1.0;
      dq_min = h.1.1.1.1.0;
      dq_max = h.1.1.1.1.1.0;
      dq = h.1.1.1.1.1.1.0;
      cq_min = h.1.1.1.1.1.1.1.0;
      cq_max = h.1.1.1.1.1.1.1.1.0;
      cq = h.1.1.1.1.1.1.1.1.1.0;
      flop = h.1.1.1.1.1.1.1.1.1.1.0;
      width = h.1.1.1.1.1.1.1.1.1.1.1;
    })
    (λ h. (h.phase, (h.setup, (h.hold, (h.no_hold, (h.dq_min, (h.dq_max, (h.dq, (h.cq_min, (h.cq_max, (h.cq, (h.flop, h.width))))))))))))
    (both_decided (both_decided (most_decided 1 e.phase) (most_decided e.phase k))
    (both_decided (gap_decided e.setup)
    (both_decided (gap_decided e.hold)
    (both_decided (if_decided (false_decided e.has_hold) (same_decided_z e.hold (pos 0)))
    (both_decided (delay_decided e.dq_min)
    (both_decided (delay_decided e.dq_max)
    (both_decided (most_decided_z e.dq_min e.dq_max)
    (both_decided (delay_decided e.cq_min)
    (both_decided (delay_decided e.cq_max)
    (both_decided (most_decided_z e.cq_min e.cq_max)
    (both_decided (if_decided (true_decided e.flop) (both_decided (same_decided_z e.cq_min e.dq_min) (same_decided_z e.cq_max e.dq_max)))
    (delay_decided e.width))))))))))))

version_decided : (v : Version) (e : Element) → Decided (IsOfVersion v e)
version_decided Latches e = same_decided (λ h. (h.0, h.1.0, h.1.1)) (λ h. (h.0, (h.1, h.2)))
    (both_decided (false_decided e.flop) (both_decided (same_decided_z e.cq_min e.dq_min) (same_decided_z e.cq_max e.dq_max)))
version_decided Flops e = both_decided (same_decided_z e.cq_min e.dq_min) (same_decided_z e.cq_max e.dq_max)
version_decided Openings e = inl tt

keeps_decided : (v : Version) (k : ℕ) (e : Element) → Decided (Keeps v k e)
keeps_decided v k e = same_decided (λ h. record { element = h.0; name = h.1.0; version = h.1.1 }) (λ h. (h.element, (h.name, h.version)))
    (both_decided (element_decided k e) (both_decided (name_decided e.name) (version_decided v e)))

pub element_line_decided : (v : Version) (k : ℕ) (line : List ℕ) → Decided ((e : Element) × Spells (IsElementLine v k) e line)
element_line_decided v k = spelled_by (IsElementLine v k) (IsBounded k) (Keeps v k) (element_words v) (searched_elements k) (keeps_decided v k)
    (λ e ws h. (element_bounded k e h.ranges h.name, record { element = h.ranges; name = h.name; version = h.version }, h.spelled))
    (λ e b r. record { ranges = r.element; name = r.name; version = r.version; spelled = refl })

-- ---- arcs
pair_is : (p : List ℕ × ℕ) (word : List ℕ) (bit : ℕ) → p.0 ≡ word → p.1 ≡ bit → (word, bit) ≡ p
pair_is p word bit e f = ap (λ (w : List ℕ). (w, bit)) (sym e) ∙ ap (λ (b : ℕ). (p.0, b)) (sym f)

-- the word of a letter and a number below a bound, and its bit
abbrev IsNumbered : (ℕ → List ℕ) → (ℕ → ℕ) → ℕ → List ℕ × ℕ → Type 0
IsNumbered word bit n p = (l : ℕ) × (l < n) × (p.0 ≡ word l) × (p.1 ≡ bit l)

below_numbers : (n : ℕ) → Searched (λ l. l < n)
below_numbers zero P each = inr (λ h. let low = h.1 in omega arith)
below_numbers (suc n) P each = same_decided (λ h. (h.0, (let low = h.1 in omega arith), h.2)) (λ h. (h.0, (let low = h.1 in omega arith), h.2)) (searched_numbers n P each)

searched_numbered : (word : ℕ → List ℕ) (bit : ℕ → ℕ) (n : ℕ) → Searched (IsNumbered word bit n)
searched_numbered word bit n = searched_as (λ l. l < n) (IsNumbered word bit n) (λ l. (word l, bit l)) (λ l low. (l, low, refl, refl))
    (λ p h. (h.0, h.1, pair_is p (word h.0) (bit h.0) h.2 h.3)) (below_numbers n)

abbrev Leaving : ℕ → ℕ → List ℕ × ℕ → Type 0
Leaving n m p = IsFromWord n m p.0 p.1

abbrev Entering : ℕ → ℕ → List ℕ × ℕ → Type 0
Entering n m p = IsToWord n m p.0 p.1

searched_leaving : (n m : ℕ) → Searched (Leaving n m)
searched_leaving n m = searched_either (IsNumbered (λ l. codes "q" ++ number l) (λ l. 2 * l + 1) n) (IsNumbered (λ i. codes "n" ++ number i) (λ i. 2 * n + i) m)
    (searched_numbered (λ l. codes "q" ++ number l) (λ l. 2 * l + 1) n) (searched_numbered (λ i. codes "n" ++ number i) (λ i. 2 * n + i) m)

searched_entering : (n m : ℕ) → Searched (Entering n m)
searched_entering n m = searched_either (IsNumbered (λ l. codes "d" ++ number l) (λ l. 2 * l) n) (IsNumbered (λ i. codes "n" ++ number i) (λ i. 2 * n + i) m)
    (searched_numbered (λ l. codes "d" ++ number l) (λ l. 2 * l) n) (searched_numbered (λ i. codes "n" ++ number i) (λ i. 2 * n + i) m)

abbrev Ends : Type 0
Ends = (List ℕ × ℕ) × (List ℕ × ℕ)

abbrev Drawn : Type 0
Drawn = Ends × (ℤ × ℤ)

abbrev IsDrawn : ℕ → ℕ → Drawn → Type 0
IsDrawn n m p = (Leaving n m p.0.0 × Entering n m p.0.1) × (IsDelay p.1.0 × IsDelay p.1.1)

searched_drawn : (n m : ℕ) → Searched (IsDrawn n m)
searched_drawn n m = searched_both (λ (p : Ends). Leaving n m p.0 × Entering n m p.1) (λ (p : ℤ × ℤ). IsDelay p.0 × IsDelay p.1)
    (searched_both (Leaving n m) (Entering n m) (searched_leaving n m) (searched_entering n m)) (searched_both IsDelay IsDelay searched_delay searched_delay)

abbrev arc_from : Drawn → TimingArc
arc_from p = record { from = p.0.0.1; to = p.0.1.1; min = p.1.0; max = p.1.1 }

-- an arc's line, of what is drawn
abbrev IsDrawnLine : ℕ → ℕ → Drawn → List (List ℕ) → Type 0
IsDrawnLine n m p ws = IsDrawn n m p × (p.1.0 ≤ℤ p.1.1) × (ws ≡ codes "arc" ∷ p.0.0.0 ∷ p.0.1.0 ∷ numeral_of p.1.0 ∷ numeral_of p.1.1 ∷ [])

drawn_line_decided : (n m : ℕ) (line : List ℕ) → Decided ((p : Drawn) × Spells (IsDrawnLine n m) p line)
drawn_line_decided n m = spelled_by (IsDrawnLine n m) (IsDrawn n m) (λ p. p.1.0 ≤ℤ p.1.1) (λ p. codes "arc" ∷ p.0.0.0 ∷ p.0.1.0 ∷ numeral_of p.1.0 ∷ numeral_of p.1.1 ∷ [])
    (searched_drawn n m) (λ p. most_decided_z p.1.0 p.1.1) (λ p ws h. h) (λ p b r. (b, r, refl))

pub arc_line_decided : (n m : ℕ) (line : List ℕ) → Decided ((x : TimingArc) × Spells (IsArcLine n m) x line)
arc_line_decided n m line = same_decided
    (λ h.
    let is = h.1.1 in (
      arc_from h.0,
      (
        h.1.0,
        record {
          delays = record { low_is = is.0.1.0; high_is = is.0.1.1; ordered = is.1 };
          source = h.0.0.0.0;
          target = h.0.0.1.0;
          leaves = is.0.0.0;
          enters = is.0.0.1;
          spelled = is.2;
        },
        h.1.2,
      ),
    ))
    (λ h.
    let is = h.1.1 in
    ((((is.source, h.0.from), (is.target, h.0.to)), (h.0.min, h.0.max)), (h.1.0, (((is.leaves, is.enters), (is.delays.low_is, is.delays.high_is)), is.delays.ordered, is.spelled), h.1.2)))
    (drawn_line_decided n m line)

-- ---- bounds
abbrev IsOrigin : Point → Type 0
IsOrigin Origin = Unit {0}
IsOrigin x = ⊥

abbrev IsStartOf : ℕ → Point → Type 0
IsStartOf k (Start p) = p ≤ k
IsStartOf k x = ⊥

abbrev IsEndOf : ℕ → Point → Type 0
IsEndOf k (End p) = p ≤ k
IsEndOf k x = ⊥

abbrev IsNear : ℕ → Point → Type 0
IsNear k x = IsOrigin x ⊎ (IsStartOf k x ⊎ IsEndOf k x)

origin_back : (x : Point) → IsOrigin x → (u : Unit {0}) × Unit {0} × (Origin ≡ x)
origin_back Origin h = (tt, tt, refl)
origin_back (Start p) h = absurd h
origin_back (End p) h = absurd h

start_back : (k : ℕ) (x : Point) → IsStartOf k x → (p : ℕ) × (p ≤ k) × (Start p ≡ x)
start_back k Origin h = absurd h
start_back k (Start p) h = (p, h, refl)
start_back k (End p) h = absurd h

end_back : (k : ℕ) (x : Point) → IsEndOf k x → (p : ℕ) × (p ≤ k) × (End p ≡ x)
end_back k Origin h = absurd h
end_back k (Start p) h = absurd h
end_back k (End p) h = (p, h, refl)

searched_points : (k : ℕ) → Searched (IsNear k)
searched_points k = searched_either IsOrigin (λ x. IsStartOf k x ⊎ IsEndOf k x)
    (searched_as (λ (u : Unit {0}). Unit {0}) IsOrigin (λ u. Origin) (λ u h. tt) origin_back searched_unit)
    (searched_either (IsStartOf k) (IsEndOf k)
    (searched_as (λ p. p ≤ k) (IsStartOf k) (λ p. Start p) (λ p h. h) (start_back k) (searched_numbers k))
    (searched_as (λ p. p ≤ k) (IsEndOf k) (λ p. End p) (λ p h. h) (end_back k) (searched_numbers k)))

near : (k : ℕ) (x : Point) → IsPoint k x → IsNear k x
near k Origin h = inl tt
near k (Start p) h = inr (inl h.1)
near k (End p) h = inr (inr h.1)

point_decided : (k : ℕ) (x : Point) → Decided (IsPoint k x)
point_decided k Origin = inl tt
point_decided k (Start p) = both_decided (most_decided 1 p) (most_decided p k)
point_decided k (End p) = both_decided (most_decided 1 p) (most_decided p k)

abbrev Placed : Type 0
Placed = (Point × Point) × (ℤ × ℕ)

abbrev IsPlaced : ℕ → Placed → Type 0
IsPlaced k p = (IsNear k p.0.0 × IsNear k p.0.1) × (IsGap p.1.0 × (p.1.1 ≤ 1))

record IsPlacedBound (k : ℕ) (x : Bound) : Type 0 where
  pub from : IsNear k x.from
  pub to : IsNear k x.to
  pub gap : IsGap x.gap
  pub cycles : x.cycles ≤ 1

searched_bounds : (k : ℕ) → Searched (IsPlacedBound k)
searched_bounds k = searched_as (IsPlaced k) (IsPlacedBound k) (λ p. record { from = p.0.0; to = p.0.1; gap = p.1.0; cycles = p.1.1 })
    (λ p h. record { from = h.0.0; to = h.0.1; gap = h.1.0; cycles = h.1.1 })
    (λ x h. (((x.from, x.to), (x.gap, x.cycles)), ((h.from, h.to), (h.gap, h.cycles)), refl))
    (searched_both (λ (p : Point × Point). IsNear k p.0 × IsNear k p.1) (λ (p : ℤ × ℕ). IsGap p.0 × (p.1 ≤ 1))
    (searched_both (IsNear k) (IsNear k) (searched_points k) (searched_points k)) (searched_both IsGap (λ n. n ≤ 1) searched_gap (searched_numbers 1)))

bound_decided : (k : ℕ) (x : Bound) → Decided (IsBound k x)
bound_decided k x = same_decided (λ h. record { from = h.0; to = h.1.0; gap = h.1.1.0; cycles = h.1.1.1 }) (λ h. (h.from, (h.to, (h.gap, h.cycles))))
    (both_decided (point_decided k x.from) (both_decided (point_decided k x.to) (both_decided (gap_decided x.gap) (most_decided x.cycles 1))))

pub bound_line_decided : (k : ℕ) (line : List ℕ) → Decided ((x : Bound) × Spells (IsBoundLine k) x line)
bound_line_decided k = spelled_by (IsBoundLine k) (IsPlacedBound k) (IsBound k) (λ x. codes "bound" ∷ point_word x.from ∷ point_word x.to ∷ numeral_of x.gap ∷ number x.cycles ∷ [])
    (searched_bounds k) (bound_decided k)
    (λ x ws h. (record { from = near k x.from h.0.from; to = near k x.to h.0.to; gap = h.0.gap; cycles = h.0.cycles }, h.0, h.1))
    (λ x b r. (r, refl))
