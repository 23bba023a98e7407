-- Times as they are read from machine words.
use Rattle.std.proofs.Common.{◌≡◌, ℤ, pos, negsuc, ◌≤ℤ◌, ◌+ℤ◌, ◌-ℤ◌, arith, ◌∙◌, sym, subst, to_z, of_z, w64}
use Rattle.std.specs.Int.{w128}
use Rattle.std.proofs.lemmas.Int.{ints, to_z-of_z}
use Rattle.mintc_timing.specs.Limits.{IsDenominator, IsNumerator}
use Rattle.mintcx_chain.specs.Names.{IsStageDelay}
use Rattle.mintcx_chart.specs.Ranges.{IsCycle, IsDrawnTime, IsLaps}
use Rattle.mintcx_judgements.specs.Shown.{IsLeaving, IsLong}
use Rattle.mintcx_fares.specs.Items.{IsOpening}

abbrev pub wide : ℤ → ℤ
wide x = to_z w128 (of_z w128 x)

abbrev pub short : ℤ → ℤ
short x = to_z w64 (of_z w64 x)

read_drawn : (x : ℤ) → IsDrawnTime x → wide x ≡ x
read_drawn x (low, high) = to_z-of_z w128 x (omega (arith, ints))

pub keep_drawn : (x : ℤ) → IsDrawnTime x → IsDrawnTime (wide x)
keep_drawn x h = subst IsDrawnTime (sym (read_drawn x h)) h

long_drawn : (x : ℤ) → IsLong x → IsDrawnTime x
long_drawn x (low, high) = (omega (arith, ints), omega (arith, ints))

pub leaving_drawn : (x : ℤ) → IsLeaving x → IsDrawnTime x
leaving_drawn x (low, high) = (omega (arith, ints), omega (arith, ints))

opening_drawn : (x : ℤ) → IsOpening x → IsDrawnTime x
opening_drawn x (low, high) = (omega (arith, ints), omega (arith, ints))

pub keep_long : (x : ℤ) → IsLong x → IsLong (wide x)
keep_long x h = subst IsLong (sym (read_drawn x (long_drawn x h))) h

pub keep_leaving : (x : ℤ) → IsLeaving x → IsLeaving (wide x)
keep_leaving x h = subst IsLeaving (sym (read_drawn x (leaving_drawn x h))) h

pub keep_opening : (x : ℤ) → IsOpening x → IsOpening (wide x)
keep_opening x h = subst IsOpening (sym (read_drawn x (opening_drawn x h))) h

read_numerator : (x : ℤ) → IsNumerator x → short x ≡ x
read_numerator x (low, high) = to_z-of_z w64 x (omega (arith, ints))

read_laps : (x : ℤ) → IsLaps x → short x ≡ x
read_laps x (low, high) = to_z-of_z w64 x (omega (arith, ints))

read_delay : (x : ℤ) → IsStageDelay x → short x ≡ x
read_delay x (low, high) = to_z-of_z w64 x (omega (arith, ints))

read_den : (x : ℤ) → IsDenominator x → short x ≡ x
read_den x (low, high) = to_z-of_z w64 x (omega (arith, ints))

read_cycle : (x : ℤ) → IsCycle x → short x ≡ x
read_cycle x (low, high) = to_z-of_z w64 x (omega (arith, ints))

pub keep_numerator : (x : ℤ) → IsNumerator x → IsNumerator (short x)
keep_numerator x h = subst IsNumerator (sym (read_numerator x h)) h

pub keep_laps : (x : ℤ) → IsLaps x → IsLaps (short x)
keep_laps x h = subst IsLaps (sym (read_laps x h)) h

pub keep_delay : (x : ℤ) → IsStageDelay x → IsStageDelay (short x)
keep_delay x h = subst IsStageDelay (sym (read_delay x h)) h

pub keep_den : (x : ℤ) → IsDenominator x → IsDenominator (short x)
keep_den x h = subst IsDenominator (sym (read_den x h)) h

pub keep_cycle : (x : ℤ) → IsCycle x → IsCycle (short x)
keep_cycle x h = subst IsCycle (sym (read_cycle x h)) h

-- a sum and a difference of two times
read_sum : (a b : ℤ) → IsDrawnTime a → IsDrawnTime b → wide (wide a +ℤ wide b) ≡ a +ℤ b
read_sum a b (low, high) (least, most) =
    rw (read_drawn a (low, high), read_drawn b (least, most)) (to_z-of_z w128 (a +ℤ b) (omega (arith, ints, low, high, least, most)))

read_less : (a b : ℤ) → IsDrawnTime a → IsDrawnTime b → wide (wide a -ℤ wide b) ≡ a -ℤ b
read_less a b (low, high) (least, most) =
    rw (read_drawn a (low, high), read_drawn b (least, most)) (to_z-of_z w128 (a -ℤ b) (omega (arith, ints, low, high, least, most)))

-- when a phase starts in a lap
pub opening_sum : (start f laps : ℤ) → f ≡ short start → IsNumerator start → negsuc 99999999999999 ≤ℤ laps → laps ≤ℤ pos 100000000000000000000 →
    IsOpening (wide (wide f +ℤ wide laps))
opening_sum start f laps read is low high =
    let near : IsNumerator f = subst IsNumerator (sym (read ∙ read_numerator start is)) is in
    let some : pos 0 ≤ℤ f = near.0 in
    let few : f ≤ℤ pos 100000000000000 = near.1 in
    subst IsOpening (sym (read_sum f laps (omega (arith, ints, some), omega (arith, ints, few)) (omega (arith, ints, low), omega (arith, ints, high))))
    (omega (arith, ints, some, low), omega (arith, ints, few, high))

-- a span of time as it is read
span_read : (t f : ℤ) → f ≡ short t → negsuc 399999999999999 ≤ℤ t → t ≤ℤ pos 400000000000000 → f ≡ t
span_read t f read low high = read ∙ to_z-of_z w64 t (omega (arith, ints, low, high))

-- when data comes
pub come_drawn : (at t f : ℤ) → f ≡ short t → IsLeaving at → negsuc 399999999999999 ≤ℤ t → t ≤ℤ pos 400000000000000 → IsDrawnTime (wide (wide at +ℤ wide f))
come_drawn at t f read (least, most) low high =
    let same = span_read t f read low high in
    let near : IsDrawnTime f = subst IsDrawnTime (sym same) (omega (arith, ints, low), omega (arith, ints, high)) in
    subst IsDrawnTime (sym (read_sum at f (omega (arith, ints, least), omega (arith, ints, most)) near))
    (subst (λ (v : ℤ). IsDrawnTime (at +ℤ v)) (sym same) (omega (arith, ints, low, least), omega (arith, ints, high, most)))

-- when data may come
module _ (edge t f : ℤ) (read : f ≡ short t) (least : negsuc 99999999999999 ≤ℤ edge) (most : edge ≤ℤ pos 300000000000000000000)
    (low : negsuc 399999999999999 ≤ℤ t) (high : t ≤ℤ pos 400000000000000) where
  edge_drawn : IsDrawnTime edge
  edge_drawn = (omega (arith, ints, least), omega (arith, ints, most))

  span_drawn : IsDrawnTime f
  span_drawn = subst IsDrawnTime (sym (span_read t f read low high)) (omega (arith, ints, low), omega (arith, ints, high))

  pub after_edge : IsDrawnTime (wide (wide edge +ℤ wide f))
  after_edge = subst IsDrawnTime (sym (read_sum edge f edge_drawn span_drawn))
      (subst (λ (v : ℤ). IsDrawnTime (edge +ℤ v)) (sym (span_read t f read low high)) (omega (arith, ints, low, least), omega (arith, ints, high, most)))

  pub before_edge : IsDrawnTime (wide (wide edge -ℤ wide f))
  before_edge = subst IsDrawnTime (sym (read_less edge f edge_drawn span_drawn))
      (subst (λ (v : ℤ). IsDrawnTime (edge -ℤ v)) (sym (span_read t f read low high)) (omega (arith, ints, high, least), omega (arith, ints, low, most)))

-- when data leaves an element that borrows
pub lent_drawn : (opens lent f : ℤ) → f ≡ short lent → IsOpening opens → pos 0 ≤ℤ lent → lent ≤ℤ pos 9223372036854775807 → IsDrawnTime (wide (wide opens +ℤ wide f))
lent_drawn opens lent f read (least, most) some few =
    let same : f ≡ lent = read ∙ to_z-of_z w64 lent (omega (arith, ints, some, few)) in
    let near : IsDrawnTime f = subst IsDrawnTime (sym same) (omega (arith, ints, some), omega (arith, ints, few)) in
    subst IsDrawnTime (sym (read_sum opens f (omega (arith, ints, least), omega (arith, ints, most)) near))
    (subst (λ (v : ℤ). IsDrawnTime (opens +ℤ v)) (sym same) (omega (arith, ints, some, least), omega (arith, ints, few, most)))
