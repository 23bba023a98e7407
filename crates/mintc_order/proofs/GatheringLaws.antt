-- An order of arcs, from an order of the bits that they leave.
use Rattle.std.proofs.Common.{◌≡◌, ◌≢◌, ℕ, ◌+◌, ◌-◌, ◌<◌, ◌≤◌, List, length, get_or, sym, ap, ◌∙◌, ⊎_elim, arith}
use Rattle.std.specs.List.{Contains}
use Rattle.std.proofs.lemmas.Bool.{cases_lt}
use Rattle.std.proofs.lemmas.List.{get_or_default}
use Rattle.mintc_timing.specs.declared.parts.TimingArc.{TimingArc}
use Rattle.mintc_timing.specs.Paths.{arc_at}
use Rattle.mintc_timing.specs.Order.{IsOrder}
use Rattle.mintc_order.specs.Gatherings.{IsAdded}
use Rattle.mintc_order.specs.Listings.{AreAll}
use Rattle.mintc_order.specs.OutgoingArcs.{AreLeaving, AreParts, IsPlace}
use Rattle.mintc_order.specs.Searches.{AreAfterEnds}
use Rattle.mintc_order.proofs.Counting.{AreAll-count}

-- The arc leaves a bit that stands at this place or behind it.
abbrev pub IsOut : List TimingArc → List ℕ → ℕ → ℕ → Type 0
IsOut arcs given rest e = (j : ℕ) × (rest ≤ j) × (j < length given) × (get_or given j 0 ≡ (arc_at arcs e).from)

-- The list has the arcs of the bits that stand at this place or behind it, each once and after all arcs into the bit that it leaves.
pub record AreGathered (arcs : List TimingArc) (given : List ℕ) (rest : ℕ) (gathered : List ℕ) : Type 0 where
  pub number : (i : ℕ) → i < length gathered → get_or gathered i 0 < length arcs
  pub out : (i : ℕ) → i < length gathered → IsOut arcs given rest (get_or gathered i 0)
  pub whole : (e j : ℕ) → e < length arcs → rest ≤ j → j < length given → get_or given j 0 ≡ (arc_at arcs e).from → Contains gathered e
  pub once : (i j : ℕ) → i < j → j < length gathered → get_or gathered i 0 ≢ get_or gathered j 0
  pub after : (i j : ℕ) → i < length gathered → j < length gathered →
      (arc_at arcs (get_or gathered i 0)).to ≡ (arc_at arcs (get_or gathered j 0)).from → i < j

module _ {arcs : List TimingArc} {bits : ℕ} {starts numbers ends given : List ℕ} (p : AreParts bits starts numbers ends) (leaving : AreLeaving arcs bits starts numbers ends)
    (all : AreAll arcs numbers) (ordered : AreAfterEnds bits starts ends given) where
  -- where an arc is among the numbers
  place : (e : ℕ) → e < length arcs → (k : ℕ) × (k < length numbers) × (get_or numbers k 0 ≡ e)
  place e h =
      let found = all.whole e h in
      (found.0, found.1, get_or_default numbers found.0 0 e found.1 ∙ found.2)

  -- two places of one bit are the same
  apart : (i j : ℕ) → i < j → j < length given → get_or given i 0 ≡ get_or given j 0 → ⊥
  apart i j l h q = ordered.once i j l h q

  -- The arcs of the bit at the place before are added.
  module _ {rest : ℕ} {before after : List ℕ} (g : AreGathered arcs given (rest + 1) before) (in_given : rest < length given)
      (a : IsAdded numbers (get_or starts (get_or given rest 0) 0) (get_or starts (get_or given rest 0 + 1) 0) before after) where
    abbrev bit : ℕ
    bit = get_or given rest 0

    abbrev start : ℕ
    start = get_or starts bit 0

    in_bits : bit < bits
    in_bits = ordered.within rest in_given

    rises : start ≤ get_or starts (bit + 1) 0
    rises = p.rising bit in_bits

    grows : length before ≤ length after
    grows = omega (arith, rises)

    -- a new one, and its place
    new : (i : ℕ) → i < length after → length before ≤ i → get_or after i 0 ≡ get_or numbers (start + (i - length before)) 0
    new i h l =
        let z : length before + (i - length before) ≡ i = omega arith in
        ap (λ (n : ℕ). get_or after n 0) (sym z) ∙ a.added (i - length before) (omega arith)

    is_place : (i : ℕ) → i < length after → length before ≤ i → IsPlace starts bit (start + (i - length before))
    is_place i h l = (omega arith, omega arith)

    below : (i : ℕ) → i < length after → length before ≤ i → start + (i - length before) < length numbers
    below i h l = omega (arith, is_place i h l, p.inside (bit + 1) (omega (arith, in_bits)))

    from_new : (i : ℕ) → i < length after → length before ≤ i → (arc_at arcs (get_or after i 0)).from ≡ bit
    from_new i h l = ap (λ (n : ℕ). (arc_at arcs n).from) (new i h l) ∙ leaving.leaves bit (start + (i - length before)) in_bits (is_place i h l)

    to_new : (i : ℕ) → i < length after → length before ≤ i → (arc_at arcs (get_or after i 0)).to ≡ get_or ends (start + (i - length before)) 0
    to_new i h l = ap (λ (n : ℕ). (arc_at arcs n).to) (new i h l) ∙ sym (leaving.enters (start + (i - length before)) (below i h l))

    number : (i : ℕ) → i < length after → get_or after i 0 < length arcs
    number i h = grind (arith, a.same, g.number, new, all.number, below)

    out_old : (i : ℕ) → i < length before → IsOut arcs given (rest + 1) (get_or after i 0)
    out_old i h = rw (a.same i h) (g.out i h)

    out : (i : ℕ) → i < length after → IsOut arcs given rest (get_or after i 0)
    out i h =
        ⊎_elim
        (λ l. let o = out_old i l in (o.0, omega arith, o.2, o.3))
        (λ l. (rest, omega arith, in_given, sym (from_new i h l)))
        (cases_lt i (length before))

    whole : (e j : ℕ) → e < length arcs → rest ≤ j → j < length given → get_or given j 0 ≡ (arc_at arcs e).from → Contains after e
    whole e j h l m q =
        let grown = grows in
        ⊎_elim
        (λ here.
        let same : j ≡ rest = omega arith in
        let from : (arc_at arcs e).from ≡ bit = sym q ∙ ap (λ (i : ℕ). get_or given i 0) same in
        let at = place e h in
        let k : ℕ = at.0 in
        let placed : IsPlace starts bit k = rw (at.2, from) at (leaving.placed k at.1).1 in
        let z : start + (k - start) ≡ k = omega arith in (
          length before + (k - start),
          omega arith,
          get_or_default after (length before + (k - start)) e 0 (omega arith) ∙ a.added (k - start) (omega arith) ∙ ap (λ (n : ℕ). get_or numbers n 0) z ∙ at.2,
        ))
        (λ later.
        let found = g.whole e j h later m q in
        (found.0, omega arith, get_or_default after found.0 e 0 (omega arith) ∙ a.same found.0 found.1 ∙ get_or_default before found.0 0 e found.1 ∙ found.2))
        (cases_lt j (rest + 1))

    once : (i j : ℕ) → i < j → j < length after → get_or after i 0 ≢ get_or after j 0
    once i j l h = let len = grows in grind (arith, a.same i, a.same j, g.once i j, new i, new j, all.once (start + (i - length before)) (start + (j - length before)), below j, out_old i, from_new j, apart rest)

    after_all : (i j : ℕ) → i < length after → j < length after → (arc_at arcs (get_or after i 0)).to ≡ (arc_at arcs (get_or after j 0)).from → i < j
    after_all i j h k q = let len = grows in grind (arith, a.same i, a.same j, g.after i j, to_new i, ordered.after rest (start + (i - length before)), out j, apart, is_place i)

    pub AreGathered-more : AreGathered arcs given rest after
    AreGathered-more = record { number = number; out = out; whole = whole; once = once; after = after_all }

  -- Once the arcs of all bits are gathered, they are an order.
  pub IsOrder-gathered : (gathered : List ℕ) → ((b : ℕ) → b < bits → Contains given b) → AreGathered arcs given 0 gathered → IsOrder arcs gathered
  IsOrder-gathered gathered each g =
      let whole : (e : ℕ) → e < length arcs → Contains gathered e =
      λ e h.
      let at = place e h in
      let from : (arc_at arcs e).from < bits = rw at.2 at (leaving.placed at.0 at.1).0 in
      let found = each (arc_at arcs e).from from in
      g.whole e found.0 h (omega arith) found.1 (get_or_default given found.0 0 (arc_at arcs e).from found.1 ∙ found.2) in
      let full : AreAll arcs gathered = record { number = g.number; whole = whole; once = g.once } in
      record { count = AreAll-count full; whole = whole; ordered = g.after }
