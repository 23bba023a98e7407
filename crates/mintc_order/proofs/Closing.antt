-- The next arcs of a search's path, from the bit to which it leads back, are a loop.
use Rattle.std.proofs.Common.{◌≡◌, ℕ, suc, ◌+◌, ◌<◌, List, [], ◌∷◌, length, get_or, refl, sym, ap, ◌∙◌, arith}
use Rattle.std.proofs.lemmas.List.{get_or_default}
use Rattle.mintc_timing.specs.declared.parts.TimingArc.{TimingArc}
use Rattle.mintc_timing.specs.Paths.{arc_at, Leads}
use Rattle.mintc_timing.specs.Accepted.{IsArcLoop, LeavesOnce}
use Rattle.mintc_order.specs.Listings.{AreAll}
use Rattle.mintc_order.specs.OutgoingArcs.{AreParts, AreLeaving}
use Rattle.mintc_order.specs.Searches.{EndsAt, IsClosing, IsSearch}

-- Arcs of which each enters the bit that the next one leaves lead on.
leads : (arcs : List TimingArc) (xs : List ℕ) (start end : ℕ) → 0 < length xs → ((i : ℕ) → i < length xs → get_or xs i 0 < length arcs) →
    (arc_at arcs (get_or xs 0 0)).from ≡ start → ((i : ℕ) → suc i < length xs → (arc_at arcs (get_or xs i 0)).to ≡ (arc_at arcs (get_or xs (suc i) 0)).from) →
    ((i : ℕ) → length xs ≡ suc i → (arc_at arcs (get_or xs i 0)).to ≡ end) → Leads arcs start xs end
leads arcs [] start end some number first joined ends = absurd (omega arith)
leads arcs (n ∷ []) start end some number first joined ends = (number 0 (omega arith), first, ends 0 refl)
leads arcs (n ∷ (n' ∷ xs)) start end some number first joined ends = (
  number 0 (omega arith),
  first,
  leads arcs (n' ∷ xs) (arc_at arcs n).to end (omega arith) (λ i h. number (suc i) (omega arith)) (sym (joined 0 (omega arith))) (λ i h. joined (suc i) (omega arith)) (λ i q. ends (suc i) (omega arith)),
)

-- From the place of the bit to which the path leads, the next arcs of the path's bits are a loop.
module _ {bits : ℕ} {starts numbers ends marks path nexts given : List ℕ} (p : AreParts bits starts numbers ends) (s : IsSearch bits starts ends marks path nexts given) (bit d : ℕ)
    (mark : get_or marks bit 0 ≡ d + 2) (closes : EndsAt starts ends path nexts bit) where
  pub at_place : d < length path
  at_place = (s.is_path.placed bit d mark).0

  -- the next arc of each is one of the bit's
  pub below_stop : (i : ℕ) → i < length path → get_or nexts i 0 < get_or starts (get_or path i 0 + 1) 0
  below_stop i h = grind (arith, s.is_path.joined, closes)

  pub inside : (i : ℕ) → i < length path → get_or nexts i 0 < length numbers
  inside i h = omega (arith, s.is_path.each_bit i h, below_stop i h, p.inside (get_or path i 0 + 1))

  module _ {arcs : List TimingArc} (leaving : AreLeaving arcs bits starts numbers ends) (all : AreAll arcs numbers) (loop : List ℕ) (closing : IsClosing numbers nexts d (length nexts) loop) where
    len : d + length loop ≡ length path
    len = omega arith

    abbrev arc : ℕ → ℕ
    arc i = get_or numbers (get_or nexts (d + i) 0) 0

    at : (i : ℕ) → i < length loop → get_or loop i 0 ≡ arc i
    at i h = closing.each i h

    from : (i : ℕ) → i < length loop → (arc_at arcs (get_or loop i 0)).from ≡ get_or path (d + i) 0
    from i h =
        let o = s.is_path.each_bit (d + i) (omega (arith, len)) in
        ap (λ (n : ℕ). (arc_at arcs n).from) (at i h) ∙ leaving.leaves (get_or path (d + i) 0) (get_or nexts (d + i) 0) o.within (o.first, below_stop (d + i) (omega (arith, len)))

    to : (i : ℕ) → i < length loop → (arc_at arcs (get_or loop i 0)).to ≡ get_or ends (get_or nexts (d + i) 0) 0
    to i h =
        ap (λ (n : ℕ). (arc_at arcs n).to) (at i h) ∙ sym (leaving.enters (get_or nexts (d + i) 0) (inside (d + i) (omega (arith, len))))

    number : (i : ℕ) → i < length loop → get_or loop i 0 < length arcs
    number i h = rw (at i h) (all.number (get_or nexts (d + i) 0) (inside (d + i) (omega (arith, len))))

    some : 0 < length loop
    some = omega (arith, len, at_place)

    first : (arc_at arcs (get_or loop 0 0)).from ≡ bit
    first =
        let z : d + 0 ≡ d = omega arith in
        from 0 some ∙ ap (λ (i : ℕ). get_or path i 0) z ∙ (s.is_path.placed bit d mark).1

    joined : (i : ℕ) → suc i < length loop → (arc_at arcs (get_or loop i 0)).to ≡ (arc_at arcs (get_or loop (suc i) 0)).from
    joined i h = grind (arith, len, to, s.is_path.joined, from)

    ends_at : (i : ℕ) → length loop ≡ suc i → (arc_at arcs (get_or loop i 0)).to ≡ bit
    ends_at i q = to i (omega arith) ∙ (closes (d + i) (omega (arith, len))).1

    pub IsArcLoop-closing : IsArcLoop arcs loop
    IsArcLoop-closing = record {
      some = λ e. omega (arith, some, ap (λ (xs : List ℕ). length xs) e);
      closed = (bit, leads arcs loop bit bit some number first joined ends_at);
    }

    pub LeavesOnce-closing : LeavesOnce arcs loop
    LeavesOnce-closing i j k l h = let n = len in grind (arith, from i, from j, s.is_path.each_bit (d + i), s.is_path.each_bit (d + j), get_or_default loop i k 0, get_or_default loop j k 0)
