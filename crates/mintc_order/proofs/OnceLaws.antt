-- Where arcs lead round, some of them do that leave no bit twice: a loop that leaves one twice has a shorter one.
use Rattle.std.proofs.Common.{◌≡◌, ◌≢◌, ℕ, zero, suc, ◌<◌, ◌≤◌, List, [], ◌∷◌, length, arith, refl, ◌∙◌, sym, ◌⊎◌, inl, inr, ⊎_elim}
use Rattle.std.proofs.lemmas.Bool.{cases_eq}
use Rattle.std.proofs.lemmas.List.Elements.{All-nil, All-cons}
use Rattle.std.proofs.lemmas.List.Kept.{AllPairs-cons}
use Rattle.std.specs.List.{All}
use Rattle.mintc_timing.specs.declared.parts.TimingArc.{TimingArc}
use Rattle.mintc_timing.specs.Accepted.{IsArcLoop, LeavesOnce}
use Rattle.mintc_timing.specs.Paths.{Leads, arc_at}

module _ (arcs : List TimingArc) where
  abbrev LeaveApart : ℕ → ℕ → Type 0
  LeaveApart m n = (arc_at arcs m).from ≢ (arc_at arcs n).from

  -- some arcs, which lead from a bit back to it
  abbrev Round : List ℕ → Type 0
  Round loop = (loop ≢ []) × ((bit : ℕ) × Leads arcs bit loop bit)

  abbrev Shorter : ℕ → Type 0
  Shorter count = (loop : List ℕ) × Round loop × (length loop < count)

  -- a path comes to a bit again, or leaves it nowhere
  abbrev Again : ℕ → ℕ → List ℕ → ℕ → Type 0
  Again bit from path to = ((front : List ℕ) × Leads arcs from front bit × (length front < length path)) ⊎ All (λ n. bit ≢ (arc_at arcs n).from) path

  again-step : (bit from n : ℕ) (path : List ℕ) (to : ℕ) → Leads arcs from (n ∷ path) to → (bit ≡ (arc_at arcs n).from) ⊎ (bit ≡ (arc_at arcs n).from → ⊥) → Again bit (arc_at arcs n).to path to →
      Again bit from (n ∷ path) to
  again-step bit from n path to h (inl here) rest = inl ([], sym h.1 ∙ sym here, omega arith)
  again-step bit from n path to h (inr other) (inl (front, leads, less)) = inl (n ∷ front, (h.0, h.1, leads), omega arith)
  again-step bit from n path to h (inr other) (inr none) = inr (All-cons (λ m. bit ≢ (arc_at arcs m).from) n path other none)

  again : (bit from : ℕ) (path : List ℕ) (to : ℕ) → Leads arcs from path to → Again bit from path to
  again bit from [] to h = inr (All-nil (λ n. bit ≢ (arc_at arcs n).from))
  again bit from (n ∷ path) to h = again-step bit from n path to h (cases_eq bit (arc_at arcs n).from) (again bit (arc_at arcs n).to path to h.2)

  -- a path leaves no bit twice, or a shorter one leads round
  once-step : (from n : ℕ) (path : List ℕ) (to : ℕ) → Leads arcs from (n ∷ path) to → Again (arc_at arcs n).from (arc_at arcs n).to path to → LeavesOnce arcs path ⊎ Shorter (length path) →
      LeavesOnce arcs (n ∷ path) ⊎ Shorter (length (n ∷ path))
  once-step from n path to h (inl (front, leads, less)) rest =
      inr (n ∷ front, ((λ same. cc same), ((arc_at arcs n).from, (h.0, refl, leads))), omega arith)
  once-step from n path to h (inr apart) (inl once) = inl (AllPairs-cons LeaveApart n path apart once)
  once-step from n path to h (inr apart) (inr (loop, round, less)) = inr (loop, round, omega arith)

  nothing-once : LeavesOnce arcs []
  nothing-once i j d less below = absurd (omega arith)

  once : (from : ℕ) (path : List ℕ) (to : ℕ) → Leads arcs from path to → LeavesOnce arcs path ⊎ Shorter (length path)
  once from [] to h = inl nothing-once
  once from (n ∷ path) to h = once-step from n path to h (again (arc_at arcs n).from (arc_at arcs n).to path to h.2) (once (arc_at arcs n).to path to h.2)

  abbrev OnceRound : Type 0
  OnceRound = (loop : List ℕ) × IsArcLoop arcs loop × LeavesOnce arcs loop

  once-within : (most : ℕ) (loop : List ℕ) → length loop ≤ most → Round loop → OnceRound
  once-within zero [] low h = absurd (h.0 refl)
  once-within zero (n ∷ loop) low h = absurd (omega arith)
  once-within (suc most) loop low h = ⊎_elim
      (λ (is : LeavesOnce arcs loop). (loop, record { some = h.0; closed = h.1 }, is))
      (λ (less : Shorter (length loop)). let fewer = less.2 in once-within most less.0 (omega arith) less.1)
      (once h.1.0 loop h.1.0 h.1.1)

  pub once_round : (loop : List ℕ) → IsArcLoop arcs loop → (loop : List ℕ) × IsArcLoop arcs loop × LeavesOnce arcs loop
  once_round loop h = once-within (length loop) loop (omega arith) (h.some, h.closed)
