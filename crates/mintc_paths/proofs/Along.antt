-- Arcs along a sequence whose rows are still given to bits.
use Rattle.std.proofs.Common.{◌≡◌, ℕ, ◌<◌, ◌+◌, ◌++◌, ◌∷◌, [], List, length, get_or, arith, ap, ◌∙◌, sym, subst, ⊎_elim, length-append}
use Rattle.std.proofs.lemmas.Grind.{common_steps}
use Rattle.std.proofs.lemmas.Bool.{cases_lt}
use Rattle.std.proofs.lemmas.List.{get_or_append_left}
use Rattle.std.proofs.Math.Seq.{get_or-append_seam}
use Rattle.mintc_timing.specs.Design.{no_arc}
use Rattle.mintc_timing.specs.declared.parts.TimingArc.{TimingArc}
use Rattle.mintc_timing.specs.Paths.{arc_at}
use Rattle.mintc_paths_sums.specs.Placed.{row_of}
use Rattle.mintc_paths.specs.Sums.{AreAlong, IsMet, moved}

-- the first k arcs lead between rows that are given
pub record AreGiven (arcs : List TimingArc) (order : List ℕ) (rows : List ℕ) (given k : ℕ) : Type 0 where
  pub from : (i : ℕ) → i < k → row_of rows (arc_at arcs (get_or order i 0)).from < given
  pub to : (i : ℕ) → i < k → row_of rows (arc_at arcs (get_or order i 0)).to < given

module _ (arcs : List TimingArc) (order : List ℕ) (n : ℕ) (before after : List ℕ) (count : length before ≡ n) (bit given given_after k : ℕ) (met : IsMet before bit given after given_after)
    (from : (i : ℕ) → i < k → (arc_at arcs (get_or order i 0)).from < n) (to : (i : ℕ) → i < k → (arc_at arcs (get_or order i 0)).to < n) (h : AreGiven arcs order before given k) where
  from_kept : (i : ℕ) → i < k → row_of after (arc_at arcs (get_or order i 0)).from ≡ row_of before (arc_at arcs (get_or order i 0)).from
  from_kept i below = met.kept (arc_at arcs (get_or order i 0)).from (omega (arith, from i below, count)) (h.from i below)

  to_kept : (i : ℕ) → i < k → row_of after (arc_at arcs (get_or order i 0)).to ≡ row_of before (arc_at arcs (get_or order i 0)).to
  to_kept i below = met.kept (arc_at arcs (get_or order i 0)).to (omega (arith, to i below, count)) (h.to i below)

  pub AreGiven-met : AreGiven arcs order after given_after k
  AreGiven-met = record {
    from = λ i below. omega (arith, from_kept i below, h.from i below, met.more);
    to = λ i below. omega (arith, to_kept i below, h.to i below, met.more);
  }

  pub AreAlong-met : (along : List TimingArc) → AreAlong arcs order before k along → AreAlong arcs order after k along
  AreAlong-met along a = record { count = a.count; each = λ i below. a.each i below ∙ moved_same (arc_at arcs (get_or order i 0)) (from_kept i below) (to_kept i below) }
    where
      moved_same : (arc : TimingArc) → row_of after arc.from ≡ row_of before arc.from → row_of after arc.to ≡ row_of before arc.to → moved before arc ≡ moved after arc
      moved_same arc e f = grind (arith, common_steps)

-- one arc more
below_more : (P : ℕ → Type 0) (k : ℕ) → ((i : ℕ) → i < k → P i) → P k → (i : ℕ) → i < k + 1 → P i
below_more P k h here i below = ⊎_elim (λ low. h i low) (λ high. let same : k ≡ i = omega (arith, high, below) in subst P same here) (cases_lt i k)

pub AreGiven-more : (arcs : List TimingArc) (order rows : List ℕ) (given k : ℕ) → AreGiven arcs order rows given k → row_of rows (arc_at arcs (get_or order k 0)).from < given →
    row_of rows (arc_at arcs (get_or order k 0)).to < given → AreGiven arcs order rows given (k + 1)
AreGiven-more arcs order rows given k h from to = record {
  from = below_more (λ i. row_of rows (arc_at arcs (get_or order i 0)).from < given) k h.from from;
  to = below_more (λ i. row_of rows (arc_at arcs (get_or order i 0)).to < given) k h.to to;
}

pub AreAlong-more : (arcs : List TimingArc) (order rows : List ℕ) (k : ℕ) (along more : List TimingArc) (arc : TimingArc) → AreAlong arcs order rows k along → more ≡ along ++ arc ∷ [] →
    arc ≡ moved rows (arc_at arcs (get_or order k 0)) → AreAlong arcs order rows (k + 1) more
AreAlong-more arcs order rows k along more arc h longer is = record {
  count = ap length longer ∙ length-append along (arc ∷ []) ∙ ap (λ (n : ℕ). n + 1) h.count;
  each = below_more (λ i. arc_at more i ≡ moved rows (arc_at arcs (get_or order i 0))) k
      (λ i below. ap (λ (xs : List TimingArc). arc_at xs i) longer ∙ get_or_append_left along (arc ∷ []) no_arc i (omega (arith, below, h.count)) ∙ h.each i below)
      (ap (λ (xs : List TimingArc). arc_at xs k) longer ∙ ap (arc_at (along ++ arc ∷ [])) (sym h.count) ∙ get_or-append_seam along arc [] no_arc ∙ is);
}
