-- Marks along one more arc of the order.
use Rattle.std.proofs.Common.{◌≡◌, ◌≢◌, ◌<◌, ◌≤◌, ◌+◌, ◌/◌, ◌%◌, ℕ, max, List, [], ◌∷◌, ◌++◌, length, get_or, arith, refl, ap, ◌∙◌, sym, subst, ◌⊎◌, inl, inr, ⊎_elim}
use Rattle.std.proofs.lemmas.Bool.{cases_eq}
use Rattle.std.proofs.lemmas.Nat.Bits.{bit_at-lt}
use Rattle.mintc_timing.specs.declared.parts.TimingArc.{TimingArc}
use Rattle.mintc_timing.specs.Among.{IsAmong}
use Rattle.mintc_timing.specs.Order.{IsOrder}
use Rattle.mintc_timing.specs.Paths.{Leads, arc_at, output_of}
use Rattle.mintc_timing.proofs.SharedOrdered.{AreAmong-push, AreAmong-more, Leads-push, inside, none_among, split}
use Rattle.mintc_paths_sums.specs.Placed.{row_of}
use Rattle.mintc_paths_count.specs.declared.marks.Marks.{Marks}
use Rattle.mintc_paths_count.specs.Marks.{AreMarksAlong, AreMarksBegun, IsMarkOf, IsReachedAlong, mark_in, marks_at}
use Rattle.mintc_paths.specs.Sums.{LeadsBack, moved}

-- a mark is 0 or 1
pub mark_is : (marks : Marks) (lane : ℕ) → (mark_in marks lane ≡ 0) ⊎ (mark_in marks lane ≡ 1)
mark_is marks lane = grind (arith, bit_at-lt (get_or marks.words (lane / 64) 0) (lane % 64))

-- what holds exactly where one of two other things holds
pub IsMarkOf-joined : (P Q R : Type 0) (x y z : ℕ) → (R → P ⊎ Q) → (P → R) → (Q → R) → (x < 2) → (y < 2) → z ≡ max x y → IsMarkOf P x → IsMarkOf Q y → IsMarkOf R z
IsMarkOf-joined P Q R x y z apart left right small_x small_y is p q = record {
  sound = λ e. ⊎_elim (λ one. left (p.sound one)) (λ one. right (q.sound one)) (one_of x y small_x small_y (sym is ∙ e));
  whole = λ r. ⊎_elim (λ h. omega (arith, p.whole h)) (λ h. omega (arith, q.whole h)) (apart r);
}
  where
    one_of : (x y : ℕ) → x < 2 → y < 2 → max x y ≡ 1 → (x ≡ 1) ⊎ (y ≡ 1)
    one_of x y h g e = grind arith

pub IsMarkOf-same : (P Q : Type 0) (x y : ℕ) → (P → Q) → (Q → P) → y ≡ x → IsMarkOf P x → IsMarkOf Q y
IsMarkOf-same P Q x y there back e p = record { sound = λ one. there (p.sound (sym e ∙ one)); whole = λ q. e ∙ p.whole (back q) }

module _ (arcs : List TimingArc) (order : List ℕ) where
  -- along no arcs a bit is reached from itself alone
  pub reached_none : (from to : ℕ) → IsReachedAlong arcs order 0 from to → to ≡ from
  reached_none from to h = sym (subst (λ path. Leads arcs from path to) (none_among order h.0 h.1) h.2)

  pub none_reached : (from to : ℕ) → to ≡ from → IsReachedAlong arcs order 0 from to
  none_reached from to e = ([], tt, sym e)

  pub reached_more : (k from to : ℕ) → IsReachedAlong arcs order k from to → IsReachedAlong arcs order (k + 1) from to
  reached_more k from to h = (h.0, AreAmong-more order k h.0 h.1, h.2)

module _ (arcs : List TimingArc) (order : List ℕ) (is_order : IsOrder arcs order) where
  -- the arc at a place of the order
  abbrev pub arc_of : ℕ → TimingArc
  arc_of k = arc_at arcs (get_or order k 0)

  pub reached_along : (k from : ℕ) → k < length order → IsReachedAlong arcs order k from (arc_of k).from → IsReachedAlong arcs order (k + 1) from (arc_of k).to
  reached_along k from low h =
      let n : ℕ = get_or order k 0 in
      let last : IsAmong order (k + 1) n = (k, omega arith, low, refl) in
      (h.0 ++ n ∷ [], AreAmong-push order (k + 1) h.0 n (AreAmong-more order k h.0 h.1) last, Leads-push arcs from h.0 n (inside arcs order is_order k low) h.2)

  -- a bit that is reached along one more arc was reached before, or is where that arc leads
  pub reached_split : (k from to : ℕ) → k < length order → IsReachedAlong arcs order (k + 1) from to →
      IsReachedAlong arcs order k from to ⊎ (IsReachedAlong arcs order k from (arc_of k).from × (to ≡ (arc_of k).to))
  reached_split k from to low h = ⊎_elim
      (λ old. inl (h.0, old, h.2))
      (λ new. inr ((new.0, new.1, new.2), new.3))
      (split arcs order is_order from h.0 to k low h.2 h.1)

-- two bits have two rows
pub rows_apart : (n : ℕ) (rows bits : List ℕ) → LeadsBack n rows bits → (a b : ℕ) → a < n → b < n → a ≢ b → row_of rows a ≢ row_of rows b
rows_apart n rows bits h a b in_a in_b ne e = ne (sym (h.leads a in_a) ∙ ap (row_of bits) e ∙ h.leads b in_b)

-- before any arc
pub AreMarksAlong-begun : (n : ℕ) (arcs : List TimingArc) (order rows : List ℕ) (first lanes : ℕ) (marks : List Marks) → AreMarksBegun n rows first lanes marks →
    AreMarksAlong n arcs order 0 rows first lanes marks
AreMarksAlong-begun n arcs order rows first lanes marks h bit lane below few =
    IsMarkOf-same (bit ≡ output_of (first + lane)) (IsReachedAlong arcs order 0 (output_of (first + lane)) bit) (mark_in (marks_at marks (row_of rows bit)) lane) (mark_in (marks_at marks (row_of rows bit)) lane)
    (none_reached arcs order (output_of (first + lane)) bit) (reached_none arcs order (output_of (first + lane)) bit) refl (h.begun bit lane below few)

-- what a call of carry leaves
pub record AreCarriedMarks (arc : TimingArc) (old new : List Marks) : Type 0 where
  pub others : (row : ℕ) → row ≢ arc.to → marks_at new row ≡ marks_at old row
  pub joined : (lane : ℕ) → lane < 128 → mark_in (marks_at new arc.to) lane ≡ max (mark_in (marks_at old arc.to) lane) (mark_in (marks_at old arc.from) lane)

module _ (n : ℕ) (arcs : List TimingArc) (order : List ℕ) (is_order : IsOrder arcs order) (rows bits : List ℕ) (h : LeadsBack n rows bits) (k first lanes : ℕ) (few : lanes ≤ 128)
    (low : k < length order) (in_from : (arc_of arcs order is_order k).from < n) (in_to : (arc_of arcs order is_order k).to < n) (old new : List Marks)
    (carried : AreCarriedMarks (moved rows (arc_of arcs order is_order k)) old new) (before : AreMarksAlong n arcs order k rows first lanes old) where
  abbrev arc : TimingArc
  arc = arc_of arcs order is_order k

  pub AreMarksAlong-more : AreMarksAlong n arcs order (k + 1) rows first lanes new
  AreMarksAlong-more bit lane below inside =
      let from : ℕ = output_of (first + lane) in
      ⊎_elim
      (λ (e : bit ≡ arc.to).
      let to_old = before arc.to lane in_to inside in
      let from_old = before arc.from lane in_from inside in
      subst (λ b. IsMarkOf (IsReachedAlong arcs order (k + 1) from b) (mark_in (marks_at new (row_of rows b)) lane)) (sym e)
      (IsMarkOf-joined (IsReachedAlong arcs order k from arc.to) (IsReachedAlong arcs order k from arc.from) (IsReachedAlong arcs order (k + 1) from arc.to)
      (mark_in (marks_at old (row_of rows arc.to)) lane) (mark_in (marks_at old (row_of rows arc.from)) lane) (mark_in (marks_at new (row_of rows arc.to)) lane)
      (λ r. ⊎_elim (λ p. inl p) (λ q. inr q.0) (reached_split arcs order is_order k from arc.to low r))
      (reached_more arcs order k from arc.to) (reached_along arcs order is_order k from low)
      (bit_at-lt _ _) (bit_at-lt _ _) (carried.joined lane (omega arith)) to_old from_old))
      (λ (ne : bit ≢ arc.to).
      IsMarkOf-same (IsReachedAlong arcs order k from bit) (IsReachedAlong arcs order (k + 1) from bit) (mark_in (marks_at old (row_of rows bit)) lane) (mark_in (marks_at new (row_of rows bit)) lane)
      (reached_more arcs order k from bit)
      (λ r. ⊎_elim (λ p. p) (λ q. absurd (ne q.1)) (reached_split arcs order is_order k from bit low r))
      (ap (λ (m : Marks). mark_in m lane) (carried.others (row_of rows bit) (rows_apart n rows bits h bit arc.to below in_to ne)))
      (before bit lane below inside))
      (cases_eq bit arc.to)
