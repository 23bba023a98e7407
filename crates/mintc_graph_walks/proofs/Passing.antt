-- What a pass over the arcs keeps.
use Rattle.std.proofs.Common.{Bool, true, false, ◌≡◌, ℕ, ℤ, ◌+◌, ◌*◌, ◌^◌, ◌≤ℤ◌, ◌<ℤ◌, ◌<◌, ◌≤◌, ◌-◌, List, length, Option, Some, None, set, ⊎_elim, refl, sym, arith, ◌∙◌}
use Rattle.std.specs.Bool.{OnTrue, OnFalse}
use Rattle.std.proofs.lemmas.Int.{ints}
use Rattle.std.proofs.lemmas.Bool.{cases_lt}
use Rattle.mintc_graph_walks.specs.declared.network.Arc.{Arc}
use Rattle.mintc_graph_walks.specs.declared.network.TheConstants.{UNREACHED}
use Rattle.mintc_graph_walks.specs.declared.rise.Direction.{Direction}
use Rattle.mintc_graph_walks.specs.declared.rise.Direction.TheVariants.{Upwards, Downwards}
use Rattle.mintc_graph_walks.specs.Walks.{arc_at, value_at, brought}
use Rattle.mintc_graph_walks.specs.Bounds.{IsWithin, AreBounded}
use Rattle.mintc_graph_walks.specs.Rises.{HasTaken, HasPassed, turn}
use Rattle.mintc_graph_walks.proofs.Rising.{set_same, set_grows}
use Rattle.mintc_graph_walks.proofs.Relaxing.{HasRelaxed-none, HasRelaxed-then, HasRelaxed-raised}

pub HasTaken-none : (arcs : List Arc) (order : ℕ → ℕ) (values : List ℤ) (before : List ℕ) → HasTaken arcs order 0 values before values before None
HasTaken-none arcs order values before = record {
  relaxed = HasRelaxed-none arcs 0 values before;
  carried = λ k h r. absurd (omega arith);
  risen = tt;
  still = refl;
}

-- a pass takes each arc
each_turn : (d : Direction) (n e : ℕ) → e < n → (k : ℕ) × (k < n) × (turn d n k ≡ e)
each_turn Upwards n e h = (e, h, refl)
each_turn Downwards n e h = (n - (e + 1), omega arith, omega arith)

-- and there is an arc for each turn
pub turn_below : (d : Direction) (n k : ℕ) → k < n → turn d n k < n
turn_below Upwards n k h = h
turn_below Downwards n k h = omega arith

-- so when it has taken as many as there are, it has taken all
pub HasPassed-taken : (arcs : List Arc) (d : Direction) (old : List ℤ) (old_before : List ℕ) (values : List ℤ) (before : List ℕ) (raised : Option ℕ) → HasTaken arcs (turn d (length arcs)) (length arcs) old old_before values before raised →
    HasPassed arcs old old_before values before raised
HasPassed-taken arcs d old old_before values before raised p = record {
  relaxed = p.relaxed;
  carried = λ e h r. let t = each_turn d (length arcs) e h in let c = p.carried t.0 t.1 (rw t.2 r) in rw t.2 at c;
  risen = p.risen;
  still = p.still;
}

-- arc e is taken behind i others
module _ (arcs : List Arc) (order : ℕ → ℕ) (i e : ℕ) (is_turn : e ≡ order i) (old : List ℤ) (old_before : List ℕ) (values : List ℤ) (before : List ℕ) (raised : Option ℕ) (p : HasTaken arcs order i old old_before values before raised)
    (within : i < length arcs) (below : e < length arcs) (few : length arcs < 2 ^ 32) (nodes : length old < 2 ^ 32) (lengths : length values ≡ length old) (same : length before ≡ length old) (bounded : AreBounded (2 ^ 125) old)
    (inside : (arc_at arcs e).from < length old) (fits : (arc_at arcs e).to < length old) (weight : IsWithin (2 ^ 80) (arc_at arcs e).weight) where
  at_turn : (k : ℕ) → k < i + 1 → i ≤ k → order k ≡ e
  at_turn k h l = let q : k ≡ i = omega arith in rw (q, is_turn)

  now_bounded : AreBounded (2 ^ 125 + i * 2 ^ 80) values
  now_bounded = p.relaxed.bounded (2 ^ 125) bounded

  -- nothing is raised by arc e
  module _ (met : UNREACHED <ℤ value_at values (arc_at arcs e).from → brought values (arc_at arcs e) ≤ℤ value_at values (arc_at arcs e).to) where
    kept_carried : UNREACHED <ℤ value_at old (arc_at arcs e).from → (UNREACHED <ℤ value_at values (arc_at arcs e).to) × (brought old (arc_at arcs e) ≤ℤ value_at values (arc_at arcs e).to)
    kept_carried r =
        let g = p.relaxed.grows (arc_at arcs e).from in
        let r' : UNREACHED <ℤ value_at values (arc_at arcs e).from = omega (arith, ints) in
        let m = met r' in
        let w = (now_bounded (arc_at arcs e).from (rw lengths inside)).1 r' in
        (omega (arith, ints), omega (arith, ints))

    pub HasTaken-kept : HasTaken arcs order (i + 1) old old_before values before raised
    HasTaken-kept = record {
      relaxed = HasRelaxed-then arcs i 1 old old_before values before values before lengths p.relaxed (HasRelaxed-none arcs 1 values before);
      carried = λ k h r. ⊎_elim (λ l. p.carried k l r) (λ l. let q = at_turn k h l in rw q (kept_carried (rw q at r))) (cases_lt k i);
      risen = p.risen;
      still = p.still;
    }

  -- arc e raises its end
  module _ (reached : UNREACHED <ℤ value_at values (arc_at arcs e).from) (more : value_at values (arc_at arcs e).to <ℤ brought values (arc_at arcs e)) where
    abbrev to : ℕ
    to = (arc_at arcs e).to

    abbrev new : List ℤ
    new = set values to (brought values (arc_at arcs e))

    fits_now : to < length values
    fits_now = rw lengths fits

    new_grows : (v : ℕ) → value_at values v ≤ℤ value_at new v
    new_grows = set_grows values to (brought values (arc_at arcs e)) fits_now more

    new_to : value_at new to ≡ brought values (arc_at arcs e)
    new_to = set_same values to (brought values (arc_at arcs e)) fits_now more to refl

    new_carried : UNREACHED <ℤ value_at old (arc_at arcs e).from → (UNREACHED <ℤ value_at new to) × (brought old (arc_at arcs e) ≤ℤ value_at new to)
    new_carried r =
        let g = p.relaxed.grows (arc_at arcs e).from in
        let l = (now_bounded to fits_now).0 in
        let s = new_to in
        (omega (arith, ints), omega (arith, ints))

    pub HasTaken-raised : HasTaken arcs order (i + 1) old old_before new (set before to e) (Some to)
    HasTaken-raised = record {
      relaxed = HasRelaxed-then arcs i 1 old old_before values before new (set before to e) lengths p.relaxed
          (HasRelaxed-raised arcs values before e (same ∙ sym lengths) below few (rw lengths inside) fits_now weight reached more);
      carried = λ k h r. ⊎_elim
          (λ l. let c = p.carried k l r in let n = new_grows (arc_at arcs (order k)).to in (omega (arith, ints), omega (arith, ints)))
          (λ l. let q = at_turn k h l in rw q (new_carried (rw q at r)))
          (cases_lt k i);
      risen = (let g = p.relaxed.grows to in let s = new_to in (fits, omega (arith, ints)));
      still = tt;
    }

  -- the same two steps, from what `relax` ensures: whether it raised, and what holds where it did or didn't
  module _ (a : Arc) (values' : List ℤ) (before' : List ℕ) (raised' : Option ℕ) (raises : Bool) (is_arc : a ≡ arc_at arcs e) where
    pub kept_by_relax : raises ≡ false → OnFalse raises (UNREACHED <ℤ value_at values a.from → brought values a ≤ℤ value_at values a.to) → OnFalse raises (values' ≡ values) → OnFalse raises (before' ≡ before) → raised' ≡ raised →
        HasTaken arcs order (i + 1) old old_before values' before' raised'
    kept_by_relax kept met ev eb er = rw (rw kept at ev, rw kept at eb, er) (HasTaken-kept (rw is_arc at rw kept at met))

    pub raised_by_relax : raises ≡ true → OnTrue raises (UNREACHED <ℤ value_at values a.from) → OnTrue raises (value_at values a.to <ℤ brought values a) →
        OnTrue raises (values' ≡ set values a.to (brought values a)) → OnTrue raises (before' ≡ set before a.to e) → raised' ≡ Some a.to →
        HasTaken arcs order (i + 1) old old_before values' before' raised'
    raised_by_relax rises reached more ev eb er = rw (rw rises at ev, rw rises at eb, er, is_arc) (HasTaken-raised (rw is_arc at rw rises at reached) (rw is_arc at rw rises at more))

  pub value_in_range : (a : Arc) → a ≡ arc_at arcs e → UNREACHED <ℤ value_at values a.from → IsWithin (2 ^ 126) (value_at values a.from)
  value_in_range a ea r = rw ea (let r' = rw ea at r in let w = (now_bounded (arc_at arcs e).from (rw lengths inside)).1 r' in (omega (arith, ints), omega (arith, ints)))
