-- What arcs that are relaxed leave, one by one.
use Rattle.std.proofs.Common.{Bool, true, false, ◌≡◌, ℕ, ℤ, ◌+◌, ◌*◌, ◌^◌, ◌<ℤ◌, ◌<◌, ◌≤◌, List, length, set, ⊎_elim, sym, arith, ◌∙◌, length-set}
use Rattle.std.specs.Bool.{OnTrue, OnFalse}
use Rattle.std.proofs.lemmas.Int.{ints}
use Rattle.std.proofs.lemmas.Bool.{cases_eq}
use Rattle.mintc_graph_walks.specs.declared.network.Arc.{Arc}
use Rattle.mintc_graph_walks.specs.declared.network.TheConstants.{UNREACHED}
use Rattle.mintc_graph_walks.specs.Walks.{arc_at, value_at, brought}
use Rattle.mintc_graph_walks.specs.Bounds.{IsWithin, AreBounded}
use Rattle.mintc_graph_walks.specs.Rises.{HasRelaxed}
use Rattle.mintc_graph_walks.proofs.Rising.{raised_tended, aged, set_same, set_other, set_grows}

-- a smaller bound is a bound
pub AreBounded-weaker : (b c : ℕ) (values : List ℤ) → b ≤ c → AreBounded b values → AreBounded c values
AreBounded-weaker b c values h all v in' = let f = all v in' in (f.0, λ r. let g = f.1 r in (omega (arith, ints), omega (arith, ints)))

pub HasRelaxed-none : (arcs : List Arc) (n : ℕ) (values : List ℤ) (before : List ℕ) → HasRelaxed arcs n values before values before
HasRelaxed-none arcs n values before = record {
  tended = λ starts l some. some;
  bounded = λ b all. AreBounded-weaker b (b + n * 2 ^ 80) values (omega arith) all;
  grows = λ v. omega (arith, ints);
}

-- more arcs after these
pub HasRelaxed-then : (arcs : List Arc) (i j : ℕ) (old : List ℤ) (old_before : List ℕ) (values : List ℤ) (before : List ℕ) (new : List ℤ) (new_before : List ℕ) →
    length values ≡ length old → HasRelaxed arcs i old old_before values before → HasRelaxed arcs j values before new new_before → HasRelaxed arcs (i + j) old old_before new new_before
HasRelaxed-then arcs i j old old_before values before new new_before lengths p q = record {
  tended = λ starts l some. q.tended starts (l ∙ sym lengths) (p.tended starts l some);
  bounded = λ b all. AreBounded-weaker (b + i * 2 ^ 80 + j * 2 ^ 80) (b + (i + j) * 2 ^ 80) new (omega arith) (q.bounded (b + i * 2 ^ 80) (p.bounded b all));
  grows = λ v. let g = p.grows v in let k = q.grows v in omega (arith, ints);
}

-- arc e raises its end
module _ (arcs : List Arc) (values : List ℤ) (before : List ℕ) (e : ℕ) (same : length before ≡ length values) (below : e < length arcs) (few : length arcs < 2 ^ 32)
    (inside : (arc_at arcs e).from < length values) (fits : (arc_at arcs e).to < length values) (weight : IsWithin (2 ^ 80) (arc_at arcs e).weight) where
  module _ (reached : UNREACHED <ℤ value_at values (arc_at arcs e).from) (more : value_at values (arc_at arcs e).to <ℤ brought values (arc_at arcs e)) where
    abbrev to : ℕ
    to = (arc_at arcs e).to

    abbrev new : List ℤ
    new = set values to (brought values (arc_at arcs e))

    new_bounded : (b : ℕ) → AreBounded b values → AreBounded (b + 1 * 2 ^ 80) new
    new_bounded b all v h =
        ⊎_elim
        (λ q. let s = set_same values to (brought values (arc_at arcs e)) fits more v q in
        let l = (all to fits).0 in
        let f = (all (arc_at arcs e).from inside).1 reached in
        (omega (arith, ints), λ r. (omega (arith, ints), omega (arith, ints))))
        (λ q. let s = set_other values to (brought values (arc_at arcs e)) fits more v q in
        let f = all v (simp length-set at h) in
        let l = f.0 in
        (omega (arith, ints), λ r. let r' : UNREACHED <ℤ value_at values v = omega (arith, ints) in let g = f.1 r' in (omega (arith, ints), omega (arith, ints))))
        (cases_eq v to)

    pub HasRelaxed-raised : HasRelaxed arcs 1 values before new (set before to e)
    HasRelaxed-raised = record {
      tended = λ starts l some. (aged some.0 (arc_at arcs e).from to, raised_tended arcs starts values before some.0 some.1 same e below (omega arith) inside fits reached more);
      bounded = new_bounded;
      grows = set_grows values to (brought values (arc_at arcs e)) fits more;
    }

  -- arc e is relaxed, as `relax` ensures it
  pub HasRelaxed-by_relax : (a : Arc) (values' : List ℤ) (before' : List ℕ) (raises : Bool) → a ≡ arc_at arcs e →
      OnTrue raises (UNREACHED <ℤ value_at values a.from) → OnTrue raises (value_at values a.to <ℤ brought values a) →
      OnTrue raises (values' ≡ set values a.to (brought values a)) → OnTrue raises (before' ≡ set before a.to e) →
      OnFalse raises (values' ≡ values) → OnFalse raises (before' ≡ before) → HasRelaxed arcs 1 values before values' before'
  HasRelaxed-by_relax a values' before' true is_arc reached more ev eb kv kb = rw (ev, eb, is_arc) (HasRelaxed-raised (rw is_arc at reached) (rw is_arc at more))
  HasRelaxed-by_relax a values' before' false is_arc reached more ev eb kv kb = rw (kv, kb) (HasRelaxed-none arcs 1 values before)
