-- What a round over the arcs keeps.
use Rattle.std.proofs.Common.{◌≡◌, ℕ, zero, suc, ℤ, ◌+◌, ◌*◌, ◌^◌, ◌+ℤ◌, ◌≤ℤ◌, ◌<ℤ◌, ◌<◌, ◌≤◌, List, length, Option, Some, get_or, ⊎_elim, refl, sym, ap, arith, ◌∙◌, add-zero}
use Rattle.std.proofs.lemmas.Int.{ints}
use Rattle.std.proofs.lemmas.Bool.{cases_lt}
use Rattle.mintc_graph_walks.specs.declared.network.Arc.{Arc}
use Rattle.mintc_graph_walks.specs.declared.network.TheConstants.{UNREACHED, NONE}
use Rattle.mintc_graph_walks.specs.Walks.{arc_at, value_at, IsStart, IsReached}
use Rattle.mintc_graph_walks.specs.Bounds.{AreBounded, AreFew, most_nodes}
use Rattle.mintc_graph_walks.specs.Rises.{Walk, AreTended, SomeAge, HasRelaxed, HasPassed}
use Rattle.mintc_graph_walks.specs.Chains.{AreParents, Back, IsRooted}
use Rattle.mintc_graph_walks.proofs.Relaxing.{AreBounded-weaker}

-- each value is at least that of each walk of at most k arcs
abbrev pub IsCovered : List Arc → List ℤ → ℕ → List ℤ → Type 0
IsCovered arcs starts k values = (j v : ℕ) (x : ℤ) → j ≤ k → Walk arcs starts j v x → IsReached values v × (x ≤ℤ value_at values v)

-- What holds after so many passes, each of which raised a node, and after the arcs of the tree were relaxed. The last fact bounds them: a pass that raises a node
-- and leaves no chain is never the last of as many as there are nodes.
pub record IsRound (arcs : List Arc) (starts : List ℤ) (round : ℕ) (values : List ℤ) (before : List ℕ) : Type 0 where
  pub tended : SomeAge arcs starts values before
  pub bounded : AreBounded (2 ^ 96 + round * 2 ^ 109) values
  pub covered : IsCovered arcs starts round values
  pub begun : 0 < round → round < length starts

-- no node was raised yet
AreTended-unraised : (arcs : List Arc) (starts : List ℤ) (before : List ℕ) → ((v : ℕ) → v < length starts → get_or before v 0 ≡ NONE) → SomeAge arcs starts starts before
AreTended-unraised arcs starts before none = (
  λ v. 0,
  record {
    unraised = λ v h z. refl;
    numbered = λ v h z. absurd (z (none v h));
    tended = λ v h z. absurd (z (none v h));
    walked = λ v h r. (0, ((h, r), refl));
  },
)

-- then the arcs by which the nodes were raised lead to them from nodes
pub AreParents-tended : (arcs : List Arc) (starts values : List ℤ) (before : List ℕ) → length before ≡ length values → SomeAge arcs starts values before → AreParents arcs before
AreParents-tended arcs starts values before same some v h z =
    let inside : v < length values = omega arith in
    let t = some.1.tended v inside z in
    (some.1.numbered v inside z, t.ends, rw same t.inside)

-- before the first pass, when n arcs were relaxed
pub IsRound-none : (arcs : List Arc) (starts : List ℤ) (old_before : List ℕ) (n : ℕ) (values : List ℤ) (before : List ℕ) → ((v : ℕ) → v < length starts → get_or old_before v 0 ≡ NONE) →
    AreBounded (2 ^ 80) starts → n ≤ most_nodes → HasRelaxed arcs n starts old_before values before → IsRound arcs starts 0 values before
IsRound-none arcs starts old_before n values before none bounded short q = record {
  tended = q.tended starts refl (AreTended-unraised arcs starts old_before none);
  bounded = AreBounded-weaker (2 ^ 80 + n * 2 ^ 80) (2 ^ 96 + 0 * 2 ^ 109) values (omega arith) (q.bounded (2 ^ 80) bounded);
  covered = λ j v x h w.
      let z : j ≡ 0 = omega arith in
      let w' = rw z at w in
      let g = q.grows v in
      let s = w'.0.1 in
      let e = w'.1 in
      (omega (arith, ints), omega (arith, ints));
  begun = λ h. absurd (omega arith);
}

module _ (arcs : List Arc) (starts values : List ℤ) (before : List ℕ) (same : length before ≡ length values) where
  module _ (age : ℕ → ℕ) (all : AreTended arcs starts values before age) where
    -- where steps back from a reached node lead is reached
    Back-reached : (j v x : ℕ) → Back arcs before j v x → UNREACHED <ℤ value_at values v → UNREACHED <ℤ value_at values x
    Back-reached zero v x b r = rw b at r
    Back-reached (suc j) v x b r = let t = all.tended b.0 (rw same at b.2) b.3 in rw b.4 at t.reached

    -- a walk to where steps back lead goes on to the node, with at least its value
    Back-walk : (j v x k : ℕ) (y : ℤ) → Back arcs before j v x → Walk arcs starts k x y → value_at values x ≤ℤ y → (z : ℤ) × Walk arcs starts (k + j) v z × (value_at values v ≤ℤ z)
    Back-walk zero v x k y b w le = (y, rw (add-zero, b) w, rw b le)
    Back-walk (suc j) v x k y b w le =
        let m = b.0 in
        let t = all.tended m (rw same at b.2) b.3 in
        let a = arc_at arcs (get_or before m 0) in
        let w' : Walk arcs starts (suc k) m (y +ℤ a.weight) = (get_or before m 0, y, all.numbered m (rw same at b.2) b.3, rw b.4 w, t.ends, refl) in
        let brings = t.brings in
        let from = ap (value_at values) b.4 in
        let r = Back-walk j v m (suc k) (y +ℤ a.weight) b.1 w' (omega (arith, ints)) in
        let e : k + suc j ≡ suc k + j = omega arith in
        (r.0, rw e r.1, r.2)

    -- a rooted node has at most the value of a walk of fewer arcs than there are nodes
    pub rooted_walk : (v : ℕ) → IsRooted arcs before v → UNREACHED <ℤ value_at values v → length starts ≡ length values → (j : ℕ) × (z : ℤ) × (j < length starts) × Walk arcs starts j v z × (value_at values v ≤ℤ z)
    rooted_walk v (j, x, below, back, in', root) r l =
        let reached = Back-reached j v x back r in
        let first = all.unraised x (rw same at in') root in
        let start : IsStart starts x = (rw l (rw same at in'), rw first at reached) in
        let w = Back-walk j v x 0 (value_at values x) back (start, sym first) (omega (arith, ints)) in
        let e : 0 + j ≡ j = omega arith in
        (j, w.0, omega arith, rw e at w.1, w.2)

-- one pass more covers the walks of one arc more
module _ (arcs : List Arc) (starts old : List ℤ) (old_before : List ℕ) (new : List ℤ) (before : List ℕ) (raised round : ℕ) (p : HasPassed arcs old old_before new before (Some raised)) (r : IsRound arcs starts round old old_before) (lengths : length old ≡ length starts) where
  IsCovered-more : IsCovered arcs starts (round + 1) new
  IsCovered-more zero v x h w =
      let c = r.covered 0 v x (omega arith) w in
      let g = p.relaxed.grows v in
      (omega (arith, ints), omega (arith, ints))
  IsCovered-more (suc j) v x h (e, y, below, w, to, sums) =
      let c = r.covered j (arc_at arcs e).from y (omega arith) w in
      let b = p.carried e below c.0 in
      let at_to = ap (value_at new) to in
      (rw to at b.0, omega (arith, ints))

  -- a node that was raised in this pass and is rooted has been raised by a walk of more arcs than the passes before
  begun_more : IsRooted arcs before raised → length new ≡ length old → length before ≡ length old → AreBounded (2 ^ 125) old → round + 1 < length starts
  begun_more rooted l lb low =
      let now = p.relaxed.tended starts (sym lengths) r.tended in
      let rise = p.risen in
      let above = (low raised rise.0).0 in
      let w = rooted_walk arcs starts new before (lb ∙ sym l) now.0 now.1 raised rooted (omega (arith, ints)) (sym (l ∙ lengths)) in
      ⊎_elim
      (λ k. omega arith)
      (λ k. let c = r.covered w.0 raised w.1 k w.3 in let g = w.4 in let q = rise.1 in absurd (omega (arith, ints)))
      (cases_lt round w.0)

  -- after the pass n arcs were relaxed
  module _ (n : ℕ) (values' : List ℤ) (before' : List ℕ) (q : HasRelaxed arcs n new before values' before') (short : n ≤ most_nodes) where
    pub IsRound-more : IsRooted arcs before raised → length new ≡ length old → length before ≡ length old → AreFew arcs → AreBounded (2 ^ 125) old → IsRound arcs starts (round + 1) values' before'
    IsRound-more rooted l lb few low = record {
      tended = q.tended starts (sym (l ∙ lengths)) (p.relaxed.tended starts (sym lengths) r.tended);
      bounded = AreBounded-weaker (2 ^ 96 + round * 2 ^ 109 + length arcs * 2 ^ 80 + n * 2 ^ 80) (2 ^ 96 + (round + 1) * 2 ^ 109) values' (omega arith)
          (q.bounded (2 ^ 96 + round * 2 ^ 109 + length arcs * 2 ^ 80) (p.relaxed.bounded (2 ^ 96 + round * 2 ^ 109) r.bounded));
      covered = λ j v x h w.
          let c = IsCovered-more j v x h w in
          let g = q.grows v in
          (omega (arith, ints), omega (arith, ints));
      begun = λ h. begun_more rooted l lb low;
    }

-- the values stay in range
pub AreBounded-in_round : (arcs : List Arc) (starts : List ℤ) (round : ℕ) (values : List ℤ) (before : List ℕ) → IsRound arcs starts round values before → round < most_nodes → AreBounded (2 ^ 125) values
AreBounded-in_round arcs starts round values before r few v h = let f = r.bounded v h in (f.0, λ q. let g = f.1 q in (omega (arith, ints), omega (arith, ints)))

-- a pass keeps them there
pub AreBounded-after_pass : (arcs : List Arc) (starts : List ℤ) (round : ℕ) (values : List ℤ) (before : List ℕ) (new : List ℤ) (new_before : List ℕ) (raised : Option ℕ) → IsRound arcs starts round values before → round < most_nodes →
    AreFew arcs → HasPassed arcs values before new new_before raised → AreBounded (2 ^ 125) new
AreBounded-after_pass arcs starts round values before new new_before raised r short few p =
    AreBounded-weaker (2 ^ 96 + round * 2 ^ 109 + length arcs * 2 ^ 80) (2 ^ 125) new (omega arith) (p.relaxed.bounded (2 ^ 96 + round * 2 ^ 109) r.bounded)
