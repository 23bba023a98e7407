-- Marks along last arcs find a ring, or none.
use Rattle.std.proofs.Common.{◌≡◌, ◌≢◌, ℕ, zero, suc, ◌+◌, ◌-◌, ◌<◌, ◌≤◌, List, [], ◌∷◌, length, slice_index, get_or, set, ⊎_elim, refl, sym, ap, arith, get_or-set_same, get_or-set_other, add-one}
use Rattle.std.proofs.lemmas.Bool.{cases_eq, cases_lt}
use Rattle.mintc_graph_walks.specs.declared.network.Arc.{Arc}
use Rattle.mintc_graph_walks.specs.declared.network.TheConstants.{NONE}
use Rattle.mintc_graph_walks.specs.Chains.{parent, AreParents, Back, IsRing}

-- how many nodes have no mark
abbrev pub unmarked : List ℕ → ℕ
unmarked [] = 0
unmarked (zero ∷ marks) = suc (unmarked marks)
unmarked (suc m ∷ marks) = unmarked marks

-- after j steps back from last, now at x: the marks number the nodes in the order in which they were met
pub record IsMarked (arcs : List Arc) (before : List ℕ) (last j : ℕ) (marks : List ℕ) (x : ℕ) : Type 0 where
  pub inside : x < length before
  pub back : Back arcs before j last x
  pub low : (v : ℕ) → v < length before → slice_index marks v ≤ j
  pub raised : (v : ℕ) → v < length before → 0 < slice_index marks v → slice_index before v ≢ NONE
  pub next : (v : ℕ) → v < length before → 0 < slice_index marks v → slice_index marks v < j → slice_index marks (parent arcs before v) ≡ slice_index marks v + 1
  pub newest : (v : ℕ) → v < length before → 0 < slice_index marks v → slice_index marks v ≡ j → parent arcs before v ≡ x
  pub count : unmarked marks + j ≡ length before

unmarked-zeros : (marks : List ℕ) → ((k : ℕ) → k < length marks → get_or marks k 0 ≡ 0) → unmarked marks ≡ length marks
unmarked-zeros [] h = refl
unmarked-zeros (zero ∷ marks) h = ap suc (unmarked-zeros marks (λ k l. h (suc k) (omega arith)))
unmarked-zeros (suc m ∷ marks) h = let z : suc m ≡ 0 = h 0 (omega arith) in absurd (omega arith)

-- a mark at an unmarked place
unmarked-set : (marks : List ℕ) (i m : ℕ) → i < length marks → get_or marks i 0 ≡ 0 → suc (unmarked (set marks i (suc m))) ≡ unmarked marks
unmarked-set [] i m h z = absurd (omega arith)
unmarked-set (zero ∷ marks) zero m h z = refl
unmarked-set (suc n ∷ marks) zero m h z = let z' : suc n ≡ 0 = z in absurd (omega arith)
unmarked-set (zero ∷ marks) (suc i) m h z = ap suc (unmarked-set marks i m (omega arith) z)
unmarked-set (suc n ∷ marks) (suc i) m h z = unmarked-set marks i m (omega arith) z

-- where no place is unmarked, each is marked
marked_at : (marks : List ℕ) (i : ℕ) → unmarked marks ≡ 0 → i < length marks → 0 < get_or marks i 0
marked_at [] i z h = absurd (omega arith)
marked_at (zero ∷ marks) i z h = absurd (omega arith)
marked_at (suc n ∷ marks) zero z h = omega arith
marked_at (suc n ∷ marks) (suc i) z h = marked_at marks i z (omega arith)

pub IsMarked-none : (arcs : List Arc) (before : List ℕ) (last : ℕ) (marks : List ℕ) → last < length before → length marks ≡ length before → ((k : ℕ) → k < length marks → get_or marks k 0 ≡ 0) → IsMarked arcs before last 0 marks last
IsMarked-none arcs before last marks inside same zeros = record {
  inside = inside;
  back = refl;
  low = λ v h. let z = zeros v (omega arith) in omega arith;
  raised = λ v h m. let z = zeros v (omega arith) in absurd (omega arith);
  next = λ v h m l. absurd (omega arith);
  newest = λ v h m l. absurd (omega arith);
  count = (let u = unmarked-zeros marks zeros in omega arith);
}

module _ (arcs : List Arc) (before : List ℕ) (last j : ℕ) (marks : List ℕ) (x : ℕ) (p : IsMarked arcs before last j marks x) (same : length marks ≡ length before) where
  pub IsRing-from_marked : 0 < get_or marks x 0 → j ≤ length before → IsRing arcs before marks x (j + 1 - get_or marks x 0)
  IsRing-from_marked m le = let low = p.low x p.inside in record {
    inside = p.inside;
    some = omega arith;
    fits = omega arith;
    raised = λ v h l. p.raised v h (omega arith);
    next = λ v h l k. p.next v h (omega arith) (omega arith);
    closes = λ v h l k. p.newest v h (omega arith) (omega arith);
  }

  -- after as many steps as there are nodes, the node has a mark
  pub IsRing-at_end : j ≡ length before → IsRing arcs before marks x (length before + 1 - get_or marks x 0)
  IsRing-at_end e = let c = p.count in let i = p.inside in let m = marked_at marks x (omega arith) (omega arith) in rw (← e) (IsRing-from_marked m (omega arith))

  module _ (x' : ℕ) (parents : AreParents arcs before) (unmarked' : get_or marks x 0 ≡ 0) (raised : get_or before x 0 ≢ NONE) (goes : x' ≡ parent arcs before x) where
    here : x < length marks
    here = rw same p.inside

    same_mark : (v : ℕ) → v ≡ x → get_or (set marks x (j + 1)) v 0 ≡ j + 1
    same_mark v e = let h = here in rw (e, get_or-set_same)

    other_mark : (v : ℕ) → v ≢ x → get_or (set marks x (j + 1)) v 0 ≡ get_or marks v 0
    other_mark v e = get_or-set_other marks x v (j + 1) 0 e

    more_low : (v : ℕ) → v < length before → get_or (set marks x (j + 1)) v 0 ≤ j + 1
    more_low v h = ⊎_elim (λ e. let s = same_mark v e in omega arith) (λ e. let s = other_mark v e in let l = p.low v h in omega arith) (cases_eq v x)

    more_raised : (v : ℕ) → v < length before → 0 < get_or (set marks x (j + 1)) v 0 → get_or before v 0 ≢ NONE
    more_raised v h m = ⊎_elim (λ e. rw e raised) (λ e. p.raised v h (rw (other_mark v e) at m)) (cases_eq v x)

    more_next : (v : ℕ) → v < length before → 0 < get_or (set marks x (j + 1)) v 0 → get_or (set marks x (j + 1)) v 0 < j + 1 → get_or (set marks x (j + 1)) (parent arcs before v) 0 ≡ get_or (set marks x (j + 1)) v 0 + 1
    more_next v h m l =
        ⊎_elim
        (λ e. let s = same_mark v e in absurd (omega arith))
        (λ e.
        let s = other_mark v e in
        ⊎_elim
        (λ k.
        let n = p.next v h (omega arith) k in
        let ne : parent arcs before v ≢ x = λ q. let z : get_or marks (parent arcs before v) 0 ≡ 0 = rw q unmarked' in omega arith in
        let o = other_mark (parent arcs before v) ne in omega arith)
        (λ k. let n = p.newest v h (omega arith) (omega arith) in let q = same_mark (parent arcs before v) n in omega arith)
        (cases_lt (get_or marks v 0) j))
        (cases_eq v x)

    more_newest : (v : ℕ) → v < length before → 0 < get_or (set marks x (j + 1)) v 0 → get_or (set marks x (j + 1)) v 0 ≡ j + 1 → parent arcs before v ≡ x'
    more_newest v h m l =
        ⊎_elim
        (λ e. rw e (sym goes))
        (λ e. let s = other_mark v e in let k = p.low v h in absurd (omega arith))
        (cases_eq v x)

    pub IsMarked-more : IsMarked arcs before last (j + 1) (set marks x (j + 1)) x'
    IsMarked-more = record {
      inside = rw goes (parents x p.inside raised).2;
      back = rw add-one (x, p.back, p.inside, raised, sym goes);
      low = more_low;
      raised = more_raised;
      next = more_next;
      newest = more_newest;
      count = (let u = unmarked-set marks x j here unmarked' in let c = p.count in let s : unmarked (set marks x (j + 1)) ≡ unmarked (set marks x (suc j)) = rw add-one in omega arith);
    }
