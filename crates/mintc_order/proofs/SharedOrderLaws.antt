-- Arcs have an order, or some of them lead round and leave no bit twice: the arcs by the levels of the bits that they leave.
use Rattle.std.proofs.Common.{◌≡◌, ℕ, zero, suc, ◌<◌, ◌≤◌, ◌+◌, List, [], ◌∷◌, length, get_or, arith, refl, ap, ◌∙◌, subst, inl, inr, ⊎_elim}
use Rattle.std.proofs.lemmas.Bool.{cases_lt}
use Rattle.std.proofs.lemmas.List.Elements.{All-cons, All-head, All-tail}
use Rattle.std.specs.List.{All, Contains, range_with_len}
use Rattle.std.proofs.lemmas.List.FromFn.{length-range_with_len}
use Rattle.mintc_timing.specs.declared.parts.TimingArc.{TimingArc}
use Rattle.mintc_timing.specs.Paths.{arc_at}
use Rattle.mintc_timing.specs.Order.{IsOrder}
use Rattle.mintc_timing.proofs.SharedMembers.{Contains-range, All-range}
use Rattle.mintc_order.specs.Refusals.{ArcsHaveOrderOrLoop}
use Rattle.mintc_order.proofs.LevelLaws.{levels, Loops}
use Rattle.mintc_order.proofs.OnceLaws.{once_round}

-- numbers in the order of their keys
module _ (key : ℕ → ℕ) where
  -- No number of the list has a lesser key.
  abbrev IsLeast : ℕ → List ℕ → Type 0
  IsLeast k [] = Unit {0}
  IsLeast k (x ∷ xs) = (k ≤ key x) × IsLeast k xs

  abbrev AreSorted : List ℕ → Type 0
  AreSorted [] = Unit {0}
  AreSorted (x ∷ xs) = IsLeast (key x) xs × AreSorted xs

  IsLeast-at : (k : ℕ) (xs : List ℕ) (i : ℕ) → IsLeast k xs → i < length xs → k ≤ key (get_or xs i 0)
  IsLeast-at k [] i h low = absurd (omega arith)
  IsLeast-at k (x ∷ xs) zero h low = h.0
  IsLeast-at k (x ∷ xs) (suc i) h low = IsLeast-at k xs i h.1 (omega arith)

  IsLeast-less : (k m : ℕ) (xs : List ℕ) → k ≤ m → IsLeast m xs → IsLeast k xs
  IsLeast-less k m [] low h = tt
  IsLeast-less k m (x ∷ xs) low h = (let here = h.0 in omega arith, IsLeast-less k m xs low h.1)

  -- Keys never fall.
  rising : (xs : List ℕ) (i j : ℕ) → AreSorted xs → i ≤ j → j < length xs → key (get_or xs i 0) ≤ key (get_or xs j 0)
  rising [] i j h low below = absurd (omega arith)
  rising (x ∷ xs) zero zero h low below = omega arith
  rising (x ∷ xs) zero (suc j) h low below = IsLeast-at (key x) xs j h.0 (omega arith)
  rising (x ∷ xs) (suc i) zero h low below = absurd (omega arith)
  rising (x ∷ xs) (suc i) (suc j) h low below = rising xs i j h.1 (omega arith) (omega arith)

  -- one number put in
  record IsPut (n : ℕ) (xs ys : List ℕ) : Type 0 where
    pub count : length ys ≡ length xs + 1
    pub here : Contains ys n
    pub kept : (m : ℕ) → Contains xs m → Contains ys m
    pub sorted : AreSorted ys
    pub least : (k : ℕ) → k ≤ key n → IsLeast k xs → IsLeast k ys
    pub within : (m : ℕ) → n < m → All (λ x. x < m) xs → All (λ x. x < m) ys

  later : (x m : ℕ) (xs : List ℕ) → Contains xs m → Contains (x ∷ xs) m
  later x m xs h = (suc h.0, let below = h.1 in omega arith, h.2)

  kept-cons : (x : ℕ) (xs ys : List ℕ) → ((m : ℕ) → Contains xs m → Contains ys m) → (m : ℕ) → Contains (x ∷ xs) m → Contains (x ∷ ys) m
  kept-cons x xs ys kept m (zero, low, same) = (zero, omega arith, same)
  kept-cons x xs ys kept m (suc i, low, same) = later x m ys (kept m (i, omega arith, same))

  put-first : (n : ℕ) (xs : List ℕ) → AreSorted xs → IsLeast (key n) xs → IsPut n xs (n ∷ xs)
  put-first n xs h least = record {
    count = omega arith;
    here = (0, omega arith, refl);
    kept = λ m there. later n m xs there;
    sorted = (least, h);
    least = λ k low rest. (low, rest);
    within = λ m low all. All-cons (λ x. x < m) n xs low all;
  }

  put-after : (n x : ℕ) (xs ys : List ℕ) → AreSorted (x ∷ xs) → key x ≤ key n → IsPut n xs ys → IsPut n (x ∷ xs) (x ∷ ys)
  put-after n x xs ys h low p = record {
    count = let count = p.count in omega arith;
    here = later x n ys p.here;
    kept = kept-cons x xs ys p.kept;
    sorted = (p.least (key x) low h.0, p.sorted);
    least = λ k small rest. (rest.0, p.least k small rest.1);
    within = λ m small all. All-cons (λ x. x < m) x ys (All-head (λ x. x < m) x xs all) (p.within m small (All-tail (λ x. x < m) x xs all));
  }

  put : (n : ℕ) (xs : List ℕ) → AreSorted xs → (ys : List ℕ) × IsPut n xs ys
  put n [] h = (n ∷ [], put-first n [] tt tt)
  put n (x ∷ xs) h = ⊎_elim
      (λ (first : key n < key x). (n ∷ x ∷ xs, put-first n (x ∷ xs) h (omega arith, IsLeast-less (key n) (key x) xs (omega arith) h.0)))
      (λ (after : key x ≤ key n). let rest = put n xs h.1 in (x ∷ rest.0, put-after n x xs rest.0 h after rest.1))
      (cases_lt (key n) (key x))

  -- all numbers put in order
  record AreIn (xs ys : List ℕ) : Type 0 where
    pub count : length ys ≡ length xs
    pub kept : (m : ℕ) → Contains xs m → Contains ys m
    pub sorted : AreSorted ys
    pub within : (m : ℕ) → All (λ x. x < m) xs → All (λ x. x < m) ys

  in-cons : (x : ℕ) (xs ys zs : List ℕ) → AreIn xs ys → IsPut x ys zs → AreIn (x ∷ xs) zs
  in-cons x xs ys zs p q = record {
    count = let a = p.count in let b = q.count in omega arith;
    kept = λ m there. member m there;
    sorted = q.sorted;
    within = λ m all. q.within m (All-head (λ x. x < m) x xs all) (p.within m (All-tail (λ x. x < m) x xs all));
  }
    where
      member : (m : ℕ) → Contains (x ∷ xs) m → Contains zs m
      member m (zero, low, same) = subst (λ (v : ℕ). Contains zs v) same q.here
      member m (suc i, low, same) = q.kept m (p.kept m (i, omega arith, same))

  in_order : (xs : List ℕ) → (ys : List ℕ) × AreIn xs ys
  in_order [] = ([], record { count = refl; kept = λ m there. there; sorted = tt; within = λ m all. all })
  in_order (x ∷ xs) =
      let rest = in_order xs in
      let more = put x rest.0 rest.1.sorted in
      (more.0, in-cons x xs rest.0 more.0 rest.1 more.1)

-- the arcs by the levels of the bits that they leave
module _ (arcs : List TimingArc) (level : ℕ → ℕ) (rises : (n : ℕ) → n < length arcs → level (arc_at arcs n).from < level (arc_at arcs n).to) where
  abbrev key : ℕ → ℕ
  key n = level (arc_at arcs n).from

  abbrev numbers : List ℕ
  numbers = range_with_len 0 (length arcs)

  before : (order : List ℕ) → AreIn key numbers order → (i j : ℕ) → i < length order → j < length order →
      (arc_at arcs (get_or order i 0)).to ≡ (arc_at arcs (get_or order j 0)).from → i < j
  before order is i j below below' met = ⊎_elim (λ (first : i < j). first)
      (λ (after : j ≤ i).
      let inside = is.within (length arcs) (All-range (λ n. n < length arcs) 0 (length arcs) (λ n low high. omega arith)) i 0 below in
      let up = rises (get_or order i 0) inside in
      let falls = rising key order j i is.sorted after below in
      let same : level (arc_at arcs (get_or order i 0)).to ≡ level (arc_at arcs (get_or order j 0)).from = ap level met in
      absurd (omega arith))
      (cases_lt i j)

  order-of : (order : List ℕ) → AreIn key numbers order → IsOrder arcs order
  order-of order is = record {
    count = is.count ∙ length-range_with_len 0 (length arcs);
    whole = λ n low. is.kept n (Contains-range 0 (length arcs) n (omega arith) (omega arith));
    ordered = before order is;
  }

pub arcs_have_order_or_loop_lem : ArcsHaveOrderOrLoop
arcs_have_order_or_loop_lem arcs = ⊎_elim
    (λ (found : (level : ℕ → ℕ) × ((n : ℕ) → n < length arcs → level (arc_at arcs n).from < level (arc_at arcs n).to)). let order = in_order (λ n. found.0 (arc_at arcs n).from) (range_with_len 0 (length arcs)) in inl (order.0, order-of arcs found.0 found.1 order.0 order.1))
    (λ (loop : Loops arcs). inr (once_round arcs loop.0 loop.1))
    (levels arcs)
