-- Arcs of which none lead round have an order: each bit gets a level below those of the bits that its arcs enter. The
-- bits are taken out, the last first, and each two ways through a bit become one.
use Rattle.std.proofs.Common.{◌≡◌, ◌≢◌, ℕ, zero, suc, ◌<◌, ◌≤◌, ◌+◌, ◌*◌, ◌==◌, ◌&&◌, not, Bool, true, cond, List, [], ◌∷◌, ◌++◌, length, get_or, map, arith, refl, ◌∙◌, sym, subst, ◌⊎◌, inl, inr, ⊎_elim}
use Rattle.std.proofs.lemmas.Bool.{cases_eq, cases_lt}
use Rattle.std.proofs.lemmas.Bool.Decides.{nat_tests}
use Rattle.std.proofs.lemmas.List.Elements.{All-nil, All-cons, All-tail, All-append, All-map, All-weaker, All-contains, All-contains_itself}
use Rattle.std.proofs.lemmas.List.Elements.{Contains-append_left, Contains-append_right}
use Rattle.std.specs.List.{All, Contains, filter, flat_map, range_with_len}
use Rattle.mintc_timing.specs.declared.parts.TimingArc.{TimingArc}
use Rattle.mintc_timing.specs.Accepted.{IsArcLoop}
use Rattle.mintc_timing.specs.Paths.{Leads, arc_at}
use Rattle.mintc_timing.proofs.SharedMembers.{Contains-map, Contains-filter, Contains-flat_map, Contains-range, All-range, All-passing, All-pieces}

-- arcs that lead from one bit to another
pub record Way : Type 0 where
  pub from : ℕ
  pub to : ℕ
  pub path : List ℕ

-- two ways as one
abbrev pub join : Way → Way → Way
join a b = record { from = a.from; to = b.to; path = a.path ++ b.path }

-- the least number that no number of a list exceeds
abbrev IsLeastBound : List ℕ → ℕ → Type 0
IsLeastBound xs c = All (λ x. x ≤ c) xs × ((b : ℕ) → All (λ x. x ≤ b) xs → c ≤ b)

least_bound_step : (x : ℕ) (xs : List ℕ) (c : ℕ) → IsLeastBound xs c → (d : ℕ) × IsLeastBound (x ∷ xs) d
least_bound_step x xs c h = ⊎_elim
    (λ (less : x < c). (c, (All-cons (λ y. y ≤ c) x xs (omega arith) h.0, λ b all. h.1 b (All-tail (λ y. y ≤ b) x xs all))))
    (λ (more : c ≤ x).
    (x, (All-cons (λ y. y ≤ x) x xs (omega arith) (All-weaker (λ y. y ≤ c) (λ y. y ≤ x) (λ y low. omega arith) xs h.0), λ b all. all 0 0 (omega arith))))
    (cases_lt x c)

least_bound : (xs : List ℕ) → (c : ℕ) × IsLeastBound xs c
least_bound [] = (0, (All-nil (λ x. x ≤ 0), λ b all. omega arith))
least_bound (x ∷ xs) = let rest = least_bound xs in least_bound_step x xs rest.0 rest.1

append-some : (xs ys : List ℕ) → xs ≢ [] → xs ++ ys ≢ []
append-some [] ys some same = some refl
append-some (x ∷ xs) ys some same = cc

module _ (arcs : List TimingArc) where
  abbrev pub IsWay : Way → Type 0
  IsWay w = (w.path ≢ []) × Leads arcs w.from w.path w.to

  abbrev pub Loops : Type 0
  Loops = (loop : List ℕ) × IsArcLoop arcs loop

  leads-append : (a : ℕ) (front : List ℕ) (b : ℕ) (back : List ℕ) (c : ℕ) → Leads arcs a front b → Leads arcs b back c → Leads arcs a (front ++ back) c
  leads-append a [] b back c h g = subst (λ (v : ℕ). Leads arcs v back c) (sym h) g
  leads-append a (e ∷ front) b back c h g = (h.0, h.1, leads-append (arc_at arcs e).to front b back c h.2 g)

  join-is : (a b : Way) → IsWay a → IsWay b → a.to ≡ b.from → IsWay (join a b)
  join-is a b g h met = (
    append-some a.path b.path g.0,
    leads-append a.from a.path a.to b.path b.to g.1
        (subst (λ (v : ℕ). Leads arcs v b.path b.to) (sym met) h.1),
  )

  loop-of : (w : Way) → IsWay w → w.from ≡ w.to → Loops
  loop-of w h round = (w.path, record { some = h.0; closed = (w.from, subst (λ (v : ℕ). Leads arcs w.from w.path v) (sym round) h.1) })

-- levels of the bits
abbrev pub Rises : (ℕ → ℕ) → Way → Type 0
Rises level w = level w.from < level w.to

abbrev IsBelow : ℕ → Way → Type 0
IsBelow m w = (w.from < m) × (w.to < m)

-- a way from a bit back to it, or none
abbrev Turns : ℕ → Way → Type 0
Turns v w = (w.from ≡ v) × (w.to ≡ v)

turns_or_not : (v : ℕ) (w : Way) → Turns v w ⊎ (Turns v w → ⊥)
turns_or_not v w = ⊎_elim
    (λ (from : w.from ≡ v).
    ⊎_elim (λ (to : w.to ≡ v). inl (from, to)) (λ (to : w.to ≡ v → ⊥). inr (λ h. to h.1)) (cases_eq w.to v))
    (λ (from : w.from ≡ v → ⊥). inr (λ h. from h.0))
    (cases_eq w.from v)

abbrev Turning : ℕ → List Way → Type 0
Turning v ws = ((w : Way) × Contains ws w × Turns v w) ⊎ All (λ w. Turns v w → ⊥) ws

turning-step : (v : ℕ) (x : Way) (ws : List Way) → Turns v x ⊎ (Turns v x → ⊥) → Turning v ws → Turning v (x ∷ ws)
turning-step v x ws (inl here) rest = inl (x, (0, omega arith, refl), here)
turning-step v x ws (inr not_here) (inl rest) = inl (rest.0, (suc rest.1.0, let below = rest.1.1 in omega arith, rest.1.2), rest.2)
turning-step v x ws (inr not_here) (inr rest) = inr (All-cons (λ w. Turns v w → ⊥) x ws not_here rest)

turning : (v : ℕ) (ws : List Way) → Turning v ws
turning v [] = inr (All-nil (λ w. Turns v w → ⊥))
turning v (x ∷ ws) = turning-step v x ws (turns_or_not v x) (turning v ws)

-- one bit taken out
module _ (v : ℕ) (ws : List Way) where
  abbrev enters : Way → Bool
  enters w = (w.to == v) && not (w.from == v)

  abbrev leaves : Way → Bool
  leaves w = (w.from == v) && not (w.to == v)

  abbrev stays : Way → Bool
  stays w = not (w.from == v) && not (w.to == v)

  abbrev joins : List Way
  joins = flat_map (λ a. map (join a) (filter leaves ws)) (filter enters ws)

  abbrev rest : List Way
  rest = filter stays ws ++ joins

  enters-is : (w : Way) → w.to ≡ v → (w.from ≡ v → ⊥) → enters w ≡ true
  enters-is w to from = grind (arith, nat_tests)

  leaves-is : (w : Way) → w.from ≡ v → (w.to ≡ v → ⊥) → leaves w ≡ true
  leaves-is w from to = grind (arith, nat_tests)

  stays-is : (w : Way) → (w.from ≡ v → ⊥) → (w.to ≡ v → ⊥) → stays w ≡ true
  stays-is w from to = grind (arith, nat_tests)

  enters-says : (w : Way) → enters w ≡ true → (w.to ≡ v) × (w.from ≢ v)
  enters-says w h = (grind (arith, nat_tests), λ e. grind (arith, nat_tests))

  leaves-says : (w : Way) → leaves w ≡ true → (w.from ≡ v) × (w.to ≢ v)
  leaves-says w h = (grind (arith, nat_tests), λ e. grind (arith, nat_tests))

  stays-says : (w : Way) → stays w ≡ true → (w.from ≢ v) × (w.to ≢ v)
  stays-says w h = (λ e. grind (arith, nat_tests), λ e. grind (arith, nat_tests))

  in_rest : (w : Way) → Contains ws w → (w.from ≡ v → ⊥) → (w.to ≡ v → ⊥) → Contains rest w
  in_rest w h from to = Contains-append_left (filter stays ws) joins w (Contains-filter stays ws w (stays-is w from to) h)

  in_joins : (a b : Way) → Contains ws a → Contains ws b → a.to ≡ v → (a.from ≡ v → ⊥) → b.from ≡ v → (b.to ≡ v → ⊥) → Contains rest (join a b)
  in_joins a b g h to from from' to' =
      Contains-append_right (filter stays ws) joins (join a b)
      (Contains-flat_map (λ a. map (join a) (filter leaves ws)) (filter enters ws) a (join a b)
      (Contains-filter enters ws a (enters-is a to from) g)
      (Contains-map (join a) (filter leaves ws) b (Contains-filter leaves ws b (leaves-is b from' to') h)))

  -- what holds of each way of the rest, where it holds of those that stay and of those that are joined
  All-rest : (P : Way → Type 0) → ((w : Way) → Contains ws w → w.from ≢ v → w.to ≢ v → P w) →
      ((a b : Way) → Contains ws a → Contains ws b → a.to ≡ v → a.from ≢ v → b.from ≡ v → b.to ≢ v → P (join a b)) → All P rest
  All-rest P staying joining =
      All-append P (filter stays ws) joins
      (All-passing stays P ws (λ n d h. λ passes. let says = stays-says (get_or ws n d) passes in staying (get_or ws n d) (here n d h) says.0 says.1))
      (All-pieces (λ a. map (join a) (filter leaves ws)) P (filter enters ws)
      (All-passing enters (λ a. All P (map (join a) (filter leaves ws))) ws
      (λ n d h. λ passes.
      let a = get_or ws n d in
      let says = enters-says a passes in
      All-map P (join a) (filter leaves ws)
      (All-passing leaves (λ b. P (join a b)) ws
      (λ m e g. λ passes'.
      let says' = leaves-says (get_or ws m e) passes' in
      joining a (get_or ws m e) (here n d h) (here m e g) says.0 says.1 says'.0 says'.1)))))
    where
      here : (n : ℕ) (d : Way) → n < length ws → Contains ws (get_or ws n d)
      here n d h = All-contains_itself ws n d h

  -- Levels of the rest, and a level of the bit between those of the bits before and behind it.
  module _ (level : ℕ → ℕ) (rises : All (Rises level) rest) (none : All (λ w. Turns v w → ⊥) ws) where
    abbrev wide : ℕ → ℕ
    wide n = 2 * level n + 2

    abbrev before : List ℕ
    before = map (λ (w : Way). wide w.from) (filter enters ws)

    abbrev most : ℕ
    most = (least_bound before).0

    abbrev raised : ℕ → ℕ
    raised n = cond (n == v) (most + 1) (wide n)

    raised-here : (n : ℕ) → n ≡ v → raised n ≡ most + 1
    raised-here n e = grind (arith, nat_tests)

    raised-else : (n : ℕ) → (n ≡ v → ⊥) → raised n ≡ wide n
    raised-else n e = grind (arith, nat_tests)

    enter-low : (a : Way) → Contains ws a → a.to ≡ v → (a.from ≡ v → ⊥) → wide a.from ≤ most
    enter-low a h to from =
        All-contains (λ x. x ≤ most) before (wide a.from) (least_bound before).1.0
        (Contains-map (λ (w : Way). wide w.from) (filter enters ws) a (Contains-filter enters ws a (enters-is a to from) h))

    leave-high : (b : Way) → Contains ws b → b.from ≡ v → (b.to ≡ v → ⊥) → most ≤ 2 * level b.to
    leave-high b h from to =
        (least_bound before).1.1 (2 * level b.to)
        (All-map (λ x. x ≤ 2 * level b.to) (λ (w : Way). wide w.from) (filter enters ws)
        (All-passing enters (λ (w : Way). wide w.from ≤ 2 * level b.to) ws
        (λ n d low. λ passes.
        let a = get_or ws n d in
        let says = enters-says a passes in
        let joined = All-contains (Rises level) rest (join a b) rises (in_joins a b (All-contains_itself ws n d low) h says.0 says.1 from to) in
        omega arith)))

    rises-one : (w : Way) → Contains ws w → Rises raised w
    rises-one w h = ⊎_elim
        (λ (from : w.from ≡ v).
        ⊎_elim (λ (to : w.to ≡ v). absurd (All-contains (λ w. Turns v w → ⊥) ws w none h (from, to)))
        (λ (to : w.to ≡ v → ⊥).
        let high = leave-high w h from to in
        let a = raised-here w.from from in
        let b = raised-else w.to to in
        omega arith)
        (cases_eq w.to v))
        (λ (from : w.from ≡ v → ⊥).
        ⊎_elim
        (λ (to : w.to ≡ v).
        let low = enter-low w h to from in
        let a = raised-else w.from from in
        let b = raised-here w.to to in
        omega arith)
        (λ (to : w.to ≡ v → ⊥).
        let here = All-contains (Rises level) rest w rises (in_rest w h from to) in
        let a = raised-else w.from from in
        let b = raised-else w.to to in
        omega arith)
        (cases_eq w.to v))
        (cases_eq w.from v)

    rises-all : All (Rises raised) ws
    rises-all = λ n d h. rises-one (get_or ws n d) (All-contains_itself ws n d h)

-- Ways have levels, or some of them lead round.
pub levels_of : (arcs : List TimingArc) (m : ℕ) (ws : List Way) → All (IsBelow m) ws → All (IsWay arcs) ws →
    ((level : ℕ → ℕ) × All (Rises level) ws) ⊎ Loops arcs
levels_of arcs zero ws below are = inl ((λ n. n), λ n d h. absurd (let low = below n d h in omega arith))
levels_of arcs (suc m) ws below are = ⊎_elim
    (λ (turn : (w : Way) × Contains ws w × Turns m w). inr (loop-of arcs turn.0 (way-at turn.0 turn.1) (turn.2.0 ∙ sym turn.2.1)))
    (λ (none : All (λ w. Turns m w → ⊥) ws).
    ⊎_elim (λ (found : (level : ℕ → ℕ) × All (Rises level) (rest m ws)). inl (raised m ws found.0 found.1 none, rises-all m ws found.0 found.1 none))
    (λ (loop : Loops arcs). inr loop)
    (levels_of arcs m (rest m ws) below' are'))
    (turning m ws)
  where
    way-at : (w : Way) → Contains ws w → IsWay arcs w
    way-at w h = All-contains (IsWay arcs) ws w are h

    below-at : (w : Way) → Contains ws w → IsBelow (suc m) w
    below-at w h = All-contains (IsBelow (suc m)) ws w below h

    below' : All (IsBelow m) (rest m ws)
    below' = All-rest m ws (IsBelow m)
        (λ w h from to. let low = below-at w h in (lower w.from low.0 from, lower w.to low.1 to))
        (λ a b g h to from from' to'. let low = below-at a g in let low' = below-at b h in (lower a.from low.0 from, lower b.to low'.1 to'))
      where
        lower : (n : ℕ) → n < suc m → (n ≡ m → ⊥) → n < m
        lower n low other = grind arith

    are' : All (IsWay arcs) (rest m ws)
    are' = All-rest m ws (IsWay arcs) (λ w h from to. way-at w h)
        (λ a b g h to from from' to'. join-is arcs a b (way-at a g) (way-at b h) (to ∙ sym from'))

-- the ways of single arcs, and a number above all their bits
module _ (arcs : List TimingArc) where
  abbrev way_of : ℕ → Way
  way_of n = record { from = (arc_at arcs n).from; to = (arc_at arcs n).to; path = n ∷ [] }

  abbrev ways : List Way
  ways = map way_of (range_with_len 0 (length arcs))

  are_ways : All (IsWay arcs) ways
  are_ways = All-map (IsWay arcs) way_of (range_with_len 0 (length arcs))
      (All-range (λ n. IsWay arcs (way_of n)) 0 (length arcs) (λ n low high. ((λ same. cc same), (omega arith, refl, refl))))

  abbrev numbers : List ℕ
  numbers = range_with_len 0 (length arcs)

  -- a number that the arcs' bits, as f takes them, don't exceed
  bounded : (f : ℕ → ℕ) → (c : ℕ) × ((n : ℕ) → n < length arcs → f n ≤ c)
  bounded f =
      let found = least_bound (map f numbers) in
      (found.0, λ n low. All-contains (λ x. x ≤ found.0) (map f numbers) (f n) found.1.0 (Contains-map f numbers n (Contains-range 0 (length arcs) n (omega arith) (omega arith))))

  -- Each bit has a level below those of the bits that its arcs enter, or arcs lead round.
  pub levels : ((level : ℕ → ℕ) × ((n : ℕ) → n < length arcs → level (arc_at arcs n).from < level (arc_at arcs n).to)) ⊎ Loops arcs
  levels =
      let from = bounded (λ n. (arc_at arcs n).from) in
      let to = bounded (λ n. (arc_at arcs n).to) in
      let above : ℕ = from.0 + to.0 + 1 in
      let below : All (IsBelow above) ways = All-map (IsBelow above) way_of numbers
      (All-range (λ n. IsBelow above (way_of n)) 0 (length arcs) (λ n low high.
      let a = from.1 n (omega arith) in
      let b = to.1 n (omega arith) in
      (omega arith, omega arith))) in
      ⊎_elim
      (λ (found : (level : ℕ → ℕ) × All (Rises level) ways).
      inl (found.0, λ n low. All-contains (Rises found.0) ways (way_of n) found.1 (Contains-map way_of numbers n (Contains-range 0 (length arcs) n (omega arith) (omega arith)))))
      (λ (loop : Loops arcs). inr loop)
      (levels_of arcs above ways below are_ways)
