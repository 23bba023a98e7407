-- Walks along items, by their numbers and as lists, whatever the items are.
use Rattle.std.proofs.Common.{◌≡◌, ◌≢◌, ◌<◌, ℕ, ℤ, ◌+ℤ◌, List, [], ◌∷◌, ◌++◌, length, map, get_or, refl, sym, subst, ap, arith, ◌∙◌, All, Contains}
use Rattle.std.specs.Prelude.{slice_index_or}
use Rattle.std.proofs.lemmas.Int.{ints}
use Rattle.std.proofs.lemmas.List.{length-map, length-append, get_or-map, get_or_append_left, get_or_default}
use Rattle.std.proofs.lemmas.List.Elements.{All-nil, All-cons, All-head, All-tail, Contains-get_or}
use Rattle.mintc_graph.specs.Rings.{total, Joins, IsClosed, LeadsBy}

-- sums of lists joined, and of one more item
pub total-append : {X : Type 0} (f : X → ℤ) (xs ys : List X) → total f (xs ++ ys) ≡ total f xs +ℤ total f ys
total-append f [] ys = omega (arith, ints)
total-append f (x ∷ xs) ys = let rest = total-append f xs ys in omega (arith, ints)

pub total-push : {X : Type 0} (f : X → ℤ) (xs : List X) (x : X) → total f (xs ++ x ∷ []) ≡ total f xs +ℤ f x
total-push f [] x = omega (arith, ints)
total-push f (y ∷ xs) x = let rest = total-push f xs x in omega (arith, ints)

module _ {X : Type 0} (none : X) (items : List X) where
  -- the items of numbers that exist are of the list, and items of the list have numbers
  pub listed : (walk : List ℕ) → All (λ e. e < length items) walk → All (Contains items) (map (λ e. slice_index_or items e none) walk)
  listed [] h = All-nil (Contains items)
  listed (e ∷ walk) h =
      All-cons (Contains items) (slice_index_or items e none) (map (λ e. slice_index_or items e none) walk) (Contains-get_or items e none (All-head (λ e. e < length items) e walk h))
      (listed walk (All-tail (λ e. e < length items) e walk h))

  pub numbers_of : (chain : List X) → All (Contains items) chain → (walk : List ℕ) × (map (λ e. slice_index_or items e none) walk ≡ chain) × All (λ e. e < length items) walk
  numbers_of [] h = ([], refl, All-nil (λ e. e < length items))
  numbers_of (x ∷ chain) h =
      let here : Contains items x = All-head (Contains items) x chain h in
      let rest = numbers_of chain (All-tail (Contains items) x chain h) in
      let is : slice_index_or items here.0 none ≡ x = get_or_default items here.0 none x here.1 ∙ here.2 in
      let same : slice_index_or items here.0 none ∷ map (λ e. slice_index_or items e none) rest.0 ≡ x ∷ chain = let e = rest.1 in cc in
      (here.0 ∷ rest.0, same, All-cons (λ e. e < length items) here.0 rest.0 here.1 rest.2)

module _ {X : Type 0} (from to : X → ℕ) (none : X) (items : List X) where
  abbrev item_at : ℕ → X
  item_at e = slice_index_or items e none

  -- one walk after another, and one more item at the end of one
  pub LeadsBy-append : (a : ℕ) (front : List ℕ) (b : ℕ) (back : List ℕ) (c : ℕ) →
      LeadsBy from to none items a front b → LeadsBy from to none items b back c → LeadsBy from to none items a (front ++ back) c
  LeadsBy-append a [] b back c h g = subst (λ v. LeadsBy from to none items v back c) (sym h) g
  LeadsBy-append a (e ∷ front) b back c h g = (h.0, h.1, LeadsBy-append (to (item_at e)) front b back c h.2 g)

  pub LeadsBy-push : (a : ℕ) (walk : List ℕ) (e b : ℕ) → e < length items → LeadsBy from to none items a walk (from (item_at e)) → to (item_at e) ≡ b →
      LeadsBy from to none items a (walk ++ e ∷ []) b
  LeadsBy-push a [] e b below h ends = (below, sym h, ends)
  LeadsBy-push a (f ∷ walk) e b below h ends = (h.0, h.1, LeadsBy-push (to (item_at f)) walk e b below h.2 ends)

  -- What leads by number joins as items, and the way back.
  pub Joins-leads : (a : ℕ) (walk : List ℕ) (b : ℕ) → LeadsBy from to none items a walk b → Joins from to a (map item_at walk) b
  Joins-leads a [] b h = h
  Joins-leads a (e ∷ walk) b h = (h.1, Joins-leads (to (item_at e)) walk b h.2)

  pub exist-leads : (a : ℕ) (walk : List ℕ) (b : ℕ) → LeadsBy from to none items a walk b → All (λ e. e < length items) walk
  exist-leads a [] b h = All-nil (λ e. e < length items)
  exist-leads a (e ∷ walk) b h = All-cons (λ e. e < length items) e walk h.0 (exist-leads (to (item_at e)) walk b h.2)

  pub leads-joins : (a : ℕ) (walk : List ℕ) (b : ℕ) → All (λ e. e < length items) walk → Joins from to a (map item_at walk) b → LeadsBy from to none items a walk b
  leads-joins a [] b h j = j
  leads-joins a (e ∷ walk) b h j =
      (All-head (λ e. e < length items) e walk h, j.0, leads-joins (to (item_at e)) walk b (All-tail (λ e. e < length items) e walk h) j.1)

  -- A walk back to where it begins closes, and what closes is such a walk.
  pub closed-leads : (a : ℕ) (walk : List ℕ) → walk ≢ [] → LeadsBy from to none items a walk a → IsClosed from to (map item_at walk)
  closed-leads a [] some h = absurd (some refl)
  closed-leads a (e ∷ walk) some h = subst (Joins from to (to (item_at e)) (map item_at walk)) (sym h.1) (Joins-leads (to (item_at e)) walk a h.2)

  pub leads-closed : (walk : List ℕ) → All (λ e. e < length items) walk → IsClosed from to (map item_at walk) →
      (a : ℕ) × (a ≡ from (item_at (get_or walk 0 0))) × (walk ≢ []) × LeadsBy from to none items a walk a
  leads-closed [] h c = absurd c
  leads-closed (e ∷ walk) h c =
      let below = All-head (λ e. e < length items) e walk h in
      let some : e ∷ walk ≢ [] = λ q. cc q in
      (from (item_at e), refl, some, (below, refl, leads-joins (to (item_at e)) walk (from (item_at e)) (All-tail (λ e. e < length items) e walk h) c))

  -- with more items after them
  pub LeadsBy-front : (more : List X) (a : ℕ) (walk : List ℕ) (b : ℕ) → LeadsBy from to none items a walk b → LeadsBy from to none (items ++ more) a walk b
  LeadsBy-front more a [] b h = h
  LeadsBy-front more a (e ∷ walk) b h =
      let same = get_or_append_left items more none e h.0 in
      let sum = length-append items more in
      (omega (arith, h.0), ap from same ∙ h.1, rw same (LeadsBy-front more (to (item_at e)) walk b h.2))

-- A walk over items is one, with the same numbers, over items of another kind that lead from and to the same nodes.
module _ {X Y : Type 0} (from to : X → ℕ) (none : X) (from' to' : Y → ℕ) (none' : Y) (f : X → Y) (items : List X)
    (same : (x : X) → (from' (f x) ≡ from x) × (to' (f x) ≡ to x)) where
  image : (e : ℕ) → e < length items → slice_index_or (map f items) e none' ≡ f (slice_index_or items e none)
  image e h = get_or-map f items e none none' h

  from_is : (e : ℕ) → e < length items → from' (slice_index_or (map f items) e none') ≡ from (slice_index_or items e none)
  from_is e h = ap from' (image e h) ∙ (same (slice_index_or items e none)).0

  to_is : (e : ℕ) → e < length items → to' (slice_index_or (map f items) e none') ≡ to (slice_index_or items e none)
  to_is e h = ap to' (image e h) ∙ (same (slice_index_or items e none)).1

  pub LeadsBy-map : (walk : List ℕ) (a b : ℕ) → LeadsBy from to none items a walk b → LeadsBy from' to' none' (map f items) a walk b
  LeadsBy-map [] a b h = h
  LeadsBy-map (e ∷ walk) a b h =
      (rw (length-map items f) h.0, from_is e h.0 ∙ h.1, rw (to_is e h.0) (LeadsBy-map walk (to (slice_index_or items e none)) b h.2))

  pub LeadsBy-of_map : (walk : List ℕ) (a b : ℕ) → LeadsBy from' to' none' (map f items) a walk b → LeadsBy from to none items a walk b
  LeadsBy-of_map [] a b h = h
  LeadsBy-of_map (e ∷ walk) a b h =
      let below : e < length items = rw (length-map items f) at h.0 in
      (below, sym (from_is e below) ∙ h.1, LeadsBy-of_map walk (to (slice_index_or items e none)) b (rw (to_is e below) at h.2))
