-- A bit that a search gives out.
use Rattle.std.proofs.Common.{◌≡◌, ◌≢◌, ℕ, ◌+◌, ◌-◌, ◌<◌, ◌≤◌, List, [], ◌∷◌, ◌++◌, length, get_or, set, take, sym, ap, ◌∙◌, ⊎_elim, arith, get_or-set_same, get_or-set_other}
use Rattle.std.specs.List.{Contains}
use Rattle.std.proofs.lemmas.Bool.{cases_eq, cases_lt}
use Rattle.std.proofs.lemmas.List.{get_or_append_left, get_or_default, get_or_push, get_or-take, length_push, length-set, length-take-le}
use Rattle.std.proofs.lemmas.List.Elements.{Contains-push, Contains-append_left}
use Rattle.mintc_order.specs.OutgoingArcs.{AreParts, IsPlace}
use Rattle.mintc_order.specs.Searches.{IsOpen, IsSearch}

-- The path's last bit, all of whose arcs are passed, is given out.
module _ {bits : ℕ} {starts ends marks path nexts given : List ℕ} (s : IsSearch bits starts ends marks path nexts given) (bit : ℕ) (path' nexts' : List ℕ)
    (shorter : length path ≡ length path' + 1) (each_next : length nexts' ≡ length path') (old : (i : ℕ) → i < length path' → get_or path' i 0 ≡ get_or path i 0)
    (old_next : (i : ℕ) → i < length path' → get_or nexts' i 0 ≡ get_or nexts i 0) (last : get_or path (length path') 0 ≡ bit)
    (through : get_or nexts (length path') 0 ≡ get_or starts (bit + 1) 0) where
  abbrev marks' : List ℕ
  marks' = set marks bit 1

  abbrev given' : List ℕ
  given' = given ++ bit ∷ []

  top : IsOpen bits starts ends marks (length path') bit (get_or starts (bit + 1) 0)
  top = rw (last, through) at (s.is_path.each_bit (length path') (omega arith))

  mark_same : get_or marks' bit 0 ≡ 1
  mark_same = get_or-set_same marks bit 1 0 (omega (arith, top))

  mark_other : (v : ℕ) → v ≢ bit → get_or marks' v 0 ≡ get_or marks v 0
  mark_other v ne = get_or-set_other marks bit v 1 0 ne

  still : (v : ℕ) → get_or marks v 0 ≡ 1 → get_or marks' v 0 ≡ 1
  still v h = grind (arith, mark_same, mark_other)

  each_bit : (i : ℕ) → i < length path' → IsOpen bits starts ends marks' i (get_or path' i 0) (get_or nexts' i 0)
  each_bit i h =
      let o = s.is_path.each_bit i (omega arith) in
      let ne : get_or path i 0 ≢ bit = λ q. omega (arith, top, ap (λ (v : ℕ). get_or marks v 0) q) in
      rw (old i h, old_next i h)
      (record {
        within = o.within;
        mark = mark_other (get_or path i 0) ne ∙ o.mark;
        first = o.first;
        last = o.last;
        passed = λ k l m. still (get_or ends k 0) (o.passed k l m);
      })

  abbrev Joins : ℕ → ℕ → ℕ → Type 0
  Joins n v w = (n < get_or starts (v + 1) 0) × (get_or ends n 0 ≡ w)

  joined : (i : ℕ) → i + 1 < length path' → Joins (get_or nexts' i 0) (get_or path' i 0) (get_or path' (i + 1) 0)
  joined i h = grind (arith, old, old_next, s.is_path.joined i)

  placed : (v i : ℕ) → get_or marks' v 0 ≡ i + 2 → (i < length path') × (get_or path' i 0 ≡ v)
  placed v i h = grind (arith, mark_same, mark_other, s.is_path.placed v i, old, last)

  before : (i : ℕ) → i < length given → get_or given' i 0 ≡ get_or given i 0
  before i h = get_or_append_left given (bit ∷ []) 0 i h

  at_last : (i : ℕ) → i < length given' → length given ≤ i → get_or given' i 0 ≡ bit
  at_last i h l = get_or_push given bit 0 i (omega (arith, length_push given bit))

  -- the bit isn't given out before
  apart : (i : ℕ) → i < length given → get_or given i 0 ≢ bit
  apart i h = λ q. omega (arith, top, s.are_given.out i h, ap (λ (v : ℕ). get_or marks v 0) q)

  within : (i : ℕ) → i < length given' → get_or given' i 0 < bits
  within i h = grind (arith, before, at_last, s.are_given.ordered.within, top)

  once : (i j : ℕ) → i < j → j < length given' → get_or given' i 0 ≢ get_or given' j 0
  once i j l h = grind (arith, length_push, before, at_last, s.are_given.ordered.once, apart)

  abbrev Follows : ℕ → ℕ → Type 0
  Follows i k = (j : ℕ) × (j < i) × (get_or given' j 0 ≡ get_or ends k 0)

  after : (i k : ℕ) → i < length given' → IsPlace starts (get_or given' i 0) k → Follows i k
  after i k h p =
      ⊎_elim
      (λ l.
      let found = s.are_given.ordered.after i k l (rw (before i l) at p) in
      (found.0, found.1, before found.0 (omega arith) ∙ found.2))
      (λ l.
      let here : IsPlace starts bit k = rw (at_last i h l) at p in
      let found = s.are_given.whole (get_or ends k 0) (top.passed k here.0 here.1) in
      (found.0, omega arith, before found.0 found.1 ∙ get_or_default given found.0 0 (get_or ends k 0) found.1 ∙ found.2))
      (cases_lt i (length given))

  out : (i : ℕ) → i < length given' → get_or marks' (get_or given' i 0) 0 ≡ 1
  out i h = grind (arith, before, at_last, still, s.are_given.out, mark_same)

  whole : (v : ℕ) → get_or marks' v 0 ≡ 1 → Contains given' v
  whole v h =
      ⊎_elim
      (λ q. rw q (Contains-push given bit))
      (λ ne. Contains-append_left given (bit ∷ []) v (s.are_given.whole v (sym (mark_other v ne) ∙ h)))
      (cases_eq v bit)

  pub IsSearch-given : IsSearch bits starts ends marks' path' nexts' given'
  IsSearch-given = record {
    each_mark = length-set marks bit 1 ∙ s.each_mark;
    is_path = record { each_next = each_next; each_bit = each_bit; joined = joined; placed = placed };
    are_given = record { ordered = record { within = within; once = once; after = after }; out = out; whole = whole };
  }

-- the same, of what the code wrote
pub IsSearch-given_as : {bits : ℕ} {starts numbers ends marks path nexts given : List ℕ} {m n : ℕ} → AreParts bits starts numbers ends × IsSearch bits starts ends marks path nexts given → (bit : ℕ) →
    0 < length path → get_or path (length path - 1) 0 ≡ bit → get_or nexts (length path - 1) 0 ≡ get_or starts (bit + 1) 0 → (path' nexts' given' : List ℕ) →
    m ≡ length path - 1 → n ≡ length nexts - 1 → path' ≡ take m path → nexts' ≡ take n nexts → given' ≡ given ++ bit ∷ [] →
    AreParts bits starts numbers ends × IsSearch bits starts ends (set marks bit 1) path' nexts' given'
IsSearch-given_as {path = path} {nexts = nexts} {m = m} {n = n} s bit some last through path' nexts' given' of_path of_nexts a b c =
    let q : length path' ≡ m = ap (λ (xs : List ℕ). length xs) a ∙ length-take-le m path (omega arith) in
    let r : length nexts' ≡ n = ap (λ (xs : List ℕ). length xs) b ∙ length-take-le n nexts (omega arith) in (
      s.0,
      rw c
          (IsSearch-given s.1 bit path' nexts' (omega arith) (omega arith)
          (λ i h. ap (λ (xs : List ℕ). get_or xs i 0) a ∙ get_or-take m path i 0 (omega arith))
          (λ i h. ap (λ (xs : List ℕ). get_or xs i 0) b ∙ get_or-take n nexts i 0 (omega arith))
          (ap (λ (i : ℕ). get_or path i 0) (q ∙ of_path) ∙ last)
          (ap (λ (i : ℕ). get_or nexts i 0) (q ∙ of_path) ∙ through)),
    )
