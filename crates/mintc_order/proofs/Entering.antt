-- A bit that goes to the path of a search.
use Rattle.std.proofs.Common.{◌≡◌, ◌≢◌, ℕ, ◌+◌, ◌<◌, List, [], ◌∷◌, ◌++◌, length, get_or, set, sym, ap, ◌∙◌, ⊎_elim, arith, get_or-set_same, get_or-set_other}
use Rattle.std.specs.List.{Contains}
use Rattle.std.proofs.lemmas.Bool.{cases_lt}
use Rattle.std.proofs.lemmas.List.{get_or_append_left, get_or_push, length_push, length-set}
use Rattle.mintc_order.specs.OutgoingArcs.{AreParts}
use Rattle.mintc_order.specs.Searches.{EndsAt, IsOpen, IsSearch}

-- A bit that isn't met, and that the next arc of the path's last bit enters, goes to the path.
module _ {bits : ℕ} {starts numbers ends marks path nexts given : List ℕ} (p : AreParts bits starts numbers ends) (s : IsSearch bits starts ends marks path nexts given) (bit : ℕ)
    (in_bits : bit < bits) (unmet : get_or marks bit 0 ≡ 0) (leads : EndsAt starts ends path nexts bit) where
  abbrev marks' : List ℕ
  marks' = set marks bit (length path + 2)

  abbrev path' : List ℕ
  path' = path ++ bit ∷ []

  abbrev nexts' : List ℕ
  nexts' = nexts ++ get_or starts bit 0 ∷ []

  mark_same : get_or marks' bit 0 ≡ length path + 2
  mark_same = get_or-set_same marks bit (length path + 2) 0 (omega arith)

  mark_other : (v : ℕ) → v ≢ bit → get_or marks' v 0 ≡ get_or marks v 0
  mark_other v ne = get_or-set_other marks bit v (length path + 2) 0 ne

  -- a bit that is met is another one
  other : (v m : ℕ) → get_or marks v 0 ≡ m + 1 → v ≢ bit
  other v m h = λ q. omega (arith, ap (λ (v' : ℕ). get_or marks v' 0) q)

  still : (v m : ℕ) → get_or marks v 0 ≡ m + 1 → get_or marks' v 0 ≡ m + 1
  still v m h = mark_other v (other v m h) ∙ h

  old : (i : ℕ) → i < length path → get_or path' i 0 ≡ get_or path i 0
  old i h = get_or_append_left path (bit ∷ []) 0 i h

  at_last : (i : ℕ) → i ≡ length path → get_or path' i 0 ≡ bit
  at_last i q = get_or_push path bit 0 i (sym q)

  old_next : (i : ℕ) → i < length path → get_or nexts' i 0 ≡ get_or nexts i 0
  old_next i h = get_or_append_left nexts (get_or starts bit 0 ∷ []) 0 i (omega arith)

  next_last : (i : ℕ) → i ≡ length path → get_or nexts' i 0 ≡ get_or starts bit 0
  next_last i q = get_or_push nexts (get_or starts bit 0) 0 i (omega arith)

  IsOpen-still : (i v n : ℕ) → IsOpen bits starts ends marks i v n → IsOpen bits starts ends marks' i v n
  IsOpen-still i v n o = record {
    within = o.within;
    mark = omega (arith, still v (i + 1));
    first = o.first;
    last = o.last;
    passed = λ k l h. still (get_or ends k 0) 0 (o.passed k l h);
  }

  IsOpen-last : (i : ℕ) → i ≡ length path → IsOpen bits starts ends marks' i bit (get_or starts bit 0)
  IsOpen-last i q = record {
    within = in_bits;
    mark = omega (arith, mark_same);
    first = omega arith;
    last = p.rising bit in_bits;
    passed = λ k l h. absurd (omega arith);
  }

  each_bit : (i : ℕ) → i < length path' → IsOpen bits starts ends marks' i (get_or path' i 0) (get_or nexts' i 0)
  each_bit i h =
      ⊎_elim
      (λ l. rw (old i l, old_next i l) (IsOpen-still i (get_or path i 0) (get_or nexts i 0) (s.is_path.each_bit i l)))
      (λ l. let q : i ≡ length path = omega (arith, length_push path bit) in rw (at_last i q, next_last i q) (IsOpen-last i q))
      (cases_lt i (length path))

  abbrev Joins : ℕ → ℕ → ℕ → Type 0
  Joins n v w = (n < get_or starts (v + 1) 0) × (get_or ends n 0 ≡ w)

  joined : (i : ℕ) → i + 1 < length path' → Joins (get_or nexts' i 0) (get_or path' i 0) (get_or path' (i + 1) 0)
  joined i h = grind (arith, length_push, old, old_next, at_last, leads, s.is_path.joined)

  placed : (v i : ℕ) → get_or marks' v 0 ≡ i + 2 → (i < length path') × (get_or path' i 0 ≡ v)
  placed v i h = grind (arith, length_push, mark_same, mark_other v, s.is_path.placed v i, old i, at_last i)

  whole : (v : ℕ) → get_or marks' v 0 ≡ 1 → Contains given v
  whole v h = grind (arith, mark_same, mark_other v, s.are_given.whole v)

  pub IsSearch-entered : IsSearch bits starts ends marks' path' nexts' given
  IsSearch-entered = record {
    each_mark = length-set marks bit (length path + 2) ∙ s.each_mark;
    is_path = record {
      each_next = omega (arith, length_push path bit, length_push nexts (get_or starts bit 0));
      each_bit = each_bit;
      joined = joined;
      placed = placed;
    };
    are_given = record { ordered = s.are_given.ordered; out = λ i h. still (get_or given i 0) 0 (s.are_given.out i h); whole = whole };
  }

-- the same, of what the code wrote
pub IsSearch-entered_as : {bits : ℕ} {starts numbers ends marks path nexts given : List ℕ} (p : AreParts bits starts numbers ends) (s : IsSearch bits starts ends marks path nexts given) (bit : ℕ) →
    bit < bits → get_or marks bit 0 ≡ 0 → EndsAt starts ends path nexts bit → (path' nexts' : List ℕ) (start mark : ℕ) →
    path' ≡ path ++ bit ∷ [] → nexts' ≡ nexts ++ start ∷ [] → start ≡ get_or starts bit 0 → mark ≡ length path + 2 →
    AreParts bits starts numbers ends × IsSearch bits starts ends (set marks bit mark) path' nexts' given
IsSearch-entered_as p s bit in_bits unmet leads path' nexts' start mark a b c d = (p, rw (a, b, c, d) (IsSearch-entered p s bit in_bits unmet leads))
