-- The table of drivers, and the search through it.
use Rattle.std.proofs.Common.{◌≡◌, ◌<◌, ◌≤◌, ◌+◌, ◌==◌, ℕ, zero, suc, Bool, true, false, cond, List, [], ◌∷◌, ◌++◌, length, slice_index_or, set, get_or, All, ⊎_elim, length-append, append_assoc, append-nil, map, take, flat_map, Option, Some, None, is_some, eqb, refl, sym, ap, ◌∙◌, subst, arith}
use Rattle.std.specs.List.{IsDistinct, AllByRecursion, list_any, range_with_len}
use Rattle.std.specs.Option.{option_or}
use Rattle.std.proofs.lemmas.Bool.{ne_eqb, eq-eqb, cases_eq}
use Rattle.std.proofs.lemmas.List.{get_or-set_same, get_or-set_other, get_or_append_left, get_or_push, length-set, take_more, map-append}
use Rattle.std.proofs.lemmas.List.FromFn.{map-range_with_len_more}
use Rattle.std.proofs.lemmas.Grind.{flat_map-append}
use Rattle.std.proofs.lemmas.List.Elements.{All-head, All-tail, All-nil, All-push}
use Rattle.std.proofs.lemmas.List.Folds.{find-append}
use Rattle.std.proofs.lemmas.Map.Steps.{length-le_from_distinct_below}
use Rattle.mintc_annotate.specs.declared.searching.Drive.{Drive}
use Rattle.mintc_annotate.specs.declared.searching.Spot.{Spot}
use Rattle.mintc_flatten_hierarchy.specs.declared.hierarchy.Join.{Join}
use Rattle.mintc_cells.specs.declared.cell.Cell.TheVariants.{Clock}
use Rattle.mintc_flatten_hierarchy.specs.declared.hierarchy.Hierarchy.{Hierarchy}
use Rattle.mintc_flatten_hierarchy.specs.declared.hierarchy.Leaf.{Leaf}
use Rattle.mintc_flatten_hierarchy.specs.Shape.{CellTable}
use Rattle.mintc_cells.specs.Entries.{cell_at}
use Rattle.mintc_annotate_resolve.specs.Pins.{leaf_at, leaf_cell}
use Rattle.mintc_annotate.specs.Phases.{drive, cell_drives, join_drive, driver_of, back, EndsAt}
use Rattle.mintc_annotate.specs.Searches.{AreDrivers, AreWithin}

-- ---- what is found among drivers
pub some_differs : {A : Type 0} (o : Option A) (x : A) → o ≡ None → o ≡ Some x → ⊥
some_differs o x none some = absurd (cc)

pub one_driver : (o : Option Drive) (d e : Drive) → o ≡ Some d → o ≡ Some e → d ≡ e
one_driver o d e a b = cc

found_here : (P : Drive → Type 0) (o : Option Drive) (e d : Drive) (test : Bool) → P e → (o ≡ Some d → P d) → cond test (Some e) o ≡ Some d → P d
found_here P o e d true here more same = let eq : e ≡ d = cc in subst P eq here
found_here P o e d false here more same = more same

pub found_in : (P : Drive → Type 0) (ds : List Drive) (b : ℕ) (d : Drive) → All P ds → driver_of ds b ≡ Some d → P d
found_in P [] b d all same = absurd (cc)
found_in P (e ∷ ds) b d all same = found_here P (driver_of ds b) e d (e.to == b) (All-head P e ds all) (found_in P ds b d (All-tail P e ds all)) same

-- ---- one more driver
or_none : (o : Option Drive) → option_or o None ≡ o
or_none o = grind arith

-- of another bit
pushed_other : (ds : List Drive) (d : Drive) (b : ℕ) → eqb d.to b ≡ false → driver_of (ds ++ d ∷ []) b ≡ driver_of ds b
pushed_other ds d b other = find-append (λ x. x.to == b) ds (d ∷ []) ∙ ap (λ (t : Bool). option_or (driver_of ds b) (cond t (Some d) None)) other ∙ or_none (driver_of ds b)

-- of a bit that is driven, or isn't yet
pushed_driven : (ds : List Drive) (d e : Drive) (b : ℕ) → driver_of ds b ≡ Some e → driver_of (ds ++ d ∷ []) b ≡ Some e
pushed_driven ds d e b driven = find-append (λ x. x.to == b) ds (d ∷ []) ∙ ap (λ (o : Option Drive). option_or o (driver_of (d ∷ []) b)) driven

pushed_first : (ds : List Drive) (d : Drive) (b : ℕ) → d.to ≡ b → driver_of ds b ≡ None → driver_of (ds ++ d ∷ []) b ≡ Some d
pushed_first ds d b same none =
    find-append (λ x. x.to == b) ds (d ∷ []) ∙ ap (λ (o : Option Drive). option_or o (driver_of (d ∷ []) b)) none ∙ ap (λ (t : Bool). cond t (Some d) None) (eq-eqb d.to b same)

-- the table after one more driver: where the bit is driven it stays, else the bit gets it
pub kept : (ds : List Drive) (d : Drive) (table : List (Option Drive)) (e : Drive) → AreDrivers ds (length table) table → d.to < length table → d.from < length table → slice_index_or table d.to None ≡ Some e →
    AreDrivers (ds ++ d ∷ []) (length table) table
kept ds d table e drivers within from there = record {
  size = refl;
  within = All-push (λ x. (x.to < length table) × (x.from < length table)) ds d drivers.within (within, from);
  each = λ b h. ⊎_elim
      (λ same. let at : slice_index_or table b None ≡ Some e = subst (λ (n : ℕ). slice_index_or table n None ≡ Some e) same there in at ∙ sym (pushed_driven ds d e b (sym (drivers.each b h) ∙ at)))
      (λ differs. drivers.each b h ∙ sym (pushed_other ds d b (ne_eqb d.to b differs)))
      (cases_eq d.to b);
}

pub put : (ds : List Drive) (d : Drive) (table : List (Option Drive)) → AreDrivers ds (length table) table → d.to < length table → d.from < length table → slice_index_or table d.to None ≡ None →
    AreDrivers (ds ++ d ∷ []) (length table) (set table d.to (Some d))
put ds d table drivers within from free = record {
  within = All-push (λ x. (x.to < length table) × (x.from < length table)) ds d drivers.within (within, from);
  size = length-set table d.to (Some d);
  each = λ b h. ⊎_elim
      (λ same.
      let read : get_or (set table d.to (Some d)) b None ≡ Some d = subst (λ (n : ℕ). get_or (set table d.to (Some d)) n None ≡ Some d) same (get_or-set_same table d.to (Some d) None within) in
      let none : driver_of ds b ≡ None = sym (drivers.each b h) ∙ subst (λ (n : ℕ). slice_index_or table n None ≡ None) same free in
      read ∙ sym (pushed_first ds d b same none))
      (λ differs. get_or-set_other table d.to b (Some d) None (λ e. differs (sym e)) ∙ drivers.each b h ∙ sym (pushed_other ds d b (ne_eqb d.to b differs)))
      (cases_eq d.to b);
}

-- one more bit that nothing drives
pub undriven_push : (table : List (Option Drive)) → AreDrivers [] (length table) table → AreDrivers [] (length table + 1) (table ++ None ∷ [])
undriven_push table drivers = record {
  within = All-nil (λ d. (d.to < length table + 1) × (d.from < length table + 1));
  size = length-append table (None ∷ []);
  each = λ b h. ⊎_elim
      (λ same. get_or_push table None None b (sym same))
      (λ differs. get_or_append_left table (None ∷ []) None b (omega (arith, h, differs)) ∙ drivers.each b (omega (arith, h, differs)))
      (cases_eq b (length table));
}

-- ---- the search
-- after so many steps back from a spot it is at another
abbrev pub After : List Drive → ℕ → Spot → Spot → Type 0
After ds zero s t = s ≡ t
After ds (suc n) s t = (d : Drive) × (driver_of ds s.bit ≡ Some d) × After ds n (back d s) t

pub After-push : (ds : List Drive) (n : ℕ) (s t : Spot) (d : Drive) → After ds n s t → driver_of ds t.bit ≡ Some d → After ds (suc n) s (back d t)
After-push ds zero s t d same driven = (d, ap (λ (x : Spot). driver_of ds x.bit) same ∙ driven, ap (back d) same)
After-push ds (suc n) s t d h driven = (h.0, h.1, After-push ds n (back h.0 s) t d h.2 driven)

pub After-ends : (ds : List Drive) (n : ℕ) (s t : Spot) → After ds n s t → driver_of ds t.bit ≡ None → EndsAt ds n s t
After-ends ds zero s t same none = (ap (λ (x : Spot). driver_of ds x.bit) same ∙ none, same)
After-ends ds (suc n) s t h none = (h.0, h.1, After-ends ds n (back h.0 s) t h.2 none)

After-le : (ds : List Drive) (n m : ℕ) (s t end : Spot) → After ds n s t → EndsAt ds m s end → n ≤ m
After-le ds zero m s t end after ends = omega arith
After-le ds (suc n) zero s t end after ends = absurd (some_differs (driver_of ds s.bit) after.0 ends.0 after.1)
After-le ds (suc n) (suc m) s t end after ends =
    let same : after.0 ≡ ends.0 = one_driver (driver_of ds s.bit) after.0 ends.0 after.1 ends.1 in
    omega (arith, After-le ds n m (back after.0 s) t end after.2 (subst (λ (d : Drive). EndsAt ds m (back d s) end) (sym same) ends.2))

-- how many steps it takes is said by the bit alone
same_count : (ds : List Drive) (n m : ℕ) (s t e f : Spot) → EndsAt ds n s e → EndsAt ds m t f → s.bit ≡ t.bit → n ≡ m
same_count ds zero zero s t e f a b same = refl
same_count ds zero (suc m) s t e f a b same = absurd (some_differs (driver_of ds t.bit) b.0 (ap (driver_of ds) (sym same) ∙ a.0) b.1)
same_count ds (suc n) zero s t e f a b same = absurd (some_differs (driver_of ds s.bit) a.0 (ap (driver_of ds) same ∙ b.0) a.1)
same_count ds (suc n) (suc m) s t e f a b same =
    let one : a.0 ≡ b.0 = one_driver (driver_of ds s.bit) a.0 b.0 a.1 (ap (driver_of ds) same ∙ b.1) in
    ap suc (same_count ds n m (back a.0 s) (back b.0 t) e f a.2 b.2 (ap (λ (d : Drive). d.from) one))

-- the bits that the search passes
trail : (ds : List Drive) (n : ℕ) (s e : Spot) → EndsAt ds n s e → List ℕ
trail ds zero s e h = s.bit ∷ []
trail ds (suc n) s e h = s.bit ∷ trail ds n (back h.0 s) e h.2

length-trail : (ds : List Drive) (n : ℕ) (s e : Spot) (h : EndsAt ds n s e) → length (trail ds n s e h) ≡ suc n
unfolding trail
length-trail ds zero s e h = refl
length-trail ds (suc n) s e h = ap suc (length-trail ds n (back h.0 s) e h.2)

apart : (ds : List Drive) (k m : ℕ) (s t e f : Spot) → EndsAt ds k s e → (h : EndsAt ds m t f) → m < k → AllByRecursion (λ y. eqb s.bit y ≡ false) (trail ds m t f h)
unfolding trail
apart ds k zero s t e f a h less = (ne_eqb s.bit t.bit (λ same. let counts = same_count ds k zero s t e f a h same in omega (arith, counts, less)), tt)
apart ds k (suc m) s t e f a h less =
    (ne_eqb s.bit t.bit (λ same. let counts = same_count ds k (suc m) s t e f a h same in omega (arith, counts, less)), apart ds k m s (back h.0 t) e f a h.2 (omega (arith, less)))

distinct : (ds : List Drive) (n : ℕ) (s e : Spot) (h : EndsAt ds n s e) → IsDistinct eqb (trail ds n s e h)
unfolding trail IsDistinct
distinct ds zero s e h = (tt, tt)
distinct ds (suc n) s e h = (apart ds (suc n) n s (back h.0 s) e e h h.2 (omega arith), distinct ds n (back h.0 s) e h.2)

below : (ds : List Drive) (count n : ℕ) (s e : Spot) (h : EndsAt ds n s e) → AreWithin count ds → s.bit < count → (q : ℕ) → list_any (eqb q) (trail ds n s e h) ≡ true → q < count
unfolding trail
below ds count zero s e h within start q among = ⊎_elim (λ same. subst (λ (b : ℕ). b < count) (sym same) start) (λ differs. absurd (let no = ne_eqb q s.bit differs in cc)) (cases_eq q s.bit)
below ds count (suc n) s e h within start q among =
    ⊎_elim
    (λ same. subst (λ (b : ℕ). b < count) (sym same) start)
    (λ differs. below ds count n (back h.0 s) e h.2 within (found_in (λ d. (d.to < count) × (d.from < count)) ds s.bit h.0 within h.1).1 q (rw (ne_eqb q s.bit differs) at among))
    (cases_eq q s.bit)

-- A search that ends does so in fewer steps than there are bits.
pub ends_soon : (ds : List Drive) (count n : ℕ) (s e : Spot) → AreWithin count ds → s.bit < count → EndsAt ds n s e → n < count
ends_soon ds count n s e within start h =
    omega (arith, length-le_from_distinct_below (trail ds n s e h) count (distinct ds n s e h) (below ds count n s e h within start), length-trail ds n s e h)

-- where the search goes on after as many steps as there are bits, it ends nowhere
pub never_ends : (ds : List Drive) (count steps : ℕ) (s t : Spot) → AreWithin count ds → s.bit < count → count ≤ steps → After ds steps s t → (n : ℕ) (end : Spot) → EndsAt ds n s end → ⊥
never_ends ds count steps s t within start many after n end ends = omega (arith, ends_soon ds count n s end within start ends, After-le ds steps n s t end after ends, many)

-- a spot to which the search comes is among the bits
pub After-within : (ds : List Drive) (count n : ℕ) (s t : Spot) → AreWithin count ds → s.bit < count → After ds n s t → t.bit < count
After-within ds count zero s t within start same = subst (λ (x : Spot). x.bit < count) same start
After-within ds count (suc n) s t within start h = After-within ds count n (back h.0 s) t within (found_in (λ d. (d.to < count) × (d.from < count)) ds s.bit h.0 within h.1).1 h.2

pub none_of : (o : Option Drive) → is_some o ≡ false → o ≡ None
none_of None h = refl
none_of (Some d) h = absurd (cc)

pub some_of : (o : Option Drive) → is_some o ≡ true → (d : Drive) × (o ≡ Some d)
some_of None h = absurd (cc)
some_of (Some d) h = (d, refl)

map-id : (xs : List ℕ) → map (λ (x : ℕ). x) xs ≡ xs
map-id [] = refl
map-id (x ∷ xs) = ap (λ l. x ∷ l) (map-id xs)

pub range_more : (k : ℕ) → range_with_len 0 (k + 1) ≡ range_with_len 0 k ++ k ∷ []
range_more k = sym (map-id (range_with_len 0 (k + 1))) ∙ map-range_with_len_more (λ (x : ℕ). x) 0 k k (omega arith) ∙ ap (λ l. l ++ k ∷ []) (map-id (range_with_len 0 k))

-- ---- adding drivers to a table, step by step
abbrev pub Adds : ℕ → List (Option Drive) → List Drive → List (Option Drive) → Type 0
Adds n old more new = (ds : List Drive) → AreDrivers ds n old → AreDrivers (ds ++ more) n new

pub Adds-then : (n : ℕ) (t u v : List (Option Drive)) (xs ys zs : List Drive) → xs ++ ys ≡ zs → Adds n t xs u → Adds n u ys v → Adds n t zs v
Adds-then n t u v xs ys zs e f g = λ ds h. subst (λ (l : List Drive). AreDrivers l n v) (append_assoc ds xs ys ∙ ap (λ (l : List Drive). ds ++ l) e) (g (ds ++ xs) (f ds h))

pub Adds-at : (n m : ℕ) (t u : List (Option Drive)) (xs : List Drive) → n ≡ m → Adds n t xs u → Adds m t xs u
Adds-at n m t u xs e f = subst (λ (k : ℕ). Adds k t xs u) e f

pub joins_more : (joins : List Join) (k : ℕ) (d : Join) → k < length joins → map join_drive (take k joins) ++ join_drive (get_or joins k d) ∷ [] ≡ map join_drive (take (k + 1) joins)
joins_more joins k d within = sym (ap (map join_drive) (take_more joins k d within) ∙ map-append join_drive (take k joins) (get_or joins k d ∷ []))

pub cells_more : {X : Type 0} (f : ℕ → List X) (k : ℕ) → flat_map f (range_with_len 0 k) ++ f k ≡ flat_map f (range_with_len 0 (k + 1))
cells_more f k = sym (ap (flat_map f) (range_more k) ∙ flat_map-append f (range_with_len 0 k) (k ∷ []) ∙ ap (λ l. flat_map f (range_with_len 0 k) ++ l) (append-nil (f k)))

-- what a clock cell drives, by its leaf
pub clock_drives : (h : Hierarchy) (cells : CellTable) (l : ℕ) (leaf : Leaf) (input output : List ℕ) (invert : Bool) (ignored names : List (List ℕ)) → leaf_at h l ≡ leaf →
    cell_at cells leaf.cell ≡ Clock input output invert ignored → names ≡ ignored → cell_drives h l (leaf_cell h cells l) ≡ drive (leaf.first_pin + (length names + 1)) leaf.first_pin invert ∷ []
clock_drives h cells l leaf input output invert ignored names at is same =
    let cell : leaf_cell h cells l ≡ Clock input output invert ignored = ap (λ (x : Leaf). cell_at cells x.cell) at ∙ is in
    let start : (leaf_at h l).first_pin + 0 ≡ (leaf_at h l).first_pin = omega arith in
    rw (cell, same, ← at, start) refl
