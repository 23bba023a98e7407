-- A search over modules, step by step.
use Rattle.std.proofs.Common.{◌≡◌, ◌≢◌, ◌⊎◌, inl, inr, ℕ, zero, suc, ◌+◌, ◌<◌, List, [], ◌∷◌, ◌++◌, length, slice_index, get_or, set, take, min, get_or-set_same, get_or-set_other, refl, sym, ap, ◌∙◌, subst, arith}
use Rattle.std.specs.List.{All, AllByRecursion}
use Rattle.std.proofs.lemmas.Bool.{cases_eq}
use Rattle.std.proofs.lemmas.List.{length-set, length_push, get_or_append_left, get_or_push, take_more}
use Rattle.std.proofs.lemmas.List.Sums.{sum_by-set, sum_by-le}
use Rattle.mintc_flatten_hierarchy.specs.declared.bindings.Binding.{Binding}
use Rattle.mintc_flatten_hierarchy.specs.declared.bindings.Binding.TheVariants.{OfCell, OfModule, OfNothing}
use Rattle.mintc_flatten_hierarchy.specs.Sources.{Source, module_at, bindings_in}
use Rattle.mintc_flatten_binding.specs.Orders.{Stands, IsOrder, HoldsAll}
use Rattle.mintc_flatten_binding.specs.PostOrder.{IsPlaced, IsOrdering}

pub each : {P Q : Binding → Type 0} → ((t : Binding) → P t → Q t) → (ts : List Binding) → AllByRecursion P ts → AllByRecursion Q ts
each f [] h = tt
each f (t ∷ ts) h = (f t h.0, each f ts h.1)

-- what is placed stands in the order
stands : (s : Source) (order places nexts : List ℕ) → IsOrdering s order places nexts → (last : ℕ) (t : Binding) → IsPlaced places t → Stands (order ++ last ∷ []) (length order) t
stands s order places nexts h last (OfCell n) placed = tt
stands s order places nexts h last OfNothing placed = tt
stands s order places nexts h last (OfModule k) placed = at_place (slice_index places k) refl placed
  where
    at_place : (x : ℕ) → slice_index places k ≡ x → 0 < x → Stands (order ++ last ∷ []) (length order) (OfModule k)
    at_place zero e more = absurd (omega arith)
    at_place (suc p) e more =
        let next : slice_index places k ≡ p + 1 = omega arith in
        let found = h.placed k p next in
        let inside = found.0 in
        (p, inside, get_or_append_left order (last ∷ []) 0 p inside ∙ found.1)

-- One module is given out.
placed_more : (places : List ℕ) (m place : ℕ) → m < length places → 0 < place → (t : Binding) → IsPlaced places t → IsPlaced (set places m place) t
placed_more places m place inside more (OfCell n) h = tt
placed_more places m place inside more OfNothing h = tt
placed_more places m place inside more (OfModule k) h = by_case (cases_eq k m)
  where
    by_case : (k ≡ m) ⊎ (k ≢ m) → 0 < slice_index (set places m place) k
    by_case (inl same) = subst (λ (x : ℕ). 0 < slice_index (set places m place) x) (sym same) (subst (λ (x : ℕ). 0 < x) (sym (get_or-set_same places m place 0 inside)) more)
    by_case (inr other) = subst (λ (x : ℕ). 0 < x) (sym (get_or-set_other places m k place 0 other)) h

stands_more : (order : List ℕ) (m i : ℕ) → i < length order → (t : Binding) → Stands order i t → Stands (order ++ m ∷ []) i t
stands_more order m i inside (OfCell n) h = tt
stands_more order m i inside OfNothing h = tt
stands_more order m i inside (OfModule k) (j, before, is) = let within : j < length order = omega arith in (j, before, get_or_append_left order (m ∷ []) 0 j within ∙ is)

pub last_or_before : (i n : ℕ) → i < n + 1 → (i < n) ⊎ (i ≡ n)
last_or_before i n h = by_case (cases_eq i n)
  where
    by_case : (i ≡ n) ⊎ (i ≢ n) → (i < n) ⊎ (i ≡ n)
    by_case (inl same) = inr same
    by_case (inr other) = inl (omega arith)

placed_step : (s : Source) (order places nexts : List ℕ) (m place k p : ℕ) → IsOrdering s order places nexts → m < length places → place ≡ length order + 1 → (k ≡ m) ⊎ (k ≢ m) →
    slice_index (set places m place) k ≡ p + 1 → (p < length (order ++ m ∷ [])) × (slice_index (order ++ m ∷ []) p ≡ k)
placed_step s order places nexts m place k p h inside is (inl same) e =
    let here : slice_index (set places m place) m ≡ place = get_or-set_same places m place 0 inside in
    let at : slice_index (set places m place) m ≡ p + 1 = subst (λ (x : ℕ). slice_index (set places m place) x ≡ p + 1) same e in
    let last : length order ≡ p = omega arith in
    let long = length_push order m in
    (omega arith, get_or_push order m 0 p last ∙ sym same)
placed_step s order places nexts m place k p h inside is (inr other) e =
    let found = h.placed k p (sym (get_or-set_other places m k place 0 other) ∙ e) in
    let within = found.0 in
    let long = length_push order m in
    (omega arith, get_or_append_left order (m ∷ []) 0 p within ∙ found.1)

behind_step : (s : Source) (order places nexts : List ℕ) (m i : ℕ) → IsOrdering s order places nexts → AllByRecursion (IsPlaced places) (bindings_in s (module_at s m)) →
    (i < length order) ⊎ (i ≡ length order) → AllByRecursion (Stands (order ++ m ∷ []) i) (bindings_in s (module_at s (slice_index (order ++ m ∷ []) i)))
behind_step s order places nexts m i h passed (inl before) =
    subst (λ (k : ℕ). AllByRecursion (Stands (order ++ m ∷ []) i) (bindings_in s (module_at s k))) (sym (get_or_append_left order (m ∷ []) 0 i before))
    (each (stands_more order m i before) (bindings_in s (module_at s (slice_index order i))) (h.behind i before))
behind_step s order places nexts m i h passed (inr last) =
    subst (λ (n : ℕ). AllByRecursion (Stands (order ++ m ∷ []) n) (bindings_in s (module_at s (slice_index (order ++ m ∷ []) n)))) (sym last)
    (subst (λ (k : ℕ). AllByRecursion (Stands (order ++ m ∷ []) (length order)) (bindings_in s (module_at s k))) (sym (get_or_push order m 0 (length order) refl))
    (each (stands s order places nexts h m) (bindings_in s (module_at s m)) passed))

number_step : (s : Source) (order places nexts : List ℕ) (m i : ℕ) → IsOrdering s order places nexts → m < length s.modules → (i < length order) ⊎ (i ≡ length order) → slice_index (order ++ m ∷ []) i < length s.modules
number_step s order places nexts m i h inside (inl before) = subst (λ (k : ℕ). k < length s.modules) (sym (get_or_append_left order (m ∷ []) 0 i before)) (h.number i before)
number_step s order places nexts m i h inside (inr last) = subst (λ (k : ℕ). k < length s.modules) (sym (get_or_push order m 0 i (sym last))) inside

pub given_out : (s : Source) (order places nexts : List ℕ) (m place : ℕ) → IsOrdering s order places nexts → m < length s.modules → slice_index places m ≡ 0 →
    AllByRecursion (IsPlaced places) (bindings_in s (module_at s m)) → place ≡ length order + 1 → IsOrdering s (order ++ m ∷ []) (set places m place) nexts
given_out s order places nexts m place h inside fresh passed is =
    let size = h.each_place in
    let within : m < length places = omega arith in
    let more : 0 < place = omega arith in
    let long = length_push order m in
    record {
      each_place = length-set places m place ∙ size;
      each_next = h.each_next;
      placed = λ k p e. placed_step s order places nexts m place k p h within is (cases_eq k m) e;
      passed = λ j below. each (placed_more places m place within more) (take (slice_index nexts j) (bindings_in s (module_at s j))) (h.passed j below);
      behind = λ i below. let low : i < length order + 1 = omega arith in behind_step s order places nexts m i h passed (last_or_before i (length order) low);
      number = λ i below. let low : i < length order + 1 = omega arith in number_step s order places nexts m i h inside (last_or_before i (length order) low);
      count = let sum = sum_by-set (λ (p : ℕ). min p 1) places m place 0 within in let counted = h.count in omega arith;
    }

-- One item of a module is passed.
all_push : (P : Binding → Type 0) (ts : List Binding) (t : Binding) → AllByRecursion P ts → P t → AllByRecursion P (ts ++ t ∷ [])
all_push P [] t h k = (k, tt)
all_push P (x ∷ ts) t h k = (h.0, all_push P ts t h.1 k)

passed_step : (s : Source) (order places nexts : List ℕ) (m : ℕ) (t : Binding) (j : ℕ) → IsOrdering s order places nexts → m < length nexts → slice_index nexts m < length (bindings_in s (module_at s m)) →
    get_or (bindings_in s (module_at s m)) (slice_index nexts m) t ≡ t → IsPlaced places t → j < length s.modules → (j ≡ m) ⊎ (j ≢ m) →
    AllByRecursion (IsPlaced places) (take (slice_index (set nexts m (slice_index nexts m + 1)) j) (bindings_in s (module_at s j)))
passed_step s order places nexts m t j h inside next at placed below (inl same) =
    let ts = bindings_in s (module_at s m) in
    let n = slice_index nexts m in
    let front : take (n + 1) ts ≡ take n ts ++ t ∷ [] = take_more ts n t next ∙ ap (λ (x : Binding). take n ts ++ x ∷ []) at in
    let low : m < length s.modules = subst (λ (x : ℕ). x < length s.modules) same below in
    let all : AllByRecursion (IsPlaced places) (take (n + 1) ts) = subst (AllByRecursion (IsPlaced places)) (sym front) (all_push (IsPlaced places) (take n ts) t (h.passed m low) placed) in
    subst (λ (x : ℕ). AllByRecursion (IsPlaced places) (take (slice_index (set nexts m (n + 1)) x) (bindings_in s (module_at s x)))) (sym same)
    (subst (λ (k : ℕ). AllByRecursion (IsPlaced places) (take k ts)) (sym (get_or-set_same nexts m (n + 1) 0 inside)) all)
passed_step s order places nexts m t j h inside next at placed below (inr other) =
    subst (λ (k : ℕ). AllByRecursion (IsPlaced places) (take k (bindings_in s (module_at s j)))) (sym (get_or-set_other nexts m j (slice_index nexts m + 1) 0 other)) (h.passed j below)

pub passed_one : (s : Source) (order places nexts : List ℕ) (m : ℕ) (t : Binding) → IsOrdering s order places nexts → m < length s.modules → slice_index nexts m < length (bindings_in s (module_at s m)) →
    get_or (bindings_in s (module_at s m)) (slice_index nexts m) t ≡ t → IsPlaced places t → IsOrdering s order places (set nexts m (slice_index nexts m + 1))
passed_one s order places nexts m t h low next at placed =
    let size = h.each_next in
    let inside : m < length nexts = omega arith in
    record {
      each_place = h.each_place;
      each_next = length-set nexts m (slice_index nexts m + 1) ∙ size;
      placed = h.placed;
      passed = λ j below. passed_step s order places nexts m t j h inside next at placed below (cases_eq j m);
      behind = h.behind;
      number = h.number;
      count = h.count;
    }

-- What is given out is an order, and holds all modules where all are placed.
pub ordered : (s : Source) (order places nexts : List ℕ) → IsOrdering s order places nexts → IsOrder s order
ordered s order places nexts h =
    let size = h.each_place in
    let count = h.count in
    let most = sum_by-le (λ (p : ℕ). min p 1) 1 places (λ k d inside. omega arith) in
    record { behind = h.behind; number = h.number; few = omega arith }

pub held : (s : Source) (order places nexts items : List ℕ) → IsOrdering s order places nexts → items ≡ places → All (λ p. 0 < p) items → HoldsAll s order
held s order places nexts items h same all k inside live = at_place (slice_index places k) refl (subst (λ (ps : List ℕ). 0 < slice_index ps k) same (all k 0 within))
  where
    within : k < length items
    within = let size = h.each_place in let e = ap (λ (ps : List ℕ). length ps) same in omega arith

    at_place : (x : ℕ) → slice_index places k ≡ x → 0 < slice_index places k → (i : ℕ) × (i < length order) × (slice_index order i ≡ k)
    at_place zero e more = absurd (omega arith)
    at_place (suc p) e more = let next : slice_index places k ≡ p + 1 = omega arith in let found = h.placed k p next in (p, found.0, found.1)
