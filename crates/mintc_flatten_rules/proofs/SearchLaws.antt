-- A search from a module along instantiations.
use Rattle.std.proofs.Common.{◌≡◌, ◌≢◌, ◌⊎◌, inl, inr, ℕ, zero, suc, ◌+◌, ◌<◌, ◌≤◌, List, [], ◌∷◌, ◌++◌, length, map, slice_index, set, replicate, Bool, true, false, ◌||◌, cond, IfSome, get_or-set_same, get_or-set_other, refl, sym, ap, ◌∙◌, subst, arith}
use Rattle.std.specs.List.{AllByRecursion, list_any, filter_map, cons_option}
use Rattle.std.proofs.lemmas.Bool.{cases_eq}
use Rattle.std.proofs.lemmas.List.{length-set, length_push, length-replicate, get_or_append_left, get_or_push}
use Rattle.mintc_netlist.specs.declared.module.Item.{Item}
use Rattle.mintc_flatten_hierarchy.specs.declared.bindings.Binding.{Binding}
use Rattle.mintc_flatten_hierarchy.specs.declared.bindings.Binding.TheVariants.{OfCell, OfModule, OfNothing}
use Rattle.mintc_flatten_hierarchy.specs.Sources.{Source, module_at, is_called, scope_number, binding_in, bindings_in, children_of}
use Rattle.mintc_flatten_hierarchy.specs.Faults.{leads}
use Rattle.mintc_flatten_binding.specs.Orders.{mark_at, IsThere}
use Rattle.mintc_flatten_rules.specs.Searching.{Found, with_module, with_binding, with_bindings, IsMarked, IsBehind, IsFound, ArePassed}
use Rattle.mintc_flatten_binding.proofs.SharedThereLaws.{there}
use Rattle.mintc_flatten_binding.proofs.SharedOrderingLaws.{each, last_or_before}

-- Within more instantiations a module leads to what it leads to.
or_left : (a b : Bool) → a ≡ true → (a || b) ≡ true
or_left true b h = refl
or_left false b h = cc

or_right : (a b : Bool) → b ≡ true → (a || b) ≡ true
or_right true b h = refl
or_right false b h = h

or_more : (a c b d : Bool) → (a ≡ true → c ≡ true) → (b ≡ true → d ≡ true) → (a || b) ≡ true → (c || d) ≡ true
or_more true c b d f g h = or_left c d (f refl)
or_more false c b d f g h = or_right c d (g h)

pub or_none : (a b : Bool) → a ≡ false → b ≡ false → (a || b) ≡ false
or_none false b h k = k
or_none true b h k = cc

any_more : (p q : ℕ → Bool) → ((k : ℕ) → p k ≡ true → q k ≡ true) → (ks : List ℕ) → list_any p ks ≡ true → list_any q ks ≡ true
any_more p q f [] h = h
any_more p q f (k ∷ ks) h = or_more (p k) (q k) (list_any p ks) (list_any q ks) (f k) (any_more p q f ks) h

pub leads_more : (s : Source) (name : List ℕ) (a b k : ℕ) → a ≤ b → leads s a name k ≡ true → leads s b name k ≡ true
leads_more s name zero zero k le h = h
leads_more s name zero (suc b) k le h = or_left (is_called name (module_at s k)) (list_any (leads s b name) (children_of s (module_at s k))) h
leads_more s name (suc a) zero k le h = absurd (omega arith)
leads_more s name (suc a) (suc b) k le h =
    let below : a ≤ b = omega arith in
    or_more (is_called name (module_at s k)) (is_called name (module_at s k)) (list_any (leads s a name) (children_of s (module_at s k))) (list_any (leads s b name) (children_of s (module_at s k)))
    (λ e. e) (any_more (leads s a name) (leads s b name) (λ j. leads_more s name a b j below) (children_of s (module_at s k))) h

behind_more : (s : Source) (name : List ℕ) (start n m k : ℕ) → n ≤ m → IsBehind s name start n k → IsBehind s name start m k
behind_more s name start n m k le h most e = let sums : most + n ≤ most + m = omega arith in leads_more s name (most + n) (most + m) start sums (h most e)

-- What is found after more.
record Grows (f g : Found) : Type 0 where
  pub longer : length f.visited ≤ length g.visited
  pub same : (i : ℕ) → i < length f.visited → slice_index g.visited i ≡ slice_index f.visited i
  pub kept : (k : ℕ) → mark_at f.seen k ≡ true → mark_at g.seen k ≡ true

grows_not : (f : Found) → Grows f f
grows_not f = record { longer = omega arith; same = λ i below. refl; kept = λ k h. h }

grows_on : (f g h : Found) → Grows f g → Grows g h → Grows f h
grows_on f g h a b =
    let x = a.longer in
    let y = b.longer in
    record {
      longer = omega arith;
      same = λ i below. let within : i < length g.visited = omega arith in b.same i within ∙ a.same i below;
      kept = λ k e. b.kept k (a.kept k e);
    }

-- One module more.
abbrev more_found : Found → ℕ → Found
more_found f k = record { visited = f.visited ++ k ∷ []; seen = set f.seen k true }

marked_one : (f : Found) (k j : ℕ) → k < length f.seen → mark_at f.seen j ≡ true → (j ≡ k) ⊎ (j ≢ k) → mark_at (set f.seen k true) j ≡ true
marked_one f k j inside h (inl same) = subst (λ (n : ℕ). mark_at (set f.seen k true) n ≡ true) (sym same) (get_or-set_same f.seen k true false inside)
marked_one f k j inside h (inr other) = get_or-set_other f.seen k j true false other ∙ h

within_one : (s : Source) (name : List ℕ) (start : ℕ) (f : Found) (k i : ℕ) → IsFound s name start f → k < length s.modules → (i < length f.visited) ⊎ (i ≡ length f.visited) →
    slice_index (f.visited ++ k ∷ []) i < length s.modules
within_one s name start f k i h inside (inl before) = subst (λ (n : ℕ). n < length s.modules) (sym (get_or_append_left f.visited (k ∷ []) 0 i before)) (h.within i before)
within_one s name start f k i h inside (inr last) = subst (λ (n : ℕ). n < length s.modules) (sym (get_or_push f.visited k 0 i (sym last))) inside

behind_one : (s : Source) (name : List ℕ) (start : ℕ) (f : Found) (k i : ℕ) → IsFound s name start f → IsBehind s name start (length f.visited) k → (i < length f.visited) ⊎ (i ≡ length f.visited) →
    IsBehind s name start i (slice_index (f.visited ++ k ∷ []) i)
behind_one s name start f k i h behind (inl before) = subst (IsBehind s name start i) (sym (get_or_append_left f.visited (k ∷ []) 0 i before)) (h.behind i before)
behind_one s name start f k i h behind (inr last) =
    subst (IsBehind s name start i) (sym (get_or_push f.visited k 0 i (sym last))) (subst (λ (n : ℕ). IsBehind s name start n k) (sym last) behind)

found_one : (s : Source) (name : List ℕ) (start : ℕ) (f : Found) (k j : ℕ) → IsFound s name start f → k < length f.seen → mark_at (set f.seen k true) j ≡ true → (j ≡ k) ⊎ (j ≢ k) →
    (i : ℕ) × (i < length (f.visited ++ k ∷ [])) × (slice_index (f.visited ++ k ∷ []) i ≡ j)
found_one s name start f k j h inside e (inl same) = let long = length_push f.visited k in (length f.visited, omega arith, get_or_push f.visited k 0 (length f.visited) refl ∙ sym same)
found_one s name start f k j h inside e (inr other) =
    let old = h.marked j (sym (get_or-set_other f.seen k j true false other) ∙ e) in
    let place = old.0 in
    let below : place < length f.visited = old.1 in
    let long = length_push f.visited k in
    (place, omega arith, get_or_append_left f.visited (k ∷ []) 0 place below ∙ old.2)

one_more : (s : Source) (name : List ℕ) (start : ℕ) (f : Found) (k n : ℕ) (b : Bool) → mark_at f.seen k ≡ b → IsFound s name start f → k < length s.modules → n ≤ length f.visited → IsBehind s name start n k →
    IsFound s name start (cond b f (more_found f k)) × Grows f (cond b f (more_found f k)) × (mark_at (cond b f (more_found f k)).seen k ≡ true)
one_more s name start f k n true e h inside le behind = (h, grows_not f, e)
one_more s name start f k n false e h inside le behind =
    let size = h.each in
    let within : k < length f.seen = omega arith in
    let long = length_push f.visited k in
    let some = h.some in (
      record {
        each = length-set f.seen k true ∙ h.each;
        within = λ i below. let low : i < length f.visited + 1 = omega arith in within_one s name start f k i h inside (last_or_before i (length f.visited) low);
        some = omega arith;
        first = get_or_append_left f.visited (k ∷ []) 0 0 some ∙ h.first;
        behind = λ i below. let low : i < length f.visited + 1 = omega arith in behind_one s name start f k i h (behind_more s name start n (length f.visited) k le behind) (last_or_before i (length f.visited) low);
        marked = λ j marked. found_one s name start f k j h within marked (cases_eq j k);
      },
      record {
        longer = omega arith;
        same = λ i below. get_or_append_left f.visited (k ∷ []) 0 i below;
        kept = λ j marked. marked_one f k j within marked (cases_eq j k);
      },
      get_or-set_same f.seen k true false within,
    )

abbrev Leads : Source → List ℕ → ℕ → ℕ → Binding → Type 0
Leads s name start n t = IfSome (scope_number t) (λ k. IsBehind s name start n k)

binding_more : (s : Source) (name : List ℕ) (start : ℕ) (f : Found) (t : Binding) (n : ℕ) → IsFound s name start f → IsThere s t → n ≤ length f.visited → Leads s name start n t →
    IsFound s name start (with_binding f t) × Grows f (with_binding f t) × IsMarked (with_binding f t).seen t
binding_more s name start f (OfCell c) n h is_there le behind = (h, grows_not f, tt)
binding_more s name start f OfNothing n h is_there le behind = (h, grows_not f, tt)
binding_more s name start f (OfModule k) n h is_there le behind = one_more s name start f k n (mark_at f.seen k) refl h is_there le behind

mark_kept : (f g : Found) (t : Binding) → Grows f g → IsMarked f.seen t → IsMarked g.seen t
mark_kept f g (OfCell c) grows h = tt
mark_kept f g OfNothing grows h = tt
mark_kept f g (OfModule k) grows h = grows.kept k h

bindings_more : (s : Source) (name : List ℕ) (start : ℕ) (f : Found) (ts : List Binding) (n : ℕ) → IsFound s name start f → AllByRecursion (IsThere s) ts → n ≤ length f.visited → AllByRecursion (Leads s name start n) ts →
    IsFound s name start (with_bindings f ts) × Grows f (with_bindings f ts) × AllByRecursion (IsMarked (with_bindings f ts).seen) ts
bindings_more s name start f [] n h are_there le behind = (h, grows_not f, tt)
bindings_more s name start f (t ∷ ts) n h are_there le behind =
    let one = binding_more s name start f t n h are_there.0 le behind.0 in
    let longer = one.1.longer in
    let more : n ≤ length (with_binding f t).visited = omega arith in
    let rest = bindings_more s name start (with_binding f t) ts n one.0 are_there.1 more behind.1 in
    (rest.0, grows_on f (with_binding f t) (with_bindings f (t ∷ ts)) one.1 rest.1, (mark_kept (with_binding f t) (with_bindings f (t ∷ ts)) t rest.1 one.2, rest.2))

-- What a module instantiates is one instantiation further behind.
abbrev pub kids : Source → List Item → List ℕ
kids s is = filter_map (λ i. scope_number (binding_in s i)) is

abbrev IsKid : List ℕ → Binding → Type 0
IsKid whole t = IfSome (scope_number t) (λ k. (q : ℕ → Bool) → q k ≡ true → list_any q whole ≡ true)

are_there : (s : Source) (is : List Item) → AllByRecursion (IsThere s) (map (binding_in s) is)
are_there s [] = tt
are_there s (i ∷ is) = (there s i, are_there s is)

kid_here : (whole rest : List ℕ) (t : Binding) → ((q : ℕ → Bool) → list_any q (cons_option (scope_number t) rest) ≡ true → list_any q whole ≡ true) → IsKid whole t
kid_here whole rest (OfCell c) sub = tt
kid_here whole rest OfNothing sub = tt
kid_here whole rest (OfModule k) sub = λ q e. sub q (or_left (q k) (list_any q rest) e)

kid_later : (rest : List ℕ) (t : Binding) (q : ℕ → Bool) → list_any q rest ≡ true → list_any q (cons_option (scope_number t) rest) ≡ true
kid_later rest (OfCell c) q h = h
kid_later rest OfNothing q h = h
kid_later rest (OfModule k) q h = or_right (q k) (list_any q rest) h

are_kids : (s : Source) (whole : List ℕ) (is : List Item) → ((q : ℕ → Bool) → list_any q (kids s is) ≡ true → list_any q whole ≡ true) → AllByRecursion (IsKid whole) (map (binding_in s) is)
are_kids s whole [] sub = tt
are_kids s whole (i ∷ is) sub = (kid_here whole (kids s is) (binding_in s i) sub, are_kids s whole is (λ q h. sub q (kid_later (kids s is) (binding_in s i) q h)))

kid_behind : (s : Source) (name : List ℕ) (start n k : ℕ) → IsBehind s name start n k → (t : Binding) → IsKid (children_of s (module_at s k)) t → Leads s name start (n + 1) t
kid_behind s name start n k behind (OfCell c) kid = tt
kid_behind s name start n k behind OfNothing kid = tt
kid_behind s name start n k behind (OfModule c) kid = λ most e.
    let sum : suc most + n ≡ most + (n + 1) = omega arith in
    subst (λ (m : ℕ). leads s m name start ≡ true) sum (behind (suc most) (or_right (is_called name (module_at s k)) (list_any (leads s most name) (children_of s (module_at s k))) (kid (leads s most name) e)))

-- one module of those that are found is passed
other_one : (s : Source) (name : List ℕ) (f g : Found) (n i : ℕ) → ArePassed s name f n → Grows f g → n < length f.visited → is_called name (module_at s (slice_index f.visited n)) ≡ false → (i < n) ⊎ (i ≡ n) →
    is_called name (module_at s (slice_index g.visited i)) ≡ false
other_one s name f g n i h grows inside other (inl before) =
    let within : i < length f.visited = omega arith in
    ap (λ (k : ℕ). is_called name (module_at s k)) (grows.same i within) ∙ h.other i before
other_one s name f g n i h grows inside other (inr last) =
    ap (λ (j : ℕ). is_called name (module_at s (slice_index g.visited j))) last ∙ ap (λ (k : ℕ). is_called name (module_at s k)) (grows.same n inside) ∙ other

bindings_one : (s : Source) (name : List ℕ) (f g : Found) (n i : ℕ) → ArePassed s name f n → Grows f g → n < length f.visited → AllByRecursion (IsMarked g.seen) (bindings_in s (module_at s (slice_index f.visited n))) → (i < n) ⊎ (i ≡ n) →
    AllByRecursion (IsMarked g.seen) (bindings_in s (module_at s (slice_index g.visited i)))
bindings_one s name f g n i h grows inside marked (inl before) =
    let within : i < length f.visited = omega arith in
    subst (λ (k : ℕ). AllByRecursion (IsMarked g.seen) (bindings_in s (module_at s k))) (sym (grows.same i within))
    (each (λ t. mark_kept f g t grows) (bindings_in s (module_at s (slice_index f.visited i))) (h.bindings i before))
bindings_one s name f g n i h grows inside marked (inr last) =
    subst (λ (k : ℕ). AllByRecursion (IsMarked g.seen) (bindings_in s (module_at s k))) (sym (ap (λ (j : ℕ). slice_index g.visited j) last ∙ grows.same n inside)) marked

pub passed_one : (s : Source) (name : List ℕ) (start : ℕ) (f g : Found) (n : ℕ) → IsFound s name start f → ArePassed s name f n → n < length f.visited →
    is_called name (module_at s (slice_index f.visited n)) ≡ false → g ≡ with_bindings f (bindings_in s (module_at s (slice_index f.visited n))) → IsFound s name start g × ArePassed s name g (n + 1)
passed_one s name start f g n h passed inside other is =
    let k = slice_index f.visited n in
    let m = module_at s k in
    let le : n + 1 ≤ length f.visited = omega arith in
    let all = bindings_more s name start f (bindings_in s m) (n + 1) h (are_there s m.items) le
    (each (kid_behind s name start n k (h.behind n inside)) (bindings_in s m) (are_kids s (children_of s m) m.items (λ q e. e))) in
    let longer = all.1.longer in
    let done : ArePassed s name (with_bindings f (bindings_in s m)) (n + 1) =
    record {
      most = omega arith;
      other = λ i below. other_one s name f (with_bindings f (bindings_in s m)) n i passed all.1 inside other (last_or_before i n below);
      bindings = λ i below. bindings_one s name f (with_bindings f (bindings_in s m)) n i passed all.1 inside all.2 (last_or_before i n below);
    } in
    (subst (IsFound s name start) (sym is) all.0, subst (λ (x : Found). ArePassed s name x (n + 1)) (sym is) done)

-- A module of the name is found.
pub leads_to : (s : Source) (name : List ℕ) (start : ℕ) (f : Found) (n : ℕ) → IsFound s name start f → n < length f.visited → n < length s.modules → is_called name (module_at s (slice_index f.visited n)) ≡ true →
    true ≡ leads s (length s.modules) name start
leads_to s name start f n h inside low called =
    let le : 0 + n ≤ length s.modules = omega arith in
    sym (leads_more s name (0 + n) (length s.modules) start le (h.behind n inside 0 called))

-- Where all are passed, none leads to the name.
none_one : (q : ℕ → Bool) (rest : List ℕ) (t : Binding) → IfSome (scope_number t) (λ k. q k ≡ false) → list_any q rest ≡ false → list_any q (cons_option (scope_number t) rest) ≡ false
none_one q rest (OfCell c) e h = h
none_one q rest OfNothing e h = h
none_one q rest (OfModule k) e h = or_none (q k) (list_any q rest) e h

pub none_of : (s : Source) (q : ℕ → Bool) (is : List Item) → AllByRecursion (λ t. IfSome (scope_number t) (λ k. q k ≡ false)) (map (binding_in s) is) → list_any q (kids s is) ≡ false
none_of s q [] h = refl
none_of s q (i ∷ is) h = none_one q (kids s is) (binding_in s i) h.0 (none_of s q is h.1)

none_by : (seen : List Bool) (q : ℕ → Bool) → ((k : ℕ) → mark_at seen k ≡ true → q k ≡ false) → (t : Binding) → IsMarked seen t → IfSome (scope_number t) (λ k. q k ≡ false)
none_by seen q f (OfCell c) h = tt
none_by seen q f OfNothing h = tt
none_by seen q f (OfModule k) h = f k h

none_leads : (s : Source) (name : List ℕ) (start : ℕ) (f : Found) (n : ℕ) → IsFound s name start f → ArePassed s name f n → length f.visited ≤ n → (most i : ℕ) → i < length f.visited → leads s most name (slice_index f.visited i) ≡ false
none_leads s name start f n h passed past zero i inside = let below : i < n = omega arith in passed.other i below
none_leads s name start f n h passed past (suc most) i inside =
    let below : i < n = omega arith in
    let m = module_at s (slice_index f.visited i) in
    or_none (is_called name m) (list_any (leads s most name) (children_of s m)) (passed.other i below)
    (none_of s (leads s most name) m.items
    (each (none_by f.seen (leads s most name) (λ k marked.
    let at = h.marked k marked in
    subst (λ (j : ℕ). leads s most name j ≡ false) at.2 (none_leads s name start f n h passed past most at.0 at.1)))
    (bindings_in s m) (passed.bindings i below)))

pub leads_not : (s : Source) (name : List ℕ) (start : ℕ) (f : Found) (n : ℕ) → IsFound s name start f → ArePassed s name f n → length f.visited ≤ n → false ≡ leads s (length s.modules) name start
leads_not s name start f n h passed past =
    sym (subst (λ (k : ℕ). leads s (length s.modules) name k ≡ false) h.first (none_leads s name start f n h passed past (length s.modules) 0 h.some))

-- The search begins.
start_by : (s : Source) (name : List ℕ) (start : ℕ) (f : Found) (b : Bool) → f.visited ≡ [] → length f.seen ≡ length s.modules → ((k : ℕ) → mark_at f.seen k ≡ false) → start < length f.seen → mark_at f.seen start ≡ b →
    IsFound s name start (cond b f (more_found f start))
start_by s name start f true empty size none inside e = let bad : false ≡ true = sym (none start) ∙ e in cc
start_by s name start f false empty size none inside e =
    let one : f.visited ++ start ∷ [] ≡ start ∷ [] = ap (λ (l : List ℕ). l ++ start ∷ []) empty in
    let long : length (f.visited ++ start ∷ []) ≡ 1 = ap (λ (l : List ℕ). length l) one in
    let first : slice_index (f.visited ++ start ∷ []) 0 ≡ start = ap (λ (l : List ℕ). slice_index l 0) one in
    record {
      each = length-set f.seen start true ∙ size;
      within = λ i below. let low : i ≡ 0 = omega arith in subst (λ (j : ℕ). slice_index (f.visited ++ start ∷ []) j < length s.modules) (sym low) (subst (λ (j : ℕ). j < length s.modules) (sym first) (omega arith));
      some = omega arith;
      first = first;
      behind = λ i below most h.
          let low : i ≡ 0 = omega arith in
          let sum : most ≤ most + i = omega arith in
          leads_more s name most (most + i) start sum (subst (λ (j : ℕ). leads s most name j ≡ true) (ap (λ (j : ℕ). slice_index (f.visited ++ start ∷ []) j) low ∙ first) h);
      marked = λ k marked. found_first k marked (cases_eq k start);
    }
  where
    found_first : (k : ℕ) → mark_at (set f.seen start true) k ≡ true → (k ≡ start) ⊎ (k ≢ start) → (i : ℕ) × (i < length (f.visited ++ start ∷ [])) × (slice_index (f.visited ++ start ∷ []) i ≡ k)
    found_first k marked (inl same) =
        let one : f.visited ++ start ∷ [] ≡ start ∷ [] = ap (λ (l : List ℕ). l ++ start ∷ []) empty in
        let long : length (f.visited ++ start ∷ []) ≡ 1 = ap (λ (l : List ℕ). length l) one in
        (0, omega arith, ap (λ (l : List ℕ). slice_index l 0) one ∙ sym same)
    found_first k marked (inr other) = let bad : false ≡ true = sym (none k) ∙ sym (get_or-set_other f.seen start k true false other) ∙ marked in cc

fresh_mark : (n k : ℕ) → mark_at (replicate n false) k ≡ false
fresh_mark zero k = refl
fresh_mark (suc n) zero = refl
fresh_mark (suc n) (suc k) = fresh_mark n k

pub begun : (s : Source) (name : List ℕ) (start : ℕ) (f g : Found) → f.visited ≡ [] → f.seen ≡ replicate (length s.modules) false → start < length f.seen → g ≡ with_module f start → IsFound s name start g × ArePassed s name g 0
begun s name start f g empty fresh inside is =
    let none : (k : ℕ) → mark_at f.seen k ≡ false = λ k. ap (λ (l : List Bool). mark_at l k) fresh ∙ fresh_mark (length s.modules) k in
    let found = start_by s name start f (mark_at f.seen start) empty (ap (λ (l : List Bool). length l) fresh ∙ length-replicate (length s.modules) false) none inside refl in
    (subst (IsFound s name start) (sym is) found, record { most = omega arith; other = λ i below. absurd (omega arith); bindings = λ i below. absurd (omega arith) })
