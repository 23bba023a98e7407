-- Marks, one module at a time.
use Rattle.std.proofs.Common.{◌≡◌, ℕ, ◌+◌, ◌<◌, List, [], ◌∷◌, ◌++◌, length, take, map, filter, get_or, Bool, true, false, not, ◌||◌, ◌&&◌, cond, nat_eq, refl, sym, ap, ◌∙◌, arith, zero, suc, add-zero, zero-add}
use Rattle.std.specs.List.{list_any, filter_map, cons_option, range_with_len}
use Rattle.std.proofs.lemmas.List.{take_more}
use Rattle.std.proofs.lemmas.List.Elements.{filter-append}
use Rattle.mintc_netlist.specs.declared.module.Item.{Item}
use Rattle.mintc_netlist.specs.declared.module.Module.{Module}
use Rattle.mintc_flatten_hierarchy.specs.declared.bindings.Binding.{Binding}
use Rattle.mintc_flatten_hierarchy.specs.declared.bindings.Binding.TheVariants.{OfCell, OfModule, OfNothing}
use Rattle.mintc_flatten_hierarchy.specs.Sources.{Source, module_at, is_stub, scope_number, binding_in, bindings_in}
use Rattle.mintc_flatten_hierarchy.specs.Refusals.{instantiates}
use Rattle.mintc_flatten_binding.proofs.SharedBoolLaws.{or_assoc, or_false}
use Rattle.mintc_flatten.specs.Tops.{is_module, is_any_module, Marks, AreMarks}

any_one : (k : ℕ) (t : Binding) (xs : List ℕ) (b : Bool) → list_any (nat_eq k) xs ≡ b → list_any (nat_eq k) (cons_option (scope_number t) xs) ≡ (is_module k t || b)
any_one k (OfCell n) xs b h = h
any_one k (OfModule j) xs b h = ap (λ c. nat_eq k j || c) h
any_one k OfNothing xs b h = h

any_children : (s : Source) (k : ℕ) (is : List Item) → list_any (nat_eq k) (filter_map (λ i. scope_number (binding_in s i)) is) ≡ is_any_module (map (binding_in s) is) k
any_children s k [] = refl
any_children s k (i ∷ is) = any_one k (binding_in s i) (filter_map (λ i. scope_number (binding_in s i)) is) (is_any_module (map (binding_in s) is) k) (any_children s k is)

-- what some of a list and one more instantiate
any_by : (p : Module → Bool) (x m : Module) (ms : List Module) (live : Module → Bool) (b : Bool) →
    list_any p (filter live (ms ++ m ∷ [])) ≡ (list_any p (filter live ms) || list_any p (filter live (m ∷ []))) →
    list_any p (cond b (x ∷ filter live (ms ++ m ∷ [])) (filter live (ms ++ m ∷ []))) ≡ (list_any p (cond b (x ∷ filter live ms) (filter live ms)) || list_any p (filter live (m ∷ [])))
any_by p x m ms live true h = ap (λ c. p x || c) h ∙ sym (or_assoc (p x) (list_any p (filter live ms)) (list_any p (filter live (m ∷ []))))
any_by p x m ms live false h = h

any_push : (p live : Module → Bool) (ms : List Module) (m : Module) → list_any p (filter live (ms ++ m ∷ [])) ≡ (list_any p (filter live ms) || list_any p (filter live (m ∷ [])))
any_push p live [] m = refl
any_push p live (x ∷ ms) m = any_by p x m ms live (live x) (any_push p live ms m)

any_next : (s : Source) (n : ℕ) (m : Module) (k : ℕ) (b : Bool) → n < length s.modules → m ≡ get_or s.modules n m → is_stub s m ≡ b →
    list_any (instantiates s k) (filter (λ m. not (is_stub s m)) (take (n + 1) s.modules))
    ≡ (list_any (instantiates s k) (filter (λ m. not (is_stub s m)) (take n s.modules)) || list_any (instantiates s k) (cond (not b) (m ∷ []) []))
any_next s n m k b inside is stub =
    let front : take (n + 1) s.modules ≡ take n s.modules ++ m ∷ [] = take_more s.modules n m inside ∙ ap (λ (x : Module). take n s.modules ++ x ∷ []) (sym is) in
    ap (λ (ms : List Module). list_any (instantiates s k) (filter (λ m. not (is_stub s m)) ms)) front
    ∙ any_push (instantiates s k) (λ m. not (is_stub s m)) (take n s.modules) m
    ∙ ap (λ (c : Bool). list_any (instantiates s k) (filter (λ m. not (is_stub s m)) (take n s.modules)) || list_any (instantiates s k) (cond (not c) (m ∷ []) [])) stub

pub marks_step : (s : Source) (n : ℕ) (marks more : List Bool) (m : Module) (ts : List Binding) → AreMarks s n marks → n < length s.modules → m ≡ get_or s.modules n m → is_stub s m ≡ false →
    ts ≡ bindings_in s m → Marks marks more (is_any_module ts) → AreMarks s (n + 1) more
marks_step s n marks more m ts h inside is live same added = record {
  same_length = added.same_length ∙ h.same_length;
  each = λ k below.
      let size = h.same_length in
      let within : k < length marks = omega arith in
      added.each k within
      ∙ ap (λ (b : Bool). b || is_any_module ts k) (h.each k below)
      ∙ ap (λ (b : Bool). list_any (instantiates s k) (filter (λ m. not (is_stub s m)) (take n s.modules)) || b)
      (ap (λ (xs : List Binding). is_any_module xs k) same ∙ sym (any_children s k m.items) ∙ sym (or_false (instantiates s k m)))
      ∙ sym (any_next s n m k false inside is live);
}

pub marks_skip : (s : Source) (n : ℕ) (marks : List Bool) (m : Module) → AreMarks s n marks → n < length s.modules → m ≡ get_or s.modules n m → is_stub s m ≡ true → AreMarks s (n + 1) marks
marks_skip s n marks m h inside is stub = record {
  same_length = h.same_length;
  each = λ k below. h.each k below ∙ sym (or_false (list_any (instantiates s k) (filter (λ m. not (is_stub s m)) (take n s.modules)))) ∙ sym (any_next s n m k true inside is stub);
}

-- the numbers below one more
range-next : (a n : ℕ) → range_with_len a (suc n) ≡ range_with_len a n ++ (a + n) ∷ []
range-next a zero = ap (λ (x : ℕ). x ∷ []) (sym (add-zero a))
range-next a (suc n) =
    let e : a + 1 + n ≡ a + suc n = omega arith in
    ap (λ (xs : List ℕ). a ∷ xs) (range-next (a + 1) n ∙ ap (λ (x : ℕ). range_with_len (a + 1) n ++ x ∷ []) e)

pub tops_step : (p : ℕ → Bool) (n : ℕ) (tops more : List ℕ) (b : Bool) → tops ≡ filter p (range_with_len 0 n) → b ≡ p n → more ≡ tops ++ cond b (n ∷ []) [] → more ≡ filter p (range_with_len 0 (n + 1))
tops_step p n tops more b h e f =
    let next : suc n ≡ n + 1 = omega arith in
    f ∙ ap (λ (xs : List ℕ). xs ++ cond b (n ∷ []) []) h ∙ ap (λ (c : Bool). filter p (range_with_len 0 n) ++ cond c (n ∷ []) []) e
    ∙ sym (filter-append p (range_with_len 0 n) (n ∷ []))
    ∙ ap (filter p) (ap (λ (x : ℕ). range_with_len 0 n ++ x ∷ []) (sym (zero-add n)) ∙ sym (range-next 0 n) ∙ ap (range_with_len 0) next)

-- whether a module may be the top
pub no_top : (s : Source) (k : ℕ) (m : Module) (x : Bool) → m ≡ module_at s k → is_stub s m ≡ true → false ≡ (not (is_stub s (module_at s k)) && x)
no_top s k m x same h = ap (λ (b : Bool). not b && x) (sym (ap (is_stub s) (sym same) ∙ h))

pub top_as : (s : Source) (k : ℕ) (m : Module) (x r : Bool) → m ≡ module_at s k → is_stub s m ≡ false → r ≡ x → r ≡ (not (is_stub s (module_at s k)) && x)
top_as s k m x r same h e = e ∙ ap (λ (b : Bool). not b && x) (sym (ap (is_stub s) (sym same) ∙ h))
