-- The first group of each cell's name.
use Rattle.std.proofs.Common.{◌⊎◌, inl, inr, ◌≡◌, ℕ, zero, suc, ◌+◌, ◌-◌, ◌<◌, Bool, true, false, cond, if◌then◌else◌, nat_lt, List, [], ◌∷◌, ◌++◌, length, get_or, set, Option, Some, None, is_none, bytes_eq, codes, Less, nat_cmp, position, refl, sym, ap, subst, ◌∙◌, arith}
use Rattle.std.specs.Option.{option_or}
use Rattle.std.specs.List.{AllByRecursion, position_or_len}
use Rattle.std.specs.List.Sorted.{IsStrictlySortedBy}
use Rattle.std.specs.Ordering.{is_eq}
use Rattle.std.specs.Cmp.Lexicographic.{slice_cmp}
use Rattle.std.proofs.lemmas.Bool.Decides.{nat_tests}
use Rattle.std.proofs.lemmas.Map.Text.{is_eq-slice_cmp}
use Rattle.std.proofs.lemmas.Slice.Eq.{bytes_eq-Decides}
use Rattle.std.proofs.lemmas.List.{length-map, get_or-map, get_or-set_same, get_or-set_other}
use Rattle.std.proofs.lemmas.List.Sums.{fails_before_first, passes_at_first}
use Rattle.mintc_cells.specs.declared.cell.Cell.{Cell}
use Rattle.mintc_cells.specs.Entries.{names_of, number_of, name_at, no_cell, AreAscending}
use Rattle.mintc_liberty_tokens.specs.Tokens.{Token}
use Rattle.mintc_liberty_tokens.specs.Statements.{Statements, front}
use Rattle.mintc_liberty_cell.specs.Meaning.{Group, only_name}
use Rattle.mintc_liberty.specs.Meaning.{under, cell_in, cells_in}
use Rattle.mintc_senses.specs.Senses.{cell_inside}
use Rattle.mintc_senses.specs.Seen.{inside_seen}

-- Sorted names differ

first-below : (c : List ℕ) (ks : List (List ℕ)) (j : ℕ) → AllByRecursion (λ y. slice_cmp nat_cmp c y ≡ Less) ks → j < length ks → slice_cmp nat_cmp c (get_or ks j []) ≡ Less
first-below c [] j h l = absurd (omega arith)
first-below c (k ∷ ks) zero h l = h.0
first-below c (k ∷ ks) (suc j) h l = first-below c ks j h.1 (omega arith)

below : (ks : List (List ℕ)) (i j : ℕ) → IsStrictlySortedBy (slice_cmp nat_cmp) ks → i < j → j < length ks → slice_cmp nat_cmp (get_or ks i []) (get_or ks j []) ≡ Less
unfolding IsStrictlySortedBy
below [] i j h e l = absurd (omega arith)
below (k ∷ ks) i zero h e l = absurd (omega arith)
below (k ∷ ks) zero (suc j) h e l = first-below k ks j h.0 (omega arith)
below (k ∷ ks) (suc i) (suc j) h e l = below ks i j h.1 (omega arith) (omega arith)

differ : (ks : List (List ℕ)) (i j : ℕ) → AreAscending ks → i < j → j < length ks → bytes_eq (get_or ks i []) (get_or ks j []) ≡ false
differ ks i j h e l = sym (is_eq-slice_cmp (get_or ks i []) (get_or ks j [])) ∙ ap is_eq (below ks i j h e l)

both-name : (m a b : List ℕ) → bytes_eq m a ≡ true → bytes_eq m b ≡ true → bytes_eq a b ≡ true
both-name m a b e f = (bytes_eq-Decides a b).1 (sym ((bytes_eq-Decides m a).0 e) ∙ (bytes_eq-Decides m b).0 f)

-- only one name is this
one-name : (ks : List (List ℕ)) (m : List ℕ) (i j : ℕ) → AreAscending ks → i < length ks → j < length ks → bytes_eq m (get_or ks i []) ≡ true → bytes_eq m (get_or ks j []) ≡ true → i ≡ j
one-name ks m i j h k l e f =
    let right : i < j → ⊥ = λ (w : i < j). (let a = differ ks i j h w l in let b = both-name m (get_or ks i []) (get_or ks j []) e f in cc) in
    let left : j < i → ⊥ = λ (w : j < i). (let a = differ ks j i h w k in let b = both-name m (get_or ks j []) (get_or ks i []) f e in cc) in
    omega (arith, right, left)

-- The number of a name

abbrev Cells : Type 0
Cells = List (List ℕ × Cell)

name-there : (cells : Cells) (k : ℕ) → k < length cells → get_or (names_of cells) k [] ≡ name_at cells k
name-there cells k h = get_or-map (λ (e : List ℕ × Cell). e.0) cells k no_cell [] h

length-names : (cells : Cells) → length (names_of cells) ≡ length cells
length-names cells = length-map cells (λ (e : List ℕ × Cell). e.0)

number-there : (ks : List (List ℕ)) (m : List ℕ) (j : ℕ) → position (bytes_eq m) ks ≡ Some j → (j < length ks) × (bytes_eq m (get_or ks j []) ≡ true)
number-there ks m j e = cases (nat_lt (position_or_len (bytes_eq m) ks) (length ks)) refl e
  where
    cases : (b : Bool) → nat_lt (position_or_len (bytes_eq m) ks) (length ks) ≡ b → cond b (Some (position_or_len (bytes_eq m) ks)) None ≡ Some j → (j < length ks) × (bytes_eq m (get_or ks j []) ≡ true)
    cases true h f =
        let within : position_or_len (bytes_eq m) ks < length ks = grind (arith, nat_tests) in
        let same : position_or_len (bytes_eq m) ks ≡ j = cc in
        (subst (λ i. i < length ks) same within, subst (λ i. bytes_eq m (get_or ks i []) ≡ true) same (passes_at_first (bytes_eq m) ks [] within))
    cases false h f = absurd (cc)

number-not : (ks : List (List ℕ)) (m : List ℕ) (k : ℕ) → position (bytes_eq m) ks ≡ None → k < length ks → bytes_eq m (get_or ks k []) ≡ false
number-not ks m k e l = cases (nat_lt (position_or_len (bytes_eq m) ks) (length ks)) refl e
  where
    cases : (b : Bool) → nat_lt (position_or_len (bytes_eq m) ks) (length ks) ≡ b → cond b (Some (position_or_len (bytes_eq m) ks)) None ≡ None → bytes_eq m (get_or ks k []) ≡ false
    cases true h f = absurd (cc)
    cases false h f =
        let past : k < position_or_len (bytes_eq m) ks = grind (arith, nat_tests) in
        fails_before_first (bytes_eq m) ks k [] past

pub numbered : (cells : Cells) (m : List ℕ) (j : ℕ) → number_of cells m ≡ Some j → (j < length cells) × (bytes_eq m (name_at cells j) ≡ true)
numbered cells m j e =
    let there = number-there (names_of cells) m j e in
    let within : j < length cells = omega (arith, there.0, length-names cells) in
    (within, subst (λ n. bytes_eq m n ≡ true) (name-there cells j within) there.1)

pub not-numbered : (cells : Cells) (m : List ℕ) (k : ℕ) → number_of cells m ≡ None → k < length cells → bytes_eq m (name_at cells k) ≡ false
not-numbered cells m k e l =
    let within : k < length (names_of cells) = omega (arith, length-names cells) in
    subst (λ n. bytes_eq m n ≡ false) (name-there cells k l) (number-not (names_of cells) m k e within)

not-true : (b : Bool) → (b ≡ true → ⊥) → b ≡ false
not-true true n = absurd (n refl)
not-true false n = refl

-- the cells with other numbers have other names
pub other-name : (cells : Cells) (m : List ℕ) (j k : ℕ) → AreAscending (names_of cells) → number_of cells m ≡ Some j → k < length cells → (k ≡ j → ⊥) → bytes_eq m (name_at cells k) ≡ false
other-name cells m j k sorted e l n =
    let there = number-there (names_of cells) m j e in
    let within : k < length (names_of cells) = omega (arith, length-names cells) in
    subst (λ x. bytes_eq m x ≡ false) (name-there cells k l)
    (not-true (bytes_eq m (get_or (names_of cells) k [])) (λ f. n (one-name (names_of cells) m k j sorted within there.0 f there.1)))

-- What a group adds

pub or-nothing : (x : Option Statements) → option_or x None ≡ x
or-nothing None = refl
or-nothing (Some s) = refl

cell-there : (name : List ℕ) (g : Group) (o : Option (List ℕ)) → bytes_eq g.name (codes "cell") ≡ true → only_name g.items ≡ o → cell_inside name (cell_in g) ≡ cell_inside name (under g.inner o)
cell-there name g o e f = ap (λ b. cell_inside name (if b then under g.inner (only_name g.items) else [])) e ∙ ap (λ m. cell_inside name (under g.inner m)) f

-- a cell of a name
pub named-cell : (name m : List ℕ) (g : Group) (b : Bool) → bytes_eq g.name (codes "cell") ≡ true → only_name g.items ≡ Some m → bytes_eq m name ≡ b →
    cell_inside name (cell_in g) ≡ (if b then Some g.inner else None)
named-cell name m g b e f h = cell-there name g (Some m) e f ∙ ap (λ v. if v then Some g.inner else None) h

-- nothing is added
pub stays : (old new add : Option Statements) → new ≡ old → add ≡ None → new ≡ option_or old add
stays old new add e f = e ∙ sym (ap (option_or old) f ∙ or-nothing old)

-- From one group to the next

pub inside-append : (name : List ℕ) (es fs : List (List ℕ × Statements)) → cell_inside name (es ++ fs) ≡ option_or (cell_inside name es) (cell_inside name fs)
inside-append name [] fs = refl
inside-append name (e ∷ es) fs = cases (bytes_eq e.0 name) (inside-append name es fs)
  where
    cases : (b : Bool) → cell_inside name (es ++ fs) ≡ option_or (cell_inside name es) (cell_inside name fs) →
        (if b then Some e.1 else cell_inside name (es ++ fs)) ≡ option_or (if b then Some e.1 else cell_inside name es) (cell_inside name fs)
    cases true h = refl
    cases false h = h

pub or-three : (x y z : Option Statements) → option_or (option_or x y) z ≡ option_or x (option_or y z)
or-three None y z = refl
or-three (Some s) y z = refl

-- what is found with a group and with those behind it
pub one-more : (name : List ℕ) (gs hs : List Group) (g : Group) (old new : Option Statements) → gs ≡ g ∷ hs → new ≡ option_or old (cell_inside name (cell_in g)) →
    option_or old (cell_inside name (cells_in gs)) ≡ option_or new (cell_inside name (cells_in hs))
one-more name gs hs g old new e f =
    ap (λ l. option_or old (cell_inside name (cells_in l))) e
    ∙ ap (option_or old) (inside-append name (cell_in g) (cells_in hs))
    ∙ sym (or-three old (cell_inside name (cell_in g)) (cell_inside name (cells_in hs)))
    ∙ ap (λ o. option_or o (cell_inside name (cells_in hs))) (sym f)

pub less-than : {k n m : ℕ} → n ≡ m → k < m → k < n
less-than e h = omega (arith, e, h)

-- What is noted of a cell

same-or-not : (k j : ℕ) → (k ≡ j) ⊎ (k ≡ j → ⊥)
same-or-not k j = by (nat_lt k j) refl (nat_lt j k) refl
  where
    by : (a : Bool) → nat_lt k j ≡ a → (b : Bool) → nat_lt j k ≡ b → (k ≡ j) ⊎ (k ≡ j → ⊥)
    by true e b f = let less : k < j = grind (arith, nat_tests) in inr (λ same. omega (arith, less, same))
    by false e true f = let less : j < k = grind (arith, nat_tests) in inr (λ same. omega (arith, less, same))
    by false e false f = let same : k ≡ j = grind (arith, nat_tests) in inl same

-- the cell of a name, which has this number
module _ (cells : Cells) (m : List ℕ) (g : Group) (j : ℕ) (sorted : AreAscending (names_of cells)) (number : number_of cells m ≡ Some j) (cell : bytes_eq g.name (codes "cell") ≡ true) (only : only_name g.items ≡ Some m) where
  abbrev Adds : List (Option (List Token)) → List (Option (List Token)) → ℕ → Type 0
  Adds old new k = inside_seen (get_or new k None) ≡ option_or (inside_seen (get_or old k None)) (cell_inside (name_at cells k) (cell_in g))

  elsewhere : (old new : List (Option (List Token))) (k : ℕ) → k < length cells → (k ≡ j → ⊥) → get_or new k None ≡ get_or old k None → Adds old new k
  elsewhere old new k l n same =
      stays (inside_seen (get_or old k None)) (inside_seen (get_or new k None)) (cell_inside (name_at cells k) (cell_in g)) (ap inside_seen same)
      (named-cell (name_at cells k) m g false cell only (other-name cells m j k sorted number l n))

  -- where nothing was noted before
  pub noted-first : (old new : List (Option (List Token))) (inside : List Token) (k : ℕ) → length old ≡ length cells → g.inner ≡ (front 62 inside).statements → get_or old j None ≡ None →
      new ≡ set old j (Some inside) → k < length cells → Adds old new k
  noted-first old new inside k size inner none put l = by (same-or-not k j)
    where
      there : get_or new j None ≡ Some inside
      there = ap (λ xs. get_or xs j None) put ∙ get_or-set_same old j (Some inside) None (omega (arith, size, (numbered cells m j number).0))

      here : Adds old new j
      here =
          ap inside_seen there
          ∙ ap (λ s. Some s) (sym inner)
          ∙ sym (ap (λ o. option_or o (cell_inside (name_at cells j) (cell_in g))) (ap inside_seen none) ∙ named-cell (name_at cells j) m g true cell only (numbered cells m j number).1)

      by : (k ≡ j) ⊎ (k ≡ j → ⊥) → Adds old new k
      by (inl same) = subst (Adds old new) (sym same) here
      by (inr n) = elsewhere old new k l n (ap (λ xs. get_or xs k None) put ∙ get_or-set_other old j k (Some inside) None n)

  -- where something was
  pub noted-later : (old : List (Option (List Token))) (k : ℕ) → is_none (get_or old j None) ≡ false → k < length cells → Adds old old k
  noted-later old k some l = by (same-or-not k j)
    where
      kept : (o : Option (List Token)) (x : Option Statements) → is_none o ≡ false → inside_seen o ≡ option_or (inside_seen o) x
      kept None x e = absurd (cc)
      kept (Some ts) x e = refl

      by : (k ≡ j) ⊎ (k ≡ j → ⊥) → Adds old old k
      by (inl same) = subst (Adds old old) (sym same) (kept (get_or old j None) (cell_inside (name_at cells j) (cell_in g)) some)
      by (inr n) = elsewhere old old k l n refl
