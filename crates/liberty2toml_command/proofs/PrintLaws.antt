-- Members put in their place, and texts as items.
use Rattle.std.proofs.Common.{◌≡◌, ℕ, zero, suc, ◌+◌, ◌<◌, ◌≤◌, List, [], ◌∷◌, ◌++◌, length, take, drop, get_or, String, Global, Ordering, Less, Equal, Greater, nat_cmp, string_bytes, string_cmp, refl, sym, ap, subst, ◌∙◌, arith}
use Rattle.std.specs.Ordering.{match_ordering, ordering_reverse}
use Rattle.std.specs.BTreeMap.{insert_entry}
use Rattle.std.specs.Cmp.Lexicographic.{slice_cmp}
use Rattle.std.specs.List.{AllByRecursion}
use Rattle.std.specs.List.Sorted.{IsStrictlySortedBy}
use Rattle.std.proofs.lemmas.Cmp.{nat_list_cmp_total}
use Rattle.std.proofs.lemmas.List.{map-append}
use Rattle.toml.specs.declared.value.Value.{Value}
use Rattle.toml.specs.Data.{member, item, string, table, push_item}
use Rattle.toml.specs.View.{view, members_view}
use Rattle.mintc_cells.specs.declared.cell.Cell.{Cell}
use Rattle.mintc_cells.specs.Entries.{AreAscending, names_of, name_at, cell_at}
use Rattle.liberty2toml_command.specs.Tables.{text_items, table_of, tables_of}
use Rattle.liberty2toml_command.specs.Puts.{put_member}

abbrev Entry : Type 0
Entry = String Global × Value

either-way : (o : Ordering) (a b c : List Entry) → members_view (match_ordering o a b c) ≡ match_ordering o (members_view a) (members_view b) (members_view c)
either-way Less a b c = refl
either-way Equal a b c = refl
either-way Greater a b c = refl

pub put-view : (es : List Entry) (k : String Global) (v : Value) → members_view (insert_entry string_cmp es k v) ≡ put_member (string_bytes k) (view v) (members_view es)
put-view [] k v = refl
put-view (e ∷ es) k v =
    either-way (string_cmp k e.0) ((k, v) ∷ e ∷ es) ((e.0, v) ∷ es) (e ∷ insert_entry string_cmp es k v)
    ∙ ap (λ ms. match_ordering (string_cmp k e.0) (members_view ((k, v) ∷ e ∷ es)) (members_view ((e.0, v) ∷ es)) (member (string_bytes e.0) (view e.1) ms)) (put-view es k v)

pub text-push : (names : List (List ℕ)) (at : ℕ) (d : List ℕ) → at < length names → text_items (take (at + 1) names) ≡ push_item (text_items (take at names)) (string (get_or names at d))
text-push [] at d h = absurd (omega arith)
text-push (n ∷ names) zero d h = refl
text-push (n ∷ names) (suc at) d h =
    let next : suc at + 1 ≡ suc (at + 1) = omega arith in
    ap (λ k. text_items (take k (n ∷ names))) next ∙ ap (item (string n)) (text-push names at d (omega (arith, h)))

pub text-all : (names : List (List ℕ)) (at : ℕ) → length names ≤ at → text_items (take at names) ≡ text_items names
text-all [] zero h = refl
text-all [] (suc at) h = refl
text-all (n ∷ names) zero h = absurd (omega (arith, h))
text-all (n ∷ names) (suc at) h = ap (item (string n)) (text-all names at (omega (arith, h)))

-- a name behind those that are there
below-middle : (x : List ℕ) (cs : List (List ℕ × Cell)) (name : List ℕ) (more : List (List ℕ)) → AllByRecursion (λ y. slice_cmp nat_cmp x y ≡ Less) (names_of cs ++ name ∷ more) → slice_cmp nat_cmp x name ≡ Less
below-middle x [] name more h = h.0
below-middle x (c ∷ cs) name more h = below-middle x cs name more h.1

after : (x y : List ℕ) → slice_cmp nat_cmp x y ≡ Less → slice_cmp nat_cmp y x ≡ Greater
after x y h = nat_list_cmp_total.antisymm y x ∙ ap ordering_reverse h

pub put-last : (cs : List (List ℕ × Cell)) (name : List ℕ) (cell : Cell) (more : List (List ℕ)) → IsStrictlySortedBy (slice_cmp nat_cmp) (names_of cs ++ name ∷ more) →
    put_member name (table (table_of cell)) (tables_of cs) ≡ tables_of (cs ++ (name, cell) ∷ [])
unfolding IsStrictlySortedBy
put-last [] name cell more h = refl
put-last (c ∷ cs) name cell more h =
    ap (λ o. match_ordering o (member name (table (table_of cell)) (tables_of (c ∷ cs))) (member c.0 (table (table_of cell)) (tables_of cs)) (member c.0 (table (table_of c.1)) (put_member name (table (table_of cell)) (tables_of cs))))
    (after c.0 name (below-middle c.0 cs name more h.0))
    ∙ ap (member c.0 (table (table_of c.1))) (put-last cs name cell more h.1)

-- the next cell of a list
next-cell : (cs : List (List ℕ × Cell)) (i : ℕ) → i < length cs → cs ≡ take i cs ++ (name_at cs i, cell_at cs i) ∷ drop (i + 1) cs
next-cell [] i h = absurd (omega (arith, h))
next-cell (c ∷ cs) zero h = refl
next-cell (c ∷ cs) (suc i) h =
    let more : suc i + 1 ≡ suc (i + 1) = omega arith in
    ap (λ ds. c ∷ ds) (next-cell cs i (omega (arith, h))) ∙ sym (ap (λ n. (c ∷ take i cs) ++ (name_at cs i, cell_at cs i) ∷ drop n (c ∷ cs)) more)

take-next : (cs : List (List ℕ × Cell)) (i : ℕ) → i < length cs → take i cs ++ (name_at cs i, cell_at cs i) ∷ [] ≡ take (i + 1) cs
take-next [] i h = absurd (omega (arith, h))
take-next (c ∷ cs) zero h = refl
take-next (c ∷ cs) (suc i) h =
    let more : suc i + 1 ≡ suc (i + 1) = omega arith in
    ap (λ ds. c ∷ ds) (take-next cs i (omega (arith, h))) ∙ sym (ap (λ n. take n (c ∷ cs)) more)

pub put-next : (cs : List (List ℕ × Cell)) (i : ℕ) → i < length cs → AreAscending (names_of cs) →
    put_member (name_at cs i) (table (table_of (cell_at cs i))) (tables_of (take i cs)) ≡ tables_of (take (i + 1) cs)
put-next cs i h up =
    put-last (take i cs) (name_at cs i) (cell_at cs i) (names_of (drop (i + 1) cs))
    (subst (IsStrictlySortedBy (slice_cmp nat_cmp)) (ap names_of (next-cell cs i h) ∙ map-append (λ (c : List ℕ × Cell). c.0) (take i cs) ((name_at cs i, cell_at cs i) ∷ drop (i + 1) cs)) up)
    ∙ ap tables_of (take-next cs i h)
