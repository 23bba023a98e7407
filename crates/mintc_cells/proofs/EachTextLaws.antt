-- Each text has cells or a refusal.
use Rattle.std.proofs.Common.{◌≡◌, ℕ, ◌+◌, nat_cmp, Less, Bool, true, false, ◌&&◌, List, [], ◌∷◌, map, codes, Option, Some, None, Result, Ok, Err, refl, sym, ap, ◌∙◌, subst, arith, ◌⊎◌, inl, inr}
use Rattle.std.proofs.lemmas.Bool.{and_parts}
use Rattle.std.proofs.lemmas.Cmp.{nat_list_cmp_total}
use Rattle.std.specs.Cmp.Lexicographic.{slice_cmp}
use Rattle.std.specs.List.{AllByRecursion}
use Rattle.std.specs.List.Sorted.{IsStrictlySortedBy}
use Rattle.std.specs.Str.{is_utf8}
use Rattle.std.proofs.lemmas.Str.{IsUtf8-from_is_utf8, is_utf8-from_IsUtf8}
use Rattle.toml.specs.Data.{Data, string, integer, float, boolean, datetime, array, table, Members, no_members, member, get_member, is_before, is_sorted, members_are_sorted}
use Rattle.toml.specs.Parse.{parse_document}
use Rattle.toml.proofs.Blanks.{below_from}
use Rattle.mintc_toml.specs.Documents.{IsDocument}
use Rattle.mintc_toml.specs.Lookups.{has_only}
use Rattle.mintc_cells.specs.declared.cell.Cell.{Cell}
use Rattle.mintc_cells.specs.Description.{cell_of}
use Rattle.mintc_cells.specs.Entries.{AreAscending}
use Rattle.mintc_cells.specs.CellsOf.{Entry, entries, entries_at, described, AreRead, AreDescribed, IsFirstBad, no_table, bad_entry, AreCells, IsBadCell, no_document, bad_table}
use Rattle.mintc_cells.specs.Laws.{TextsHaveCellsOrRefusals}
use Rattle.mintc_cells.proofs.TomlLaws.{document_sorted, member_sorted}

-- the entries of a sorted table ascend
abbrev names : Members → List (List ℕ)
names ms = map (λ (e : Entry). e.0) (entries ms)

all_after : (k : List ℕ) (ms : Members) → is_before k ms ≡ true → members_are_sorted ms ≡ true → AllByRecursion (λ y. slice_cmp nat_cmp k y ≡ Less) (names ms)
all_after k no_members before sorted = tt
all_after k (member l d ms) before sorted =
    let parts = and_parts (is_before l ms && is_sorted d) (members_are_sorted ms) sorted in
    let here = and_parts (is_before l ms) (is_sorted d) parts.0 in
    let low : slice_cmp nat_cmp k l ≡ Less = below_from k l before in
    (low, further ms (all_after l ms here.0 parts.1))
  where
    further : (ms : Members) → AllByRecursion (λ y. slice_cmp nat_cmp l y ≡ Less) (names ms) → AllByRecursion (λ y. slice_cmp nat_cmp k y ≡ Less) (names ms)
    further no_members h = tt
    further (member m c ms) h = (nat_list_cmp_total.trans k l m (below_from k l before) h.0, further ms h.1)

ascending : (ms : Members) → members_are_sorted ms ≡ true → AreAscending (names ms)
unfolding IsStrictlySortedBy
ascending no_members sorted = tt
ascending (member k d ms) sorted =
    let parts = and_parts (is_before k ms && is_sorted d) (members_are_sorted ms) sorted in
    let here = and_parts (is_before k ms) (is_sorted d) parts.0 in
    (all_after k ms here.0 parts.1, ascending ms parts.1)

nothing_ascends : AreAscending []
unfolding IsStrictlySortedBy
nothing_ascends = tt

table_ascends : (d : Data) (es : List Entry) → is_sorted d ≡ true → entries_at (Some d) ≡ Some es → AreAscending (map (λ (e : Entry). e.0) es)
table_ascends (table ms) es sorted is =
    let same : entries ms ≡ es = cc is in subst (λ (xs : List Entry). AreAscending (map (λ (e : Entry). e.0) xs)) same (ascending ms sorted)
table_ascends (string s) es sorted is = absurd (cc is)
table_ascends (integer z) es sorted is = absurd (cc is)
table_ascends (float x) es sorted is = absurd (cc is)
table_ascends (boolean b) es sorted is = absurd (cc is)
table_ascends (datetime t) es sorted is = absurd (cc is)
table_ascends (array ds) es sorted is = absurd (cc is)

found_ascend : (ms : Members) (o : Option Data) (es : List Entry) → members_are_sorted ms ≡ true → get_member (codes "cell") ms ≡ o → entries_at o ≡ Some es → AreAscending (map (λ (e : Entry). e.0) es)
found_ascend ms None es sorted at is =
    let same : [] ≡ es = cc is in subst (λ (xs : List Entry). AreAscending (map (λ (e : Entry). e.0) xs)) same nothing_ascends
found_ascend ms (Some d) es sorted at is = table_ascends d es (member_sorted (codes "cell") ms d sorted at) is

described_ascend : (ms : Members) (b : Bool) (es : List Entry) → members_are_sorted ms ≡ true → has_only (codes "cell" ∷ []) ms ≡ b → described ms ≡ Some es → AreAscending (map (λ (e : Entry). e.0) es)
described_ascend ms true es sorted only is = found_ascend ms (get_member (codes "cell") ms) es sorted refl (rw only at is)
described_ascend ms false es sorted only is = let wrong : None ≡ Some es = rw only at is in absurd (cc wrong)

-- the entries are read, or one is the first that stands for no cell
abbrev Judged : List Entry → Type 0
Judged es = ((cells : List (List ℕ × Cell)) × AreRead es cells) ⊎ ((n : ℕ) × (rule : ℕ) × IsFirstBad es n rule)

one_more : (e : Entry) (es : List Entry) (r : Result Cell ℕ) → cell_of e.0 e.1 ≡ r → Judged es → Judged (e ∷ es)
one_more e es (Err rule) is rest = inr (1, rule, record { before = []; cells = []; bad = e; after = es; whole = refl; read = tt; fails = is; count = refl })
one_more e es (Ok cell) is (inl (cells, read)) = inl ((e.0, cell) ∷ cells, ((refl, is), read))
one_more e es (Ok cell) is (inr (n, rule, bad)) = inr (
  n + 1,
  rule,
  record {
    before = e ∷ bad.before;
    cells = (e.0, cell) ∷ bad.cells;
    bad = bad.bad;
    after = bad.after;
    whole = ap (λ (xs : List Entry). e ∷ xs) bad.whole;
    read = ((refl, is), bad.read);
    fails = bad.fails;
    count = let count = bad.count in omega arith;
  },
)

judged : (es : List Entry) → Judged es
judged [] = inl ([], tt)
judged (e ∷ es) = one_more e es (cell_of e.0 e.1) refl (judged es)

abbrev Answer : List ℕ → Type 0
Answer text = ((cells : List (List ℕ × Cell)) × AreCells text cells) ⊎ ((n : ℕ) × (rule : ℕ) × IsBadCell text n rule)

of_entries : (text : List ℕ) (ms : Members) (es : List Entry) → IsDocument text ms → AreDescribed ms es → Judged es → Answer text
of_entries text ms es is are (inl (cells, read)) = inl (cells, (ms, is, record { list = es; are_described = are; read = read }))
of_entries text ms es is are (inr (n, rule, bad)) = inr (n, rule, bad_table ms is (bad_entry es are bad))

of_document : (text : List ℕ) (ms : Members) (o : Option (List Entry)) → IsDocument text ms → described ms ≡ o → Answer text
of_document text ms None is none = inr (0, 1, bad_table ms is (no_table none refl refl))
of_document text ms (Some es) is some =
    of_entries text ms es is (record { is_list = some; ascending = described_ascend ms (has_only (codes "cell" ∷ []) ms) es (document_sorted text ms is.1) refl some }) (judged es)

of_text : (text : List ℕ) (b : Bool) (o : Option Members) → is_utf8 text ≡ b → parse_document text ≡ o → Answer text
of_text text true (Some ms) utf8 parsed = of_document text ms (described ms) (IsUtf8-from_is_utf8 text utf8, parsed) refl
of_text text true None utf8 parsed = inr (0, 0, no_document (λ ms h. let wrong : None ≡ Some ms = sym parsed ∙ h.1 in absurd (cc wrong)) refl refl)
of_text text false o utf8 parsed = inr (0, 0, no_document (λ ms h. let wrong : false ≡ true = sym utf8 ∙ is_utf8-from_IsUtf8 text h.0 in absurd (cc wrong)) refl refl)

pub texts_have_cells_or_refusals_lem : TextsHaveCellsOrRefusals
texts_have_cells_or_refusals_lem text = of_text text (is_utf8 text) (parse_document text) refl refl
