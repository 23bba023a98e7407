-- A library with gates for the clock has one list of cells at most, which is its own where no gate is named.
use Rattle.std.proofs.Common.{◌≡◌, ℕ, ◌<◌, List, [], length, get_or, All, Option, Some, None, IsSome, sym, ap, ◌∙◌, subst, arith}
use Rattle.std.proofs.lemmas.List.{length-map, get_or-map, ext_get_or}
use Rattle.mintc_text.specs.declared.refusals.Refusal.{Refusal}
use Rattle.mintc_text.specs.declared.refusals.Refusal.TheVariants as refusal
use Rattle.mintc_cells.specs.declared.cell.Cell.{Cell}
use Rattle.mintc_cells.specs.Entries.{names_of, name_at, cell_at, no_cell, number_of}
use Rattle.mintc_cells.specs.CellsOf.{IsBadCellBy}
use Rattle.mintc_flatten_hierarchy.specs.Shape.{CellTable}
use Rattle.mintc_build.specs.FilesDesign.{CellText, described_by, library_by, IsLibraryRefusal}
use Rattle.mintcx_clock_cells.specs.Clocks.{Senses, HasClockCells, IsFit, IsUnknown, IsUnusable, IsFirstUnfit, IsUnfit, senses_in, cell_for, clock_at}
use Rattle.mintcx_clock_cells.specs.declared.unfit.Unfit.TheVariants as unfit
use Rattle.mintc_build.proofs.SharedFilesLaws.{one_library, no_library, one_library_refusal}
use Rattle.mintcx_sense_keys.specs.SensedCells.{AreSensedCells, IsBadSensedCell}
use Rattle.mintcx_sense_keys.specs.Laws.{PlainCellsAreDetermined, SensedCellsAreNotRefused, BadSensedCellsAreDetermined, CellsHaveNoKeys, KeylessTextsArePlain}
use Rattle.mintcx_edges.specs.EdgeFiles.{SensedText, described_without, description, library_with, cells_with}
use Rattle.mintcx_edges.proofs.PlainLaws.{IsPlain}

-- ---- forms of cells

-- two forms: a text has the same cells in both
abbrev pub AreSameForms : (List ℕ → CellText) → (List ℕ → SensedText) → Type 0
AreSameForms by with_senses = (c : List ℕ) (a b : CellTable) → (by c).Describes a → (with_senses c).cells.Describes b → a ≡ b

-- a description without the keys has the cells of the description
pub without_same : PlainCellsAreDetermined → AreSameForms described_without description
without_same law c a b h k = law c a b h k.plain

-- so has a description whose cells are read where the keys aren't, since it has none of them
pub described_same : CellsHaveNoKeys → KeylessTextsArePlain → PlainCellsAreDetermined → AreSameForms described_by description
described_same none plain law c a b h k = law c a b (plain.sensed c a (none c a h) h).plain k.plain

no_sensed : SensedCellsAreNotRefused → (c : List ℕ) (cells : CellTable) (refused : Refusal) → AreSensedCells c cells → IsBadCellBy (IsBadSensedCell c) refused → ⊥
no_sensed law c cells (refusal.BadCell n rule) h k = law c cells n rule h k
no_sensed law c cells _ h k = k

one_sensed_refusal : BadSensedCellsAreDetermined → (c : List ℕ) (refused other : Refusal) → IsBadCellBy (IsBadSensedCell c) refused → IsBadCellBy (IsBadSensedCell c) other → refused ≡ other
one_sensed_refusal law c (refusal.BadCell n rule) (refusal.BadCell m another) h k =
    let both = law c n rule m another h k in
    ap (λ x. refusal.BadCell x rule) both.0 ∙ ap (refusal.BadCell m) both.1
one_sensed_refusal law c (refusal.BadCell n rule) _ h k = absurd k
one_sensed_refusal law c _ other h k = absurd h

one_sensed : PlainCellsAreDetermined → (c : List ℕ) (a b : CellTable) → AreSensedCells c a → AreSensedCells c b → a ≡ b
one_sensed law c a b h k = law c a b h.plain k.plain

pub description_plain : PlainCellsAreDetermined → SensedCellsAreNotRefused → BadSensedCellsAreDetermined → IsPlain description
description_plain one none bad = record { one_cells = one_sensed one; no_refused = no_sensed none; one_refused = one_sensed_refusal bad }

-- ---- a library with gates

length-names : (cells : CellTable) → length (names_of cells) ≡ length cells
length-names cells = length-map cells (λ (e : List ℕ × Cell). e.0)

same-length : (a b : CellTable) → names_of a ≡ names_of b → length a ≡ length b
same-length a b names = sym (length-names a) ∙ ap length names ∙ length-names b

name-there : (cells : CellTable) (k : ℕ) → k < length cells → get_or (names_of cells) k [] ≡ name_at cells k
name-there cells k h = get_or-map (λ (e : List ℕ × Cell). e.0) cells k no_cell [] h

-- cells are the same where their names are and each cell is
same-cells : (a b : CellTable) → names_of a ≡ names_of b → ((k : ℕ) → k < length a → cell_at a k ≡ cell_at b k) → a ≡ b
same-cells a b names each = ext_get_or no_cell a b (same-length a b names) at
  where
    entry : (x y : List ℕ × Cell) → x.0 ≡ y.0 → x.1 ≡ y.1 → x ≡ y
    entry x y e f = ap (λ (n : List ℕ). (n, x.1)) e ∙ ap (λ (c : Cell). (y.0, c)) f

    at : (k : ℕ) → k < length a → get_or a k no_cell ≡ get_or b k no_cell
    at k h =
        let within : k < length b = omega (arith, h, same-length a b names) in
        entry (get_or a k no_cell) (get_or b k no_cell) (sym (name-there a k h) ∙ ap (λ ns. get_or ns k []) names ∙ name-there b k within) (each k h)

module _ (gates : List (List ℕ)) where
  one_gated : (c : List ℕ) (a b : CellTable) → HasClockCells c gates a → HasClockCells c gates b → a ≡ b
  one_gated c a b h k =
      let own : h.own ≡ k.own = one_library c h.own k.own h.library k.library in
      same-cells a b (h.names ∙ ap names_of own ∙ sym k.names) (λ i l. at own i l)
    where
      at : h.own ≡ k.own → (i : ℕ) → i < length a → cell_at a i ≡ cell_at b i
      at own i l =
          let first : i < length h.own = omega (arith, l, same-length a h.own h.names) in
          let second : i < length k.own = omega (arith, first, ap length own) in
          h.each i first ∙ ap (λ (o : CellTable). cell_for gates (senses_in c o) o i) own ∙ sym (k.each i second)

  no_gated : (c : List ℕ) (cells : CellTable) (refused : Refusal) → HasClockCells c gates cells → IsLibraryRefusal c refused → ⊥
  no_gated c cells refused h k = no_library c h.own refused h.library k

  pub library_plain : IsPlain (library_with gates)
  library_plain = record { one_cells = one_gated; no_refused = no_gated; one_refused = one_library_refusal }

-- where no gate is named the cells are the library's own
pub library_same : AreSameForms library_by (library_with [])
library_same c a b h k =
    let own : a ≡ k.own = one_library c a k.own h k.library in
    own ∙ sym (same-cells b k.own k.names (λ i l. k.each i (omega (arith, l, same-length b k.own k.names))))

pub gated_same : (gates : List (List ℕ)) → AreSameForms (cells_with gates) (library_with gates)
gated_same gates = one_gated gates

-- ---- gates that are fit aren't told

one_place : (o : Option ℕ) (n m : ℕ) → o ≡ Some n → o ≡ Some m → n ≡ m
one_place o n m h k = cc

no_place : (o : Option ℕ) (n : ℕ) → o ≡ None → o ≡ Some n → ⊥
no_place o n h k = absurd (cc)

nothing_there : (o : Option Cell) → IsSome o → o ≡ None → ⊥
nothing_there None h none = absurd (cc)
nothing_there (Some cell) h none = absurd (cc)

module _ (senses : Senses) (own : CellTable) (gates : List (List ℕ)) (at : ℕ) (fit : All (IsFit senses own) gates) where
  all_known : IsFirstUnfit senses own gates at (IsUnknown own) → ⊥
  all_known first = no_place (number_of own (get_or gates at [])) (fit at [] first.within).0 first.this (fit at [] first.within).1

  all_usable : IsFirstUnfit senses own gates at (IsUnusable senses own) → ⊥
  all_usable first =
      let here = fit at [] first.within in
      let same : here.0 ≡ first.this.0 = one_place (number_of own (get_or gates at [])) here.0 first.this.0 here.1 first.this.1 in
      nothing_there (clock_at senses own here.0) here.2 (ap (clock_at senses own) same ∙ first.this.2)

pub gates_known : (l : List ℕ) (gates : List (List ℕ)) (cells : CellTable) (at : ℕ) → HasClockCells l gates cells → IsUnfit l gates (unfit.Unknown at) → ⊥
gates_known l gates cells at has (own, is, first) =
    let same : own ≡ has.own = one_library l own has.own is has.library in
    all_known (senses_in l has.own) has.own gates at has.fit (subst (λ (o : CellTable). IsFirstUnfit (senses_in l o) o gates at (IsUnknown o)) same first)

pub gates_usable : (l : List ℕ) (gates : List (List ℕ)) (cells : CellTable) (at : ℕ) → HasClockCells l gates cells → IsUnfit l gates (unfit.Unusable at) → ⊥
gates_usable l gates cells at has (own, is, first) =
    let same : own ≡ has.own = one_library l own has.own is has.library in
    all_usable (senses_in l has.own) has.own gates at has.fit (subst (λ (o : CellTable). IsFirstUnfit (senses_in l o) o gates at (IsUnusable (senses_in l o) o)) same first)
