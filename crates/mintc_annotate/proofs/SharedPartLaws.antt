-- A design that is made has its parts in their ranges.
use Rattle.std.proofs.Common.{◌≡◌, ◌<◌, ◌≤◌, ℕ, ℤ, pos, Bool, true, false, ◌&&◌, ◌||◌, List, [], length, slice_index_or, All, refl, sym, ap, subst, arith}
use Rattle.std.specs.Prelude.{nat_lt, int_le}
use Rattle.std.proofs.lemmas.Bool.{and_parts}
use Rattle.std.proofs.lemmas.Bool.Decides.{nat_tests}
use Rattle.std.proofs.lemmas.Int.{ints}
use Rattle.std.proofs.lemmas.List.{get_or_past}
use Rattle.std.proofs.lemmas.List.Sums.{AllPass-from_list_all}
use Rattle.mintc_cells.specs.declared.cell.Cell.{Cell}
use Rattle.mintc_cells.specs.declared.cell.Cell.TheVariants.{Gate, Latch, Flop}
use Rattle.mintc_cells.specs.Rules.{is_cell, has_defaults, is_same}
use Rattle.mintc_cells.specs.Entries.{AreKept, is_kept, cell_at, no_cell}
use Rattle.mintc_cells.proofs.SharedPinsLaws.{kept_at}
use Rattle.mintc_toml.specs.Rules.{is_name}
use Rattle.mintc_clock.specs.declared.clock.Clock as clock_type
use Rattle.mintc_clock.specs.Laws.{KeepsLimits}
use Rattle.mintc_sdf.specs.declared.delays.Delay.{Delay}
use Rattle.mintc_sdf.specs.Laws.{IsWithin}
use Rattle.mintc_flatten_hierarchy.specs.declared.hierarchy.Hierarchy.{Hierarchy}
use Rattle.mintc_flatten_hierarchy.specs.Shape.{CellTable, IsFlattened}
use Rattle.mintc_timing.specs.Design.{Design}
use Rattle.mintc_timing.specs.Limits.{HasParts}
use Rattle.mintc_annotate_resolve.specs.Pins.{leaf_at, leaf_cell, no_leaf, is_storage}
use Rattle.mintc_annotate.specs.Made.{IsMade}
use Rattle.mintc_annotate.proofs.SharedElementLimits.{KeepsHold}
use Rattle.mintc_annotate.proofs.PartLimits.{made_has_parts}

hold_of_defaults : (has_hold : Bool) (hold : ℤ) → (has_hold || is_same hold (pos 0)) ≡ true → has_hold ≡ false → hold ≡ pos 0
hold_of_defaults true hold h none = absurd (cc)
hold_of_defaults false hold h none =
    let both = and_parts (int_le hold (pos 0)) (int_le (pos 0) hold) h in let low = both.0 in let high = both.1 in grind (arith, ints, low, high)

keeps_hold : (cell : Cell) → has_defaults cell ≡ true → KeepsHold cell
keeps_hold (Latch a b c d e f hold has_hold g h i j has_cq m) keeps = hold_of_defaults has_hold hold (and_parts (has_hold || is_same hold (pos 0)) (has_cq || (is_same i g && is_same j h)) keeps).0
keeps_hold (Flop a b c d e f hold has_hold g h i) keeps = hold_of_defaults has_hold hold keeps
keeps_hold _ keeps = tt

defaults_at : (cells : CellTable) (at : ℕ) → AreKept cells → at < length cells → has_defaults (cell_at cells at) ≡ true
defaults_at cells at kept within =
    let here = AllPass-from_list_all is_kept cells kept at no_cell within in
    (and_parts (is_name (slice_index_or cells at no_cell).0 && is_cell (slice_index_or cells at no_cell).1) (has_defaults (slice_index_or cells at no_cell).1) here).1

-- where there is no cell, a gate stands
by_test : (b : Bool) (P : Type 0) (at n : ℕ) → nat_lt at n ≡ b → (at < n → P) → (n ≤ at → P) → P
by_test true P at n test under past = under (grind (arith, nat_tests, test))
by_test false P at n test under past = past (grind (arith, nat_tests, test))

within_or_gate : (P : Cell → Type 0) (cells : CellTable) (at : ℕ) → (at < length cells → P (cell_at cells at)) → P (Gate [] [] (pos 0) (pos 0)) → P (cell_at cells at)
within_or_gate P cells at here there =
    by_test (nat_lt at (length cells)) (P (cell_at cells at)) at (length cells) refl here (λ past. subst P (sym (ap (λ (e : List ℕ × Cell). e.1) (get_or_past cells at no_cell past))) there)

pub rules_at : (h : Hierarchy) (cells : CellTable) → IsFlattened cells h → AreKept cells → (l : ℕ) → l < length h.leaves → is_cell (leaf_cell h cells l) ≡ true
rules_at h cells shape kept l within = kept_at cells (leaf_at h l).cell kept (shape.each_leaf l no_leaf within).cell

pub stored_rules : (h : Hierarchy) (cells : CellTable) → AreKept cells → (l : ℕ) → is_storage (leaf_cell h cells l) ≡ true → is_cell (leaf_cell h cells l) ≡ true
stored_rules h cells kept l = within_or_gate (λ cell. is_storage cell ≡ true → is_cell cell ≡ true) cells (leaf_at h l).cell (λ within is. kept_at cells (leaf_at h l).cell kept within) (λ is. absurd (cc))

pub holds_at : (h : Hierarchy) (cells : CellTable) → AreKept cells → (l : ℕ) → KeepsHold (leaf_cell h cells l)
holds_at h cells kept l = within_or_gate KeepsHold cells (leaf_at h l).cell (λ within. keeps_hold (cell_at cells (leaf_at h l).cell) (defaults_at cells (leaf_at h l).cell kept within)) tt

pub parts_of : (h : Hierarchy) (cells : CellTable) (clock : clock_type.Clock) (delays : List Delay) (design : Design) → IsFlattened cells h → AreKept cells → KeepsLimits clock → All IsWithin delays → IsMade h cells clock delays design → HasParts design
parts_of h cells clock delays design shape kept keeps sound made =
    made_has_parts h cells clock delays design shape (rules_at h cells shape kept) (stored_rules h cells kept) (holds_at h cells kept) keeps sound made
