-- A cell that keeps its rules has few pins.
use Rattle.std.proofs.Common.{◌≡◌, ℕ, ◌<◌, ◌≤◌, Bool, true, false, ◌&&◌, List, ◌∷◌, [], length, length-append, nat_le, arith, refl}
use Rattle.std.specs.List.{list_all}
use Rattle.std.proofs.lemmas.Bool.Decides.{nat_tests}
use Rattle.std.proofs.lemmas.List.Sums.{AllPass-from_list_all}
use Rattle.mintc_cells.specs.declared.cell.Cell.{Cell}
use Rattle.mintc_cells.specs.declared.cell.Cell.TheVariants.{Gate, Latch, Flop, Clock}
use Rattle.mintc_toml.specs.Rules.{is_name}
use Rattle.mintc_cells.specs.Pins.{are_names}
use Rattle.mintc_cells.specs.Rules.{pins, is_cell, has_names}
use Rattle.mintc_cells.specs.Entries.{is_kept, AreKept, cell_at, no_cell}

pub both_left : (a b : Bool) → (a && b) ≡ true → a ≡ true
both_left true b h = refl
both_left false b h = h

pub both_right : (a b : Bool) → (a && b) ≡ true → b ≡ true
both_right true b h = h
both_right false true h = refl
both_right false false h = h

few_names : (least most : ℕ) (names : List (List ℕ)) → are_names least most names ≡ true → length names ≤ most
few_names least most names h =
    let counted : (nat_le least (length names) && nat_le (length names) most) ≡ true = both_left (nat_le least (length names) && nat_le (length names) most) (list_all is_name names) h in
    let below : nat_le (length names) most ≡ true = both_right (nat_le least (length names)) (nat_le (length names) most) counted in
    grind (arith, nat_tests)

few_if_named : (cell : Cell) → has_names cell ≡ true → length (pins cell) ≤ 200
few_if_named (Gate inputs outputs min max) h =
    let i : length inputs ≤ 64 = few_names 0 64 inputs (both_left (are_names 0 64 inputs) (are_names 1 16 outputs) h) in
    let o : length outputs ≤ 16 = few_names 1 16 outputs (both_right (are_names 0 64 inputs) (are_names 1 16 outputs) h) in
    omega (arith, length-append inputs outputs, i, o)
few_if_named (Latch d g high outputs ignored setup hold has_hold dq_min dq_max cq_min cq_max has_cq width) h =
    let lists : (are_names 1 2 outputs && are_names 0 64 ignored) ≡ true = both_right (is_name d && is_name g) (are_names 1 2 outputs && are_names 0 64 ignored) h in
    let o : length outputs ≤ 2 = few_names 1 2 outputs (both_left (are_names 1 2 outputs) (are_names 0 64 ignored) lists) in
    let i : length ignored ≤ 64 = few_names 0 64 ignored (both_right (are_names 1 2 outputs) (are_names 0 64 ignored) lists) in
    omega (arith, length-append ignored outputs, i, o)
few_if_named (Flop d clock rising outputs ignored setup hold has_hold cq_min cq_max width) h =
    let lists : (are_names 1 2 outputs && are_names 0 64 ignored) ≡ true = both_right (is_name d && is_name clock) (are_names 1 2 outputs && are_names 0 64 ignored) h in
    let o : length outputs ≤ 2 = few_names 1 2 outputs (both_left (are_names 1 2 outputs) (are_names 0 64 ignored) lists) in
    let i : length ignored ≤ 64 = few_names 0 64 ignored (both_right (are_names 1 2 outputs) (are_names 0 64 ignored) lists) in
    omega (arith, length-append ignored outputs, i, o)
few_if_named (Clock input output invert ignored) h =
    let i : length ignored ≤ 64 = few_names 0 64 ignored (both_right (is_name input && is_name output) (are_names 0 64 ignored) h) in
    omega (arith, length-append ignored (output ∷ []), i)

pub few_pins : (cell : Cell) → is_cell cell ≡ true → length (pins cell) ≤ 200
few_pins cell h = few_if_named cell (both_left _ _ (both_left _ _ (both_left _ _ h)))

-- the cell of a number keeps its rules
pub kept_at : (cells : List (List ℕ × Cell)) (at : ℕ) → AreKept cells → at < length cells → is_cell (cell_at cells at) ≡ true
kept_at cells at h inside = both_right _ _ (both_left _ _ (AllPass-from_list_all is_kept cells h at no_cell inside))
