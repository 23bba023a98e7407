-- A latch or flop has one output of a name.
use Rattle.std.proofs.Common.{◌≡◌, ℕ, zero, suc, ◌<◌, ◌≤◌, ◌+◌, ◌-◌, ◌==◌, Bool, true, false, not, ◌&&◌, List, [], ◌∷◌, length, get_or, slice_index_or, bytes_eq, nat_le, Some, refl, sym, ap, ◌∙◌, subst, arith, length-append, ⊎_elim}
use Rattle.std.specs.List.{list_any, list_all}
use Rattle.std.proofs.lemmas.Bool.{and_parts, not_from_true, eq-eqb, ne_eqb, cases_eq, cases_lt, false_from_ne_true}
use Rattle.std.proofs.lemmas.Bool.Decides.{nat_tests}
use Rattle.std.proofs.lemmas.List.{get_or_past, get_or-append_right}
use Rattle.std.proofs.lemmas.List.Folds.{list_any_at}
use Rattle.std.proofs.lemmas.List.Sums.{AllPass-from_list_all}
use Rattle.std.proofs.lemmas.Slice.Eq.{bytes_eq-Decides}
use Rattle.mintc_cells.specs.declared.cell.Cell.{Cell}
use Rattle.mintc_cells.specs.declared.cell.Cell.TheVariants.{Gate, Latch, Flop, Clock}
use Rattle.mintc_cells.specs.Pins.{are_names, is_distinct}
use Rattle.mintc_cells.specs.Rules.{pins, inputs_of, outputs_of, has_names, has_limits, has_order, is_cell}
use Rattle.mintc_toml.specs.Rules.{is_name, is_graphic}
use Rattle.mintc_annotate_resolve.specs.Pins.{is_storage, input_count, output_count, output_pin}
use Rattle.mintc_edges.proofs.OutputLaws.{output-among}

pub not-both : (b : Bool) → b ≡ true → b ≡ false → ⊥
not-both b h k = cc

-- names that are distinct stand apart
apart : (names : List (List ℕ)) → is_distinct names ≡ true → (i j : ℕ) → i < j → j < length names → bytes_eq (get_or names i []) (get_or names j []) ≡ true → ⊥
apart [] distinct i j less below same = absurd (omega (arith, below))
apart (x ∷ xs) distinct i zero less below same = absurd (omega (arith, less))
apart (x ∷ xs) distinct zero (suc j) less below same =
    let parts = and_parts (not (list_any (bytes_eq x) xs)) (is_distinct xs) distinct in
    not-both (not (list_any (bytes_eq x) xs)) parts.0 (not_from_true (list_any (bytes_eq x) xs) (list_any_at (bytes_eq x) xs j [] (omega (arith, below)) same))
apart (x ∷ xs) distinct (suc i) (suc j) less below same =
    apart xs (and_parts (not (list_any (bytes_eq x) xs)) (is_distinct xs) distinct).1 i j (omega (arith, less)) (omega (arith, below)) same

-- two places of one name are one place
same-place : (names : List (List ℕ)) (name : List ℕ) → is_distinct names ≡ true → (i j : ℕ) → i < length names → j < length names → bytes_eq name (get_or names i []) ≡ true → bytes_eq name (get_or names j []) ≡ true → (i ≡ j → ⊥) → ⊥
same-place names name distinct i j first second here there other =
    let left : name ≡ get_or names i [] = (bytes_eq-Decides name (get_or names i [])).0 here in
    let right : name ≡ get_or names j [] = (bytes_eq-Decides name (get_or names j [])).0 there in
    ⊎_elim
    (λ less. apart names distinct i j less second ((bytes_eq-Decides (get_or names i []) (get_or names j [])).1 (sym left ∙ right)))
    (λ more. apart names distinct j i (omega (arith, more, other)) first ((bytes_eq-Decides (get_or names j []) (get_or names i [])).1 (sym right ∙ left)))
    (cases_lt i j)

-- an output has a name
named : (cell : Cell) → is_storage cell ≡ true → has_names cell ≡ true → list_all is_name (outputs_of cell) ≡ true
named (Latch d g high outputs ignored setup hold has_hold dq_min dq_max cq_min cq_max has_cq width) stores h =
    let lists = (and_parts (is_name d && is_name g) (are_names 1 2 outputs && are_names 0 64 ignored) h).1 in
    let outs = (and_parts (are_names 1 2 outputs) (are_names 0 64 ignored) lists).0 in
    (and_parts (nat_le 1 (length outputs) && nat_le (length outputs) 2) (list_all is_name outputs) outs).1
named (Flop d clock rising outputs ignored setup hold has_hold cq_min cq_max width) stores h =
    let lists = (and_parts (is_name d && is_name clock) (are_names 1 2 outputs && are_names 0 64 ignored) h).1 in
    let outs = (and_parts (are_names 1 2 outputs) (are_names 0 64 ignored) lists).0 in
    (and_parts (nat_le 1 (length outputs) && nat_le (length outputs) 2) (list_all is_name outputs) outs).1
named (Gate inputs outputs min max) stores h = absurd (let no : false ≡ true = stores in cc)
named (Clock input output invert ignored) stores h = absurd (let no : false ≡ true = stores in cc)

some-name : (name : List ℕ) → is_name name ≡ true → 1 ≤ length name
some-name name h =
    let counts = (and_parts (nat_le 1 (length name) && nat_le (length name) 255) (list_all is_graphic name) h).0 in
    let low = (and_parts (nat_le 1 (length name)) (nat_le (length name) 255) counts).0 in
    grind (arith, nat_tests, low)

module _ (cell : Cell) (stores : is_storage cell ≡ true) (rules : is_cell cell ≡ true) (name : List ℕ) (o : ℕ) (found : output_pin cell name ≡ Some o) where
  abbrev k : ℕ
  k = input_count cell

  parts : (has_names cell ≡ true) × (is_distinct (pins cell) ≡ true)
  parts = and_parts (has_names cell) (is_distinct (pins cell)) (and_parts (has_names cell && is_distinct (pins cell)) (has_limits cell) (and_parts ((has_names cell && is_distinct (pins cell)) && has_limits cell) (has_order cell) rules).0).0

  count : length (pins cell) ≡ k + output_count cell
  count = length-append (inputs_of cell) (outputs_of cell)

  inside : o < length (pins cell)
  inside = let among = output-among cell name o found in omega (arith, count, among.1)

  is-name : is_name (get_or (pins cell) o []) ≡ true
  is-name =
      let among = output-among cell name o found in
      subst (λ (n : List ℕ). is_name n ≡ true) (sym (get_or-append_right (inputs_of cell) (outputs_of cell) k o [] refl among.0))
      (AllPass-from_list_all is_name (outputs_of cell) (named cell stores parts.0) (o - k) [] (omega (arith, among.0, among.1)))

  other : (p : ℕ) → (o ≡ p → ⊥) → bytes_eq name (get_or (pins cell) p []) ≡ true → ⊥
  other p apart-from same =
      let among = output-among cell name o found in
      ⊎_elim
      (λ less. same-place (pins cell) name parts.1 o p inside less among.2 same apart-from)
      (λ past.
      let whole : name ≡ get_or (pins cell) p [] = (bytes_eq-Decides name (get_or (pins cell) p [])).0 same in
      let here : name ≡ get_or (pins cell) o [] = (bytes_eq-Decides name (get_or (pins cell) o [])).0 among.2 in
      let empty : get_or (pins cell) o [] ≡ [] = sym here ∙ whole ∙ get_or_past (pins cell) p [] (omega (arith, past)) in
      let some = some-name (get_or (pins cell) o []) is-name in
      absurd (omega (arith, some, ap length empty)))
      (cases_lt p (length (pins cell)))

  -- the output of that name, and no other pin
  pub one-output : (p : ℕ) → bytes_eq name (slice_index_or (pins cell) p []) ≡ (o == p)
  one-output p =
      ⊎_elim
      (λ e. subst (λ q. bytes_eq name (get_or (pins cell) q []) ≡ true) e (output-among cell name o found).2 ∙ sym (eq-eqb o p e))
      (λ ne. false_from_ne_true (bytes_eq name (get_or (pins cell) p [])) (other p ne) ∙ sym (ne_eqb o p ne))
      (cases_eq o p)
