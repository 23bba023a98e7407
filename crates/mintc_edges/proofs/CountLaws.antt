-- Counts, as they grow, and outputs counted among all pins or among outputs.
use Rattle.std.proofs.Common.{◌≡◌, ℕ, ℤ, true, false, zero, suc, ◌+◌, ◌-◌, List, [], ◌∷◌, ◌++◌, sum_by, length, refl, sym, ap, ◌∙◌, arith, map-id}
use Rattle.std.specs.List.{range_with_len}
use Rattle.std.proofs.lemmas.List.FromFn.{map-range_with_len_more}
use Rattle.std.proofs.lemmas.List.Sums.{sum_by-append}
use Rattle.mintc_cells.specs.declared.cell.Cell.{Cell}
use Rattle.mintc_cells.specs.declared.cell.Cell.TheVariants.{Gate, Latch, Flop, Clock}
use Rattle.mintc_cells.specs.Entries.{cell_at}
use Rattle.mintc_flatten_hierarchy.specs.Shape.{CellTable}
use Rattle.mintc_senses.specs.Senses.{sense_at}
use Rattle.mintc_senses_expressions.specs.declared.transitions.Transitions.{Transitions}
use Rattle.mintc_annotate_resolve.specs.Pins.{is_storage, input_count, output_count}
use Rattle.mintc_edges.specs.Counts.{pin_arc_count, arc_count, row_count, gate_count}
use Rattle.mintc_edges.specs.Edges.{transitions_of}
use Rattle.mintc_edges.specs.Numbers.{sense_of}

pub range_more : (k : ℕ) → range_with_len 0 (k + 1) ≡ range_with_len 0 k ++ k ∷ []
range_more k = sym (map-id (range_with_len 0 (k + 1))) ∙ map-range_with_len_more (λ (x : ℕ). x) 0 k k (omega arith) ∙ ap (λ l. l ++ k ∷ []) (map-id (range_with_len 0 k))

-- a sum over one more number
pub sum_more : (f : ℕ → ℕ) (k : ℕ) → sum_by f (range_with_len 0 (k + 1)) ≡ sum_by f (range_with_len 0 k) + f k
sum_more f k = ap (sum_by f) (range_more k) ∙ sum_by-append f (range_with_len 0 k) (k ∷ []) ∙ omega arith

sum-cons : (f : ℕ → ℕ) (x : ℕ) (xs : List ℕ) → sum_by f (x ∷ xs) ≡ f x + sum_by f xs
sum-cons f x xs = omega (arith, sum_by-append f (x ∷ []) xs)

-- counted on from a number, or from 0
shifted : (g : ℕ → ℕ) (k j n : ℕ) → sum_by (λ o. g (o - k)) (range_with_len (k + j) n) ≡ sum_by g (range_with_len j n)
shifted g k j zero = refl
shifted g k j (suc n) =
    let here : (k + j) - k ≡ j = omega arith in
    let next : (k + j) + 1 ≡ k + (j + 1) = omega arith in
    let rest = shifted g k (j + 1) n in
    sum-cons (λ o. g (o - k)) (k + j) (range_with_len ((k + j) + 1) n)
    ∙ ap (λ m. g m + sum_by (λ o. g (o - k)) (range_with_len ((k + j) + 1) n)) here ∙ ap (λ m. g j + sum_by (λ o. g (o - k)) (range_with_len m n)) next ∙ ap (λ m. g j + m) rest
    ∙ sym (sum-cons g j (range_with_len (j + 1) n))

pub sum_same : (f g : ℕ → ℕ) (xs : List ℕ) → ((x : ℕ) → f x ≡ g x) → sum_by f xs ≡ sum_by g xs
sum_same f g [] same = refl
sum_same f g (x ∷ xs) same = let here = same x in let rest = sum_same f g xs same in omega (arith, here, rest, sum-cons f x xs, sum-cons g x xs)

module _ (senses : List (List (List Transitions))) (cells : CellTable) (number : ℕ) where
  pub row_is : (i : ℕ) → row_count senses number i (output_count (cell_at cells number)) ≡ pin_arc_count (sense_of senses cells) number (cell_at cells number) i
  row_is i =
      let k = input_count (cell_at cells number) in
      let at : k + 0 ≡ k = omega arith in
      sym (ap (λ m. sum_by (λ o. length (transitions_of (sense_at senses number i (o - k)))) (range_with_len m (output_count (cell_at cells number)))) (sym at)
      ∙ shifted (λ o. length (transitions_of (sense_at senses number i o))) k 0 (output_count (cell_at cells number)))

  pub gate_is : gate_count senses number (input_count (cell_at cells number)) (output_count (cell_at cells number))
      ≡ sum_by (pin_arc_count (sense_of senses cells) number (cell_at cells number)) (range_with_len 0 (input_count (cell_at cells number)))
  gate_is = sum_same (λ i. row_count senses number i (output_count (cell_at cells number))) (pin_arc_count (sense_of senses cells) number (cell_at cells number)) (range_with_len 0 (input_count (cell_at cells number))) row_is

  -- the arcs of a gate, and of a latch or flop
  pub gate-counted : (inputs outputs : List (List ℕ)) (least most : ℤ) → cell_at cells number ≡ Gate inputs outputs least most → gate_count senses number (length inputs) (length outputs) ≡ arc_count (sense_of senses cells) number (cell_at cells number)
  gate-counted inputs outputs least most is =
      ap (λ (x : Cell). gate_count senses number (input_count x) (output_count x)) (sym is) ∙ gate_is
      ∙ ap (λ (x : Cell). sum_by (pin_arc_count (sense_of senses cells) number x) (range_with_len 0 (input_count x))) is ∙ ap (arc_count (sense_of senses cells) number) (sym is)

  stored-by : (cell : Cell) → cell_at cells number ≡ cell → is_storage cell ≡ true → 2 + row_count senses number 0 (output_count cell) ≡ arc_count (sense_of senses cells) number cell
  stored-by (Latch a b c outs d e f g h i j k l m) is stores =
      ap (λ (x : Cell). 2 + row_count senses number 0 (output_count x)) (sym is) ∙ ap (λ k. 2 + k) (row_is 0) ∙ ap (λ (x : Cell). 2 + pin_arc_count (sense_of senses cells) number x 0) is
  stored-by (Flop a b c outs d e f g h i j) is stores =
      ap (λ (x : Cell). 2 + row_count senses number 0 (output_count x)) (sym is) ∙ ap (λ k. 2 + k) (row_is 0) ∙ ap (λ (x : Cell). 2 + pin_arc_count (sense_of senses cells) number x 0) is
  stored-by (Gate a b c d) is stores = absurd (let no : false ≡ true = stores in cc)
  stored-by (Clock a b c d) is stores = absurd (let no : false ≡ true = stores in cc)

  pub stored-counted : (cell : Cell) → cell ≡ cell_at cells number → is_storage cell ≡ true → 2 + row_count senses number 0 (output_count cell) ≡ arc_count (sense_of senses cells) number (cell_at cells number)
  stored-counted cell is stores = stored-by cell (sym is) stores ∙ ap (arc_count (sense_of senses cells) number) is
