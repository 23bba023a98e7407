-- What delays say of a latch or flop, output by output, is all that they say of it.
use Rattle.std.proofs.Common.{◌≡◌, ℕ, zero, suc, ◌<◌, ◌≤◌, ◌+◌, ◌-◌, Bool, true, false, cond, ◌||◌, List, [], ◌∷◌, ◌++◌, map, filter, length, get_or, slice_index_or, bytes_eq, nat_le, Option, Some, None, refl, sym, ap, ◌∙◌, subst, arith, length-append}
use Rattle.std.specs.List.{range_with_len, list_any}
use Rattle.std.specs.Prelude.{position, option_and_then}
use Rattle.std.proofs.lemmas.Bool.Decides.{nat_tests}
use Rattle.std.proofs.lemmas.List.Folds.{list_any_at}
use Rattle.std.proofs.lemmas.List.FromFn.{length-range_with_len, get_or-range_with_len}
use Rattle.std.proofs.lemmas.List.Quantifiers.{position-Some}
use Rattle.mintc_cells.specs.declared.cell.Cell.{Cell}
use Rattle.mintc_cells.specs.Rules.{pins, inputs_of, outputs_of}
use Rattle.mintc_flatten_hierarchy.specs.declared.hierarchy.Hierarchy.{Hierarchy}
use Rattle.mintc_flatten_hierarchy.specs.Shape.{CellTable}
use Rattle.mintc_sdf.specs.declared.delays.Subject.{Subject}
use Rattle.mintc_sdf.specs.declared.delays.Subject.TheVariants as subject
use Rattle.mintc_sdf_edges.specs.declared.delays.EdgeDelay.{EdgeDelay}
use Rattle.mintc_annotate_resolve.specs.Pins.{leaf_cell, when, input_count, output_count, output_pin}
use Rattle.mintc_annotate_resolve.specs.Resolution.{Target, said_by, range_of}
use Rattle.mintc_edges.specs.Matters.{end_of}
use Rattle.mintc_edges.specs.Numbers.{leads_to, merged_range, wider, widest}
use Rattle.mintc_edges.specs.Told.{to_output}
use Rattle.mintc_edges.proofs.CountLaws.{range_more}
use Rattle.mintc_edges.proofs.StoredLaws.{widest-more}
use Rattle.mintc_edges.proofs.WiderLaws.{said-append, wider-filters}

filter-same : {X : Type 0} (p q : X → Bool) (xs : List X) → ((x : X) → p x ≡ q x) → filter p xs ≡ filter q xs
filter-same p q [] same = refl
filter-same p q (x ∷ xs) same = ap (λ b. cond b (x ∷ filter p xs) (filter p xs)) (same x) ∙ ap (λ ys. cond (q x) (x ∷ ys) ys) (filter-same p q xs same)

filter-none : {X : Type 0} (xs : List X) → filter (λ x. false) xs ≡ []
filter-none [] = refl
filter-none (x ∷ xs) = filter-none xs

or-end : (a b : Bool) → (a || (b || false)) ≡ (a || b)
or-end true b = refl
or-end false true = refl
or-end false false = refl

any-append : (p : ℕ → Bool) (xs : List ℕ) (x : ℕ) → list_any p (xs ++ x ∷ []) ≡ (list_any p xs || p x)
any-append p [] x = or-end false (p x)
any-append p (y ∷ xs) x = by (p y) (any-append p xs x)
  where
    by : (b : Bool) → list_any p (xs ++ x ∷ []) ≡ (list_any p xs || p x) → (b || list_any p (xs ++ x ∷ [])) ≡ ((b || list_any p xs) || p x)
    by true rest = refl
    by false rest = rest

-- an output pin of a name is among the outputs
pub output-among : (cell : Cell) (name : List ℕ) (o : ℕ) → output_pin cell name ≡ Some o → (input_count cell ≤ o) × (o < input_count cell + output_count cell) × (bytes_eq name (get_or (pins cell) o []) ≡ true)
output-among cell name o is = by (position (bytes_eq name) (pins cell)) refl is
  where
    count : input_count cell + output_count cell ≡ length (pins cell)
    count = sym (length-append (inputs_of cell) (outputs_of cell))

    placed : (i : ℕ) → position (bytes_eq name) (pins cell) ≡ Some i → (b : Bool) → nat_le (input_count cell) i ≡ b → cond b (Some i) None ≡ Some o →
        (input_count cell ≤ o) × (o < input_count cell + output_count cell) × (bytes_eq name (get_or (pins cell) o []) ≡ true)
    placed i at true test e =
        let same : i ≡ o = cc in
        let found = position-Some (bytes_eq name) (pins cell) i [] at in
        (grind (arith, nat_tests, test, same), omega (arith, found.0, count, same), subst (λ v. bytes_eq name (get_or (pins cell) v []) ≡ true) same found.1)
    placed i at false test e = absurd (cc)

    by : (r : Option ℕ) → position (bytes_eq name) (pins cell) ≡ r → option_and_then (λ i. when (nat_le (input_count cell) i) i) r ≡ Some o →
        (input_count cell ≤ o) × (o < input_count cell + output_count cell) × (bytes_eq name (get_or (pins cell) o []) ≡ true)
    by None at e = absurd (cc)
    by (Some i) at e = placed i at (nat_le (input_count cell) i) refl e

module _ (h : Hierarchy) (cells : CellTable) (l : ℕ) (m : Target) (quiet : (d : EdgeDelay) → end_of h cells l d.delay.subject ≡ None → range_of (said_by h cells d.delay) m ≡ None) where
  abbrev k : ℕ
  k = input_count (leaf_cell h cells l)

  abbrev n : ℕ
  n = output_count (leaf_cell h cells l)

  -- whether a delay leads to an output of leaf l, which is counted among its outputs
  abbrev leads : EdgeDelay → ℕ → Bool
  leads d j = leads_to (slice_index_or (pins (leaf_cell h cells l)) (k + j) []) d.delay.subject

  abbrev leads-some : ℕ → EdgeDelay → Bool
  leads-some j d = list_any (leads d) (range_with_len 0 j)

  more : (j : ℕ) (d : EdgeDelay) → leads-some (j + 1) d ≡ (leads-some j d || leads d j)
  more j d = ap (list_any (leads d)) (range_more j) ∙ any-append (leads d) (range_with_len 0 j) j

  -- what they say to the first outputs
  firsts : (ds : List EdgeDelay) (j : ℕ) → widest (map (λ o. merged_range h cells (to_output h cells l (k + o) ds) m) (range_with_len 0 j)) ≡ merged_range h cells (filter (leads-some j) ds) m
  firsts ds zero = sym (ap (λ xs. merged_range h cells xs m) (filter-none ds))
  firsts ds (suc j) =
      let next : suc j ≡ j + 1 = omega arith in
      let step : widest (map (λ o. merged_range h cells (to_output h cells l (k + o) ds) m) (range_with_len 0 (j + 1))) ≡ merged_range h cells (filter (leads-some (j + 1)) ds) m =
      widest-more (λ o. merged_range h cells (to_output h cells l (k + o) ds) m) j
      ∙ ap (λ v. wider v (merged_range h cells (to_output h cells l (k + j) ds) m)) (firsts ds j)
      ∙ wider-filters h cells m (leads-some j) (λ d. leads d j) ds
      ∙ ap (λ xs. merged_range h cells xs m) (sym (filter-same (leads-some (j + 1)) (λ d. leads-some j d || leads d j) ds (more j))) in
      subst (λ v. widest (map (λ o. merged_range h cells (to_output h cells l (k + o) ds) m) (range_with_len 0 v)) ≡ merged_range h cells (filter (leads-some v) ds) m) (sym next) step

  -- a delay that leads to none of them ends nowhere
  ends-nowhere : (s : Subject) → list_any (λ j. leads_to (slice_index_or (pins (leaf_cell h cells l)) (k + j) []) s) (range_with_len 0 n) ≡ false → end_of h cells l s ≡ None
  ends-nowhere (subject.Iopath from to) none = by (output_pin (leaf_cell h cells l) to) refl
    where
      by : (r : Option ℕ) → output_pin (leaf_cell h cells l) to ≡ r → r ≡ None
      by None e = refl
      by (Some o) e =
          let among = output-among (leaf_cell h cells l) to o e in
          let place : k + (o - k) ≡ o = omega (arith, among.0) in
          let test : bytes_eq to (get_or (pins (leaf_cell h cells l)) (k + (o - k)) []) ≡ true = subst (λ v. bytes_eq to (get_or (pins (leaf_cell h cells l)) v []) ≡ true) (sym place) among.2 in
          let small : o - k < n = omega (arith, among.0, among.1) in
          let at : get_or (range_with_len 0 n) (o - k) 0 ≡ o - k = get_or-range_with_len 0 n (o - k) 0 small ∙ omega arith in
          let yes : list_any (λ j. leads_to (slice_index_or (pins (leaf_cell h cells l)) (k + j) []) (subject.Iopath from to)) (range_with_len 0 n) ≡ true =
          list_any_at (λ j. leads_to (slice_index_or (pins (leaf_cell h cells l)) (k + j) []) (subject.Iopath from to)) (range_with_len 0 n) (o - k) 0 (rw (length-range_with_len 0 n) small)
          (subst (λ v. bytes_eq to (get_or (pins (leaf_cell h cells l)) (k + v) []) ≡ true) (sym at) test) in
          absurd (let both_ways : true ≡ false = sym yes ∙ none in cc)
  ends-nowhere (subject.Interconnect to) none = refl
  ends-nowhere (subject.Port pin) none = refl
  ends-nowhere (subject.Setup pin) none = refl
  ends-nowhere (subject.Hold pin) none = refl
  ends-nowhere (subject.Width pin) none = refl

  -- so the others say nothing
  quiet-rest : (ds : List EdgeDelay) → merged_range h cells (filter (leads-some n) ds) m ≡ merged_range h cells ds m
  quiet-rest [] = refl
  quiet-rest (d ∷ ds) = by (leads-some n d) refl (quiet-rest ds)
    where
      whole : (xs : List EdgeDelay) → merged_range h cells (d ∷ xs) m ≡ wider (range_of (said_by h cells d.delay) m) (merged_range h cells xs m)
      whole xs = said-append (said_by h cells d.delay) _ m

      by : (b : Bool) → leads-some n d ≡ b → merged_range h cells (filter (leads-some n) ds) m ≡ merged_range h cells ds m →
          merged_range h cells (cond b (d ∷ filter (leads-some n) ds) (filter (leads-some n) ds)) m ≡ merged_range h cells (d ∷ ds) m
      by true e rest = whole (filter (leads-some n) ds) ∙ ap (wider (range_of (said_by h cells d.delay) m)) rest ∙ sym (whole ds)
      by false e rest = rest ∙ sym (whole ds ∙ ap (λ v. wider v (merged_range h cells ds m)) (quiet d (ends-nowhere d.delay.subject e)))

  pub outputs-whole : (ds : List EdgeDelay) → widest (map (λ o. merged_range h cells (to_output h cells l (k + o) ds) m) (range_with_len 0 n)) ≡ merged_range h cells ds m
  outputs-whole ds = firsts ds n ∙ quiet-rest ds
