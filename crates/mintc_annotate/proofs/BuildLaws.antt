-- Lists that are built item by item.
use Rattle.std.proofs.Common.{◌≡◌, ◌<◌, ◌≤◌, ◌+◌, ℕ, ℤ, zero, suc, Bool, true, false, cond, List, [], ◌∷◌, ◌++◌, length, slice_index_or, get_or, map, flat_map, filter, take, drop, zip, sum_by, unwrap_or, All, refl, sym, ap, ◌∙◌, subst, arith, append_assoc, append-nil, length-append}
use Rattle.std.specs.List.{range_with_len}
use Rattle.std.proofs.lemmas.List.{take_more, map-append, length-map, take-append-drop, get_or-map}
use Rattle.std.proofs.lemmas.List.Elements.{filter-append}
use Rattle.std.proofs.lemmas.List.FromFn.{map-range_with_len_more}
use Rattle.std.proofs.lemmas.List.Sums.{count_by_more_no, sum_by-append}
use Rattle.std.proofs.lemmas.Slice.Zip.{length-zip}
use Rattle.std.proofs.lemmas.Grind.{flat_map-append}
use Rattle.mintc_cells.specs.declared.cell.Cell.TheVariants.{Gate}
use Rattle.mintc_cells.specs.Entries.{cell_at}
use Rattle.mintc_flatten_hierarchy.specs.declared.hierarchy.Hierarchy.{Hierarchy}
use Rattle.mintc_flatten_hierarchy.specs.declared.hierarchy.Leaf.{Leaf}
use Rattle.mintc_flatten_hierarchy.specs.declared.hierarchy.TopPort.{TopPort}
use Rattle.mintc_flatten_hierarchy.specs.declared.hierarchy.Join.{Join}
use Rattle.mintc_flatten_hierarchy.specs.declared.hierarchy.Scope.{Scope}
use Rattle.mintc_flatten_hierarchy.specs.Shape.{CellTable, IsPort}
use Rattle.mintc_clock.specs.declared.clock.Listed.{Listed}
use Rattle.mintc_timing.specs.declared.parts.Element.{Element}
use Rattle.mintc_timing.specs.declared.parts.TimingArc.{TimingArc}
use Rattle.mintc_timing.specs.declared.parts.Bound.{Bound}
use Rattle.mintc_timing.specs.Design.{design_of}
use Rattle.mintc_annotate_resolve.specs.Pins.{leaf_at, leaf_cell, all_leaves, is_storage, scope_at, scope_path, leaf_path, dotted}
use Rattle.mintc_annotate_resolve.specs.Names.{front_of}
use Rattle.mintc_annotate_resolve.proofs.SharedNameLaws.{HasParents, path_below, front_push}
use Rattle.mintc_annotate.specs.declared.listing.ListedBit.{ListedBit}
use Rattle.mintc_annotate.specs.ClockPorts.{listed_in}
use Rattle.mintc_annotate.specs.Phases.{storage}
use Rattle.mintc_annotate.specs.Counts.{no_listed, place_bit, with_port}
use Rattle.mintc_annotate.specs.Gathered.{AreBits}
use Rattle.mintc_annotate.specs.Made.{RangeOf, bits_in, bits_of, number_in, element_of, elements_at, storage_elements, pin_arc, join_arc, leaf_arcs, input_arcs, output_arcs, arcs_with}
use Rattle.mintc_annotate.proofs.SharedTraceLaws.{stored, stored_more, stored_split, stored_all, leaf_number, within_all}
use Rattle.mintc_annotate.proofs.SearchLaws.{range_more, cells_more}
use Rattle.mintc_annotate.proofs.PartLimits.{all_bits}

-- one more of a map over numbers
pub pushed : {X : Type 0} (f : ℕ → X) (old found more : List X) (x : X) (first k : ℕ) → found ≡ old ++ map f (range_with_len first k) → more ≡ found ++ x ∷ [] → x ≡ f (first + k) → more ≡ old ++ map f (range_with_len first (k + 1))
pushed f old found more x first k so next is = rw (next, so, is, map-range_with_len_more f first k (first + k) refl, append_assoc) refl

pub flat_pushed : {X : Type 0} (f : ℕ → List X) (old found more : List X) (k : ℕ) → found ≡ old ++ flat_map f (range_with_len 0 k) → more ≡ found ++ f k → more ≡ old ++ flat_map f (range_with_len 0 (k + 1))
flat_pushed f old found more k so next = next ∙ ap (λ l. l ++ f k) so ∙ append_assoc old (flat_map f (range_with_len 0 k)) (f k) ∙ ap (λ l. old ++ l) (cells_more f k)

-- a sum over one more number
pub sum_more : (f : ℕ → ℕ) (k : ℕ) → sum_by f (range_with_len 0 (k + 1)) ≡ sum_by f (range_with_len 0 k) + f k
sum_more f k = ap (sum_by f) (range_more k) ∙ sum_by-append f (range_with_len 0 k) (k ∷ []) ∙ omega arith

-- ---- bits of listed ports
place_map : (listed : List Listed) (place : ℕ) (bits : List ℕ) → map (with_port listed) (map (place_bit place) bits) ≡ map (λ b. (slice_index_or listed place no_listed, b)) bits
place_map listed place [] = refl
place_map listed place (b ∷ bits) = ap (λ l. (slice_index_or listed place no_listed, b) ∷ l) (place_map listed place bits)

pub bits_pushed : (ports : List TopPort) (output : Bool) (listed : List Listed) (place : ℕ) (found more : List ListedBit) (bits : List ℕ) → place < length listed → map (with_port listed) found ≡ bits_in ports output (take place listed) →
    more ≡ found ++ map (place_bit place) bits → bits ≡ unwrap_or (listed_in ports output (slice_index_or listed place no_listed)) [] → map (with_port listed) more ≡ bits_in ports output (take (place + 1) listed)
bits_pushed ports output listed place found more bits within so next is =
    rw (next, map-append, so, place_map listed place bits, is, take_more listed place no_listed within, flat_map-append, append-nil) refl

-- ---- latches and flops
zip_push : {A B : Type 0} (xs : List A) (x : A) (ys : List B) (d : B) → length xs < length ys → zip (xs ++ x ∷ []) ys ≡ zip xs ys ++ (x, get_or ys (length xs) d) ∷ []
zip_push [] x [] d less = absurd (omega (arith, less))
zip_push [] x (y ∷ ys) d less = refl
zip_push (z ∷ xs) x [] d less = absurd (omega (arith, less))
zip_push (z ∷ xs) x (y ∷ ys) d less = ap (λ l. (z, y) ∷ l) (zip_push xs x ys d (omega (arith, less)))

front_short : (h : Hierarchy) (cells : CellTable) (k : ℕ) → length (filter (stored h cells) (take k (all_leaves h))) ≤ length (storage h cells)
front_short h cells k =
    omega (
      arith,
      ap length (ap (filter (stored h cells)) (sym (take-append-drop k (all_leaves h))) ∙ filter-append (stored h cells) (take k (all_leaves h)) (drop k (all_leaves h))),
      length-append (filter (stored h cells) (take k (all_leaves h))) (filter (stored h cells) (drop k (all_leaves h))),
    )

pub front_shorter : (h : Hierarchy) (cells : CellTable) (k : ℕ) → k < length h.leaves → stored h cells k ≡ true → length (filter (stored h cells) (take k (all_leaves h))) < length (storage h cells)
front_shorter h cells k within is =
    omega (arith, ap length (stored_split h cells k within is), length-append (filter (stored h cells) (take k (all_leaves h))) (k ∷ filter (stored h cells) (drop (k + 1) (all_leaves h))))

-- so many elements stand there as latches and flops came before
pub front_count : (h : Hierarchy) (cells : CellTable) (ranges : RangeOf) (phases : List ℕ) (found : List Element) (k : ℕ) → length phases ≡ length (storage h cells) →
    found ≡ map (λ x. element_of ranges (dotted (leaf_path h x.0)) x.0 x.1 (leaf_cell h cells x.0)) (zip (filter (stored h cells) (take k (all_leaves h))) phases) → length found ≡ length (filter (stored h cells) (take k (all_leaves h)))
front_count h cells ranges phases found k many so = rw (so, length-map, length-zip) (omega (arith, front_short h cells k, many))

stored_turn : (h : Hierarchy) (cells : CellTable) (ranges : RangeOf) (phases : List ℕ) (found more : List Element) (k : ℕ) (b : Bool) → k < length h.leaves → length phases ≡ length (storage h cells) → stored h cells k ≡ b →
    found ≡ map (λ x. element_of ranges (dotted (leaf_path h x.0)) x.0 x.1 (leaf_cell h cells x.0)) (zip (filter (stored h cells) (take k (all_leaves h))) phases) →
    more ≡ found ++ cond b (element_of ranges (dotted (leaf_path h k)) k (slice_index_or phases (length found) 0) (leaf_cell h cells k) ∷ []) [] →
    more ≡ map (λ x. element_of ranges (dotted (leaf_path h x.0)) x.0 x.1 (leaf_cell h cells x.0)) (zip (filter (stored h cells) (take (k + 1) (all_leaves h))) phases)
stored_turn h cells ranges phases found more k true within many is so next =
    let front : List ℕ = filter (stored h cells) (take k (all_leaves h)) in
    let less : length front < length phases = omega (arith, front_shorter h cells k within is, many) in
    rw (next, front_count h cells ranges phases found k many so, so, stored_more h cells k true within is, zip_push front k phases 0 less, map-append (λ (x : ℕ × ℕ). element_of ranges (dotted (leaf_path h x.0)) x.0 x.1 (leaf_cell h cells x.0)) (zip front phases) ((k, get_or phases (length front) 0) ∷ [])) refl
stored_turn h cells ranges phases found more k false within many is so next = rw (next, so, stored_more h cells k false within is, append-nil, append-nil) refl

pub stored_pushed : (h : Hierarchy) (cells : CellTable) (ranges : RangeOf) (phases : List ℕ) (found more : List Element) (k : ℕ) → k < length h.leaves → length phases ≡ length (storage h cells) →
    found ≡ map (λ x. element_of ranges (dotted (leaf_path h x.0)) x.0 x.1 (leaf_cell h cells x.0)) (zip (filter (stored h cells) (take k (all_leaves h))) phases) →
    more ≡ found ++ elements_at h cells ranges k (slice_index_or phases (length found) 0) →
    more ≡ map (λ x. element_of ranges (dotted (leaf_path h x.0)) x.0 x.1 (leaf_cell h cells x.0)) (zip (filter (stored h cells) (take (k + 1) (all_leaves h))) phases)
stored_pushed h cells ranges phases found more k within many so next = stored_turn h cells ranges phases found more k (stored h cells k) within many refl so next

pub stored_whole : (h : Hierarchy) (cells : CellTable) (ranges : RangeOf) (phases : List ℕ) (found : List Element) (k : ℕ) → length h.leaves ≤ k →
    found ≡ map (λ x. element_of ranges (dotted (leaf_path h x.0)) x.0 x.1 (leaf_cell h cells x.0)) (zip (filter (stored h cells) (take k (all_leaves h))) phases) → found ≡ storage_elements h cells ranges phases
stored_whole h cells ranges phases found k past so = so ∙ ap (λ (l : List ℕ). map (λ x. element_of ranges (dotted (leaf_path h x.0)) x.0 x.1 (leaf_cell h cells x.0)) (zip l phases)) (stored_all h cells k past)

-- the number of the next element
pub number_no : (h : Hierarchy) (cells : CellTable) (k : ℕ) → k < length h.leaves → is_storage (leaf_cell h cells k) ≡ false → number_in h cells (k + 1) ≡ number_in h cells k
number_no h cells k within is = count_by_more_no (λ l. is_storage (leaf_cell h cells l)) (all_leaves h) k 0 (within_all h k within) (ap (λ (l : ℕ). is_storage (leaf_cell h cells l)) (leaf_number h k within) ∙ is)

-- ---- the arcs of a leaf, by its cell
pub gate_leaf : (h : Hierarchy) (cells : CellTable) (ranges : RangeOf) (n l : ℕ) (leaf : Leaf) (inputs outputs : List (List ℕ)) (least most : ℤ) (i o : ℕ) → leaf_at h l ≡ leaf → cell_at cells leaf.cell ≡ Gate inputs outputs least most →
    i ≡ length inputs → o ≡ length outputs → flat_map (λ k. map (pin_arc ranges n l leaf.first_pin (least, most) k) (range_with_len i o)) (range_with_len 0 i) ≡ leaf_arcs h cells ranges n l (leaf_cell h cells l)
gate_leaf h cells ranges n l leaf inputs outputs least most i o at is ins outs =
    let cell : leaf_cell h cells l ≡ Gate inputs outputs least most = ap (λ (x : Leaf). cell_at cells x.cell) at ∙ is in
    rw (ins, outs, cell, ← at) refl

-- all arcs
pub arcs_joined : (h : Hierarchy) (cells : CellTable) (ranges : RangeOf) (s n k : ℕ) (joins : List Join) (ins outs : List Listed) (xs ys : List ListedBit) (a b c d : List TimingArc) → s ≡ length (storage h cells) → n ≡ s + length xs + length ys →
    k ≡ s + length xs → joins ≡ h.joins → a ≡ map (join_arc ranges n) joins → b ≡ a ++ flat_map (λ l. leaf_arcs h cells ranges n l (leaf_cell h cells l)) (all_leaves h) → c ≡ b ++ input_arcs n s (map (with_port ins) xs) →
    d ≡ c ++ output_arcs ranges n k (map (with_port outs) ys) → d ≡ arcs_with h cells ranges (map (with_port ins) xs) (map (with_port outs) ys)
arcs_joined h cells ranges s n k joins ins outs xs ys a b c d stored many first same e1 e2 e3 e4 = rw (e4, e3, e2, e1, same, first, many, stored, length-map xs (with_port ins), length-map ys (with_port outs)) refl

-- ---- names
pub front_below : (h : Hierarchy) (number : ℕ) (scope : Scope) → HasParents h → 1 ≤ number → number < length h.scopes → scope_at h number ≡ scope → front_of (scope_path h number) ≡ front_of (scope_path h scope.parent) ++ (scope.name ++ 46 ∷ [])
front_below h zero scope parents some within at = absurd (omega (arith, some))
front_below h (suc m) scope parents some within at =
    ap front_of (path_below h m parents within) ∙ front_push (scope_path h (scope_at h (suc m)).parent) (scope_at h (suc m)).name ∙ ap (λ (x : Scope). front_of (scope_path h x.parent) ++ (x.name ++ 46 ∷ [])) at

-- ---- what a listed bit names is there
pub are_bits : (h : Hierarchy) (output : Bool) (listed : List Listed) (xs : List ListedBit) → All (IsPort h) h.ports → map (with_port listed) xs ≡ bits_of h output listed → All (λ x. x.place < length listed) xs → AreBits h output listed xs
are_bits h output listed xs shape same places =
    let bits : All (λ (y : Listed × ℕ). y.1 < length h.inner) (map (with_port listed) xs) = subst (All (λ (y : Listed × ℕ). y.1 < length h.inner)) (sym same) (all_bits h output listed shape) in
    record {
      same = same;
      there = λ k e less.
          let bit : (get_or xs k e).bit < length h.inner = subst (λ (y : Listed × ℕ). y.1 < length h.inner) (get_or-map (with_port listed) xs k e (with_port listed e) less) (bits k (with_port listed e) (omega (arith, less, length-map xs (with_port listed)))) in
          (places k e less, bit);
    }

pub as_many_bits : (h : Hierarchy) (output : Bool) (listed : List Listed) (xs : List ListedBit) → AreBits h output listed xs → length xs ≡ length (bits_of h output listed)
as_many_bits h output listed xs are = sym (length-map xs (with_port listed)) ∙ ap length are.same

-- ---- the design by its parts
pub same_design : (ps qs ns ms : List (List ℕ)) (es fs : List Element) (as' bs : List TimingArc) (cs ds : List Bound) → ps ≡ qs → es ≡ fs → ns ≡ ms → as' ≡ bs → cs ≡ ds → design_of ps es ns as' cs ≡ design_of qs fs ms bs ds
same_design ps qs ns ms es fs as' bs cs ds a b c d e = cc
