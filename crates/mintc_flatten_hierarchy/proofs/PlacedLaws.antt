-- The bits that an expression stands for are bits of its module's nets, where its names are the module's and its selects fit.
use Rattle.std.proofs.Common.{◌≡◌, ℕ, zero, suc, ◌+◌, ◌-◌, ◌<◌, ◌≤◌, nat_le, min, max, Bool, true, false, ◌&&◌, ◌||◌, cond, List, [], ◌∷◌, ◌++◌, map, length, reverse, replicate, bytes_eq, Option, Some, None, IfSome, refl, sym, ap, ◌∙◌, subst, arith, if◌then◌else◌}
use Rattle.std.specs.List.{All, flat_map, list_any, list_all, range_with_len, position_or_len}
use Rattle.std.specs.Int.{abs_diff}
use Rattle.std.specs.Option.{option_map}
use Rattle.std.proofs.lemmas.Bool.Decides.{nat_tests}
use Rattle.std.proofs.lemmas.List.Elements.{All-nil, All-cons, All-head, All-tail, All-same, All-append, All-push, All-map, All-replicate}
use Rattle.std.proofs.lemmas.List.Folds.{list_any-append}
use Rattle.std.proofs.lemmas.List.{map-append}
use Rattle.std.proofs.lemmas.Slice.Eq.{bytes_eq-Decides}
use mathlib.Core.List.{reverse-cons}
use Rattle.mintc_netlist.specs.declared.expression.Span.{Span}
use Rattle.mintc_netlist.specs.declared.expression.Piece.{Piece}
use Rattle.mintc_netlist.specs.declared.expression.Piece.TheVariants as piece
use Rattle.mintc_netlist.specs.declared.module.Module.{Module}
use Rattle.mintc_text_names.specs.Names.{is_among}
use Rattle.mintc_netlist.specs.Again.{firsts_after}
use Rattle.mintc_netlist.specs.Nets.{Bit, bit_of, is_bit, bits_of, indexes, range_of, names_of, nets_of, place_of, piece_names}
use Rattle.mintc_netlist.specs.Expressions.{span_from, piece_bits, expression_places, is_inside, runs_alike, is_part, piece_fits}
use Rattle.mintc_netlist_nets.specs.Tables.{bit_count, offset_of}
use Rattle.mintc_netlist_nets.proofs.SharedIndexLaws.{any_below}
use Rattle.mintc_netlist_nets.proofs.SharedSpanLaws.{bits_count, offset_below}
use Rattle.mintc_netlist_nets.proofs.SharedTableLaws.{any_at, within_place}

-- a place of a bit of the module's nets, and a name of one of them
abbrev pub IsPlace : Module → Option ℕ → Type 0
IsPlace m o = IfSome o (λ at. at < length (nets_of m))

abbrev pub IsKnown : Module → List ℕ → Type 0
IsKnown m name = is_among name (names_of m) ≡ true

-- lists, turned round, flattened and in parts
pub all_reverse : {X : Type 0} (P : X → Type 0) (xs : List X) → All P xs → All P (reverse xs)
all_reverse P [] h = All-nil P
all_reverse P (x ∷ xs) h = All-same P (reverse (x ∷ xs)) (reverse xs ++ x ∷ []) (reverse-cons x xs) (All-push P (reverse xs) x (all_reverse P xs (All-tail P x xs h)) (All-head P x xs h))

pub all_flat : {X Y : Type 0} (P : Y → Type 0) (f : X → List Y) (xs : List X) → All (λ x. All P (f x)) xs → All P (flat_map f xs)
all_flat P f [] h = All-nil P
all_flat P f (x ∷ xs) h = All-append P (f x) (flat_map f xs) (All-head (λ x. All P (f x)) x xs h) (all_flat P f xs (All-tail (λ x. All P (f x)) x xs h))

pub all_left : {X : Type 0} (P : X → Type 0) (xs ys : List X) → All P (xs ++ ys) → All P xs
all_left P [] ys h = All-nil P
all_left P (x ∷ xs) ys h = All-cons P x xs (All-head P x (xs ++ ys) h) (all_left P xs ys (All-tail P x (xs ++ ys) h))

pub all_right : {X : Type 0} (P : X → Type 0) (xs ys : List X) → All P (xs ++ ys) → All P ys
all_right P [] ys h = h
all_right P (x ∷ xs) ys h = all_right P xs ys (All-tail P x (xs ++ ys) h)

-- the indexes of a range lie in it
range_all : (P : ℕ → Type 0) (a n : ℕ) → ((i : ℕ) → a ≤ i → i < a + n → P i) → All P (range_with_len a n)
range_all P a zero h = All-nil P
range_all P a (suc n) h = All-cons P a (range_with_len (a + 1) n) (h a (omega arith) (omega arith)) (range_all P (a + 1) n (λ i low high. h i (omega arith) (omega arith)))

up_inside : (a b i : ℕ) → nat_le b a ≡ true → b ≤ i → i < b + (a - b + 1) → (nat_le (min a b) i && nat_le i (max a b)) ≡ true
up_inside a b i up low high = grind (arith, nat_tests)

down_inside : (a b i : ℕ) → nat_le b a ≡ false → a ≤ i → i < a + (b - a + 1) → (nat_le (min a b) i && nat_le i (max a b)) ≡ true
down_inside a b i down low high = grind (arith, nat_tests)

indexes_by : (a b : ℕ) (t : Bool) → nat_le b a ≡ t →
    All (λ i. (nat_le (min a b) i && nat_le i (max a b)) ≡ true) (if t then range_with_len b (a - b + 1) else reverse (range_with_len a (b - a + 1)))
indexes_by a b true up = range_all (λ i. (nat_le (min a b) i && nat_le i (max a b)) ≡ true) b (a - b + 1) (λ i low high. up_inside a b i up low high)
indexes_by a b false down = all_reverse (λ i. (nat_le (min a b) i && nat_le i (max a b)) ≡ true) (range_with_len a (b - a + 1))
    (range_all (λ i. (nat_le (min a b) i && nat_le i (max a b)) ≡ true) a (b - a + 1) (λ i low high. down_inside a b i down low high))

indexes-inside : (s : Span) → All (λ i. is_inside s i ≡ true) (indexes s)
indexes-inside s = indexes_by s.msb s.lsb (nat_le s.lsb s.msb) refl

part_inside : (a b c d i : ℕ) → (nat_le (min a b) c && nat_le c (max a b)) ≡ true → (nat_le (min a b) d && nat_le d (max a b)) ≡ true → (nat_le (min c d) i && nat_le i (max c d)) ≡ true →
    (nat_le (min a b) i && nat_le i (max a b)) ≡ true
part_inside a b c d i h k e = grind (arith, nat_tests)

-- what is in a part of a list is in the list
or_true : (b c : Bool) → c ≡ true → (b || c) ≡ true
or_true true c h = refl
or_true false c h = h

or_front : (b c : Bool) → b ≡ true → (b || c) ≡ true
or_front true c h = refl
or_front false c h = cc

or_back : (b c : Bool) → (b || c) ≡ true → b ≡ false → c ≡ true
or_back true c h e = cc
or_back false c h e = h

any_flat_by : {Y : Type 0} (test : Y → Bool) (f : List ℕ → List Y) (name n : List ℕ) (ns : List (List ℕ)) (b : Bool) → bytes_eq name n ≡ b → list_any test (f name) ≡ true →
    (b ≡ false → list_any test (flat_map f ns) ≡ true) → list_any test (f n ++ flat_map f ns) ≡ true
any_flat_by test f name n ns true e here more =
    let one : name ≡ n = (bytes_eq-Decides name n).0 e in
    list_any-append test (f n) (flat_map f ns) ∙ or_front (list_any test (f n)) (list_any test (flat_map f ns)) (subst (λ (x : List ℕ). list_any test (f x) ≡ true) one here)
any_flat_by test f name n ns false e here more = list_any-append test (f n) (flat_map f ns) ∙ or_true (list_any test (f n)) (list_any test (flat_map f ns)) (more refl)

any_flat : {Y : Type 0} (test : Y → Bool) (f : List ℕ → List Y) (name : List ℕ) (names : List (List ℕ)) → list_any (bytes_eq name) names ≡ true → list_any test (f name) ≡ true →
    list_any test (flat_map f names) ≡ true
any_flat test f name [] known here = cc
any_flat test f name (n ∷ ns) known here =
    any_flat_by test f name n ns (bytes_eq name n) refl here (λ e. any_flat test f name ns (or_back (bytes_eq name n) (list_any (bytes_eq name) ns) known e) here)

-- A bit of a range of a net of the module has a place.
pub bit_placed : (m : Module) (name : List ℕ) (index : Option ℕ) (at : ℕ) → IsKnown m name → offset_of (range_of m name) index ≡ Some at → place_of m (bit_of name index) < length (nets_of m)
bit_placed m name index at known is =
    let place = within_place name (range_of m name) index at is in
    let below : at < bit_count (range_of m name) = subst (λ (o : Option ℕ). IfSome o (λ x. x < bit_count (range_of m name))) is (offset_below (range_of m name) index) in
    let count = bits_count name (range_of m name) in
    let inside : position_or_len (is_bit (bit_of name index)) (bits_of name (range_of m name)) < length (bits_of name (range_of m name)) = omega (arith, place, below, count) in
    any_below (is_bit (bit_of name index)) (nets_of m)
    (any_flat (is_bit (bit_of name index)) (λ n. bits_of n (range_of m n)) name (names_of m) known (any_at (is_bit (bit_of name index)) (bits_of name (range_of m name)) inside))

offset_in : (s : Span) (i : ℕ) → is_inside s i ≡ true → offset_of (Some s) (Some i) ≡ Some (abs_diff i s.lsb)
offset_in s i h = ap (λ (b : Bool). cond b (Some (abs_diff i s.lsb)) None) h

-- the bits of a name, those of its whole range and those of indexes within it
pub index_placed : (m : Module) (name : List ℕ) (s : Span) (i : ℕ) → IsKnown m name → range_of m name ≡ Some s → is_inside s i ≡ true → place_of m (bit_of name (Some i)) < length (nets_of m)
index_placed m name s i known range inside = bit_placed m name (Some i) (abs_diff i s.lsb) known (ap (λ (o : Option Span). offset_of o (Some i)) range ∙ offset_in s i inside)

name_by : (m : Module) (name : List ℕ) (o : Option Span) → IsKnown m name → range_of m name ≡ o → All (λ b. place_of m b < length (nets_of m)) (bits_of name o)
name_by m name None known range =
    All-cons (λ b. place_of m b < length (nets_of m)) (bit_of name None) [] (bit_placed m name None 0 known (ap (λ (o : Option Span). offset_of o None) range)) (All-nil (λ b. place_of m b < length (nets_of m)))
name_by m name (Some s) known range = All-map (λ b. place_of m b < length (nets_of m)) (λ i. bit_of name (Some i)) (indexes s) (each (indexes s) (indexes-inside s))
  where
    each : (is : List ℕ) → All (λ i. is_inside s i ≡ true) is → All (λ i. place_of m (bit_of name (Some i)) < length (nets_of m)) is
    each [] h = All-nil (λ i. place_of m (bit_of name (Some i)) < length (nets_of m))
    each (i ∷ is) h = All-cons (λ i. place_of m (bit_of name (Some i)) < length (nets_of m)) i is
        (index_placed m name s i known range (All-head (λ i. is_inside s i ≡ true) i is h)) (each is (All-tail (λ i. is_inside s i ≡ true) i is h))

pub name_placed : (m : Module) (name : List ℕ) → IsKnown m name → All (λ b. place_of m b < length (nets_of m)) (bits_of name (range_of m name))
name_placed m name known = name_by m name (range_of m name) known refl

and_left : (b c : Bool) → (b && c) ≡ true → b ≡ true
and_left true c h = refl
and_left false c h = cc

and_right : (b c : Bool) → (b && c) ≡ true → c ≡ true
and_right true c h = h
and_right false c h = cc

part_by : (m : Module) (name : List ℕ) (p : Span) (o : Option Span) → IsKnown m name → range_of m name ≡ o → is_part o p ≡ true → All (λ i. place_of m (bit_of name (Some i)) < length (nets_of m)) (indexes p)
part_by m name p None known range fits = cc
part_by m name p (Some s) known range fits = each (indexes p) (indexes-inside p)
  where
    ends : (is_inside s p.msb && is_inside s p.lsb) ≡ true
    ends = and_left (is_inside s p.msb && is_inside s p.lsb) (runs_alike s p) fits

    each : (is : List ℕ) → All (λ i. is_inside p i ≡ true) is → All (λ i. place_of m (bit_of name (Some i)) < length (nets_of m)) is
    each [] h = All-nil (λ i. place_of m (bit_of name (Some i)) < length (nets_of m))
    each (i ∷ is) h = All-cons (λ i. place_of m (bit_of name (Some i)) < length (nets_of m)) i is
        (index_placed m name s i known range
        (part_inside s.msb s.lsb p.msb p.lsb i (and_left (is_inside s p.msb) (is_inside s p.lsb) ends) (and_right (is_inside s p.msb) (is_inside s p.lsb) ends) (All-head (λ i. is_inside p i ≡ true) i is h)))
        (each is (All-tail (λ i. is_inside p i ≡ true) i is h))

-- the bits of a piece, and of an expression
some_bits : (m : Module) (bits : List Bit) → All (λ b. place_of m b < length (nets_of m)) bits → All (IsPlace m) (map (option_map (place_of m)) (map Some bits))
some_bits m bits h = All-map (IsPlace m) (option_map (place_of m)) (map Some bits) (All-map (λ o. IsPlace m (option_map (place_of m) o)) Some bits h)

bit_inside : (m : Module) (name : List ℕ) (at : ℕ) (o : Option Span) → IsKnown m name → range_of m name ≡ o → is_part o (span_from at at) ≡ true → place_of m (bit_of name (Some at)) < length (nets_of m)
bit_inside m name at None known range fits = cc
bit_inside m name at (Some s) known range fits =
    index_placed m name s at known range (and_left (is_inside s at) (is_inside s at) (and_left (is_inside s at && is_inside s at) (runs_alike s (span_from at at)) fits))

piece_placed : (m : Module) (p : Piece) → All (IsKnown m) (piece_names p) → piece_fits m p ≡ true → All (IsPlace m) (map (option_map (place_of m)) (piece_bits m p))
piece_placed m (piece.Net name) known fits = some_bits m (bits_of name (range_of m name)) (name_placed m name (All-head (IsKnown m) name [] known))
piece_placed m (piece.Bit name at) known fits =
    some_bits m (bit_of name (Some at) ∷ []) (All-cons (λ b. place_of m b < length (nets_of m)) (bit_of name (Some at)) [] (bit_inside m name at (range_of m name) (All-head (IsKnown m) name [] known) refl fits)
    (All-nil (λ b. place_of m b < length (nets_of m))))
piece_placed m (piece.Part name msb lsb) known fits =
    some_bits m (map (λ i. bit_of name (Some i)) (indexes (span_from msb lsb)))
    (All-map (λ b. place_of m b < length (nets_of m)) (λ i. bit_of name (Some i)) (indexes (span_from msb lsb)) (part_by m name (span_from msb lsb) (range_of m name) (All-head (IsKnown m) name [] known) refl fits))
piece_placed m (piece.Constant width) known fits = All-map (IsPlace m) (option_map (place_of m)) (replicate width None) (All-replicate (λ o. IsPlace m (option_map (place_of m) o)) width None tt)

abbrev IsPlacedPiece : Module → Piece → Type 0
IsPlacedPiece m p = All (λ o. IsPlace m (option_map (place_of m) o)) (piece_bits m p)

pieces_placed : (m : Module) (pieces : List Piece) → All (IsKnown m) (flat_map piece_names pieces) → list_all (piece_fits m) pieces ≡ true → All (λ p. All (IsPlace m) (map (option_map (place_of m)) (piece_bits m p))) pieces
pieces_placed m [] known fit = All-nil (λ p. All (IsPlace m) (map (option_map (place_of m)) (piece_bits m p)))
pieces_placed m (p ∷ pieces) known fit =
    All-cons (λ p. All (IsPlace m) (map (option_map (place_of m)) (piece_bits m p))) p pieces
    (piece_placed m p (all_left (IsKnown m) (piece_names p) (flat_map piece_names pieces) known) (and_left (piece_fits m p) (list_all (piece_fits m) pieces) fit))
    (pieces_placed m pieces (all_right (IsKnown m) (piece_names p) (flat_map piece_names pieces) known) (and_right (piece_fits m p) (list_all (piece_fits m) pieces) fit))

flat_places : (m : Module) (ps : List Piece) → All (λ p. All (IsPlace m) (map (option_map (place_of m)) (piece_bits m p))) ps → All (IsPlace m) (map (option_map (place_of m)) (flat_map (piece_bits m) ps))
flat_places m [] h = All-nil (IsPlace m)
flat_places m (p ∷ ps) h =
    All-same (IsPlace m) (map (option_map (place_of m)) (piece_bits m p ++ flat_map (piece_bits m) ps)) (map (option_map (place_of m)) (piece_bits m p) ++ map (option_map (place_of m)) (flat_map (piece_bits m) ps))
    (map-append (option_map (place_of m)) (piece_bits m p) (flat_map (piece_bits m) ps))
    (All-append (IsPlace m) (map (option_map (place_of m)) (piece_bits m p)) (map (option_map (place_of m)) (flat_map (piece_bits m) ps))
    (All-head (λ p. All (IsPlace m) (map (option_map (place_of m)) (piece_bits m p))) p ps h) (flat_places m ps (All-tail (λ p. All (IsPlace m) (map (option_map (place_of m)) (piece_bits m p))) p ps h)))

pub expression_placed : (m : Module) (pieces : List Piece) → All (IsKnown m) (flat_map piece_names pieces) → list_all (piece_fits m) pieces ≡ true → All (IsPlace m) (expression_places m pieces)
expression_placed m pieces known fit =
    flat_places m (reverse pieces) (all_reverse (λ p. All (IsPlace m) (map (option_map (place_of m)) (piece_bits m p))) pieces (pieces_placed m pieces known fit))

-- The names of ports, of declared nets and of statements are names of the module's nets.
firsts_by : (name x : List ℕ) (seen xs : List (List ℕ)) (b c : Bool) → is_among x seen ≡ b → bytes_eq name x ≡ c → (c || is_among name xs) ≡ true → is_among name seen ≡ false →
    (is_among name xs ≡ true → is_among name (firsts_after seen xs) ≡ true) → (is_among name xs ≡ true → (c || is_among name seen) ≡ false → is_among name (firsts_after (x ∷ seen) xs) ≡ true) →
    is_among name (cond b (firsts_after seen xs) (x ∷ firsts_after (x ∷ seen) xs)) ≡ true
firsts_by name x seen xs true true among same h new more other =
    let one : name ≡ x = (bytes_eq-Decides name x).0 same in
    let old : is_among name seen ≡ true = subst (λ (n : List ℕ). is_among n seen ≡ true) (sym one) among in
    cc
firsts_by name x seen xs true false among same h new more other = more h
firsts_by name x seen xs false true among same h new more other = or_front (bytes_eq name x) (is_among name (firsts_after (x ∷ seen) xs)) same
firsts_by name x seen xs false false among same h new more other = or_true (bytes_eq name x) (is_among name (firsts_after (x ∷ seen) xs)) (other h new)

pub firsts-among : (name : List ℕ) (seen xs : List (List ℕ)) → is_among name xs ≡ true → is_among name seen ≡ false → is_among name (firsts_after seen xs) ≡ true
firsts-among name seen [] h new = cc
firsts-among name seen (x ∷ xs) h new =
    firsts_by name x seen xs (is_among x seen) (bytes_eq name x) refl refl h new (λ k. firsts-among name seen xs k new) (λ k e. firsts-among name (x ∷ seen) xs k e)
