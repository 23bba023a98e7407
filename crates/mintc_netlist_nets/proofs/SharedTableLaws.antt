-- The table of a module's nets: what is taken in net by net, and where a bit stands.
use Rattle.std.proofs.Common.{◌≡◌, ℕ, zero, suc, ◌+◌, ◌<◌, ◌≤◌, List, [], ◌∷◌, ◌++◌, map, take, drop, length, get_or, Bool, true, false, not, ◌&&◌, ◌||◌, cond, nat_eq, nat_lt, Option, Some, None, bytes_eq, position, refl, sym, ap, ◌∙◌, subst, arith, zero-add, add_assoc, length-append, append_assoc, IfSome}
use Rattle.std.specs.List.{list_any, flat_map, position_or_len}
use Rattle.std.specs.Int.{abs_diff}
use Rattle.std.proofs.lemmas.Bool.Decides.{nat_tests}
use Rattle.std.proofs.lemmas.List.{append-nil, drop_more, take_more, drop_all, take_all, map-append, get_or-map}
use Rattle.std.proofs.lemmas.List.Concat.{flat_map-append}
use Rattle.std.proofs.lemmas.List.Folds.{list_any-append}
use Rattle.std.proofs.lemmas.Slice.Eq.{bytes_eq-Decides}
use Rattle.mintc_netlist.specs.declared.expression.Span.{Span}
use Rattle.mintc_netlist.specs.declared.module.Module.{Module}
use Rattle.mintc_netlist.specs.Nets.{bit_of, is_bit, bits_of, indexes, range_of, names_of, nets_of, place_of}
use Rattle.mintc_netlist.specs.Expressions.{is_inside}
use Rattle.mintc_netlist_nets.specs.Tables.{bit_count, offset_of, firsts_from}
use Rattle.mintc_netlist_nets.proofs.SharedIndexLaws.{any_below}
use Rattle.mintc_netlist_nets.proofs.SharedPlaceLaws.{none_in, bits_in, place_within, place_of-is, apart_bits}
use Rattle.mintc_netlist_nets.proofs.SharedSpanLaws.{bits_count, index_place, index_absent, offset_below}

-- how many bits some nets have
abbrev pub bits_before : Module → List (List ℕ) → ℕ
bits_before m names = length (flat_map (bits_in m) names)

bits_cons : (m : Module) (name : List ℕ) (names : List (List ℕ)) → bits_before m (name ∷ names) ≡ bit_count (range_of m name) + bits_before m names
bits_cons m name names = length-append (bits_in m name) (flat_map (bits_in m) names) ∙ ap (λ (n : ℕ). n + bits_before m names) (bits_count name (range_of m name))

-- one net more
pub count_step : (m : Module) (names : List (List ℕ)) (k count next : ℕ) (name : List ℕ) → k < length names → name ≡ get_or names k [] → count ≡ bits_before m (take k names) →
    next ≡ count + bit_count (range_of m name) → next ≡ bits_before m (take (k + 1) names)
count_step m names k count next name inside at so_far more =
    let longer : take (k + 1) names ≡ take k names ++ name ∷ [] = take_more names k [] inside ∙ ap (λ (n : List ℕ). take k names ++ n ∷ []) (sym at) in
    let alone : bit_count (range_of m name) ≡ bit_count (range_of m name) + bits_before m [] = omega arith in
    more
    ∙ ap (λ (n : ℕ). n + bit_count (range_of m name)) so_far
    ∙ ap (λ (n : ℕ). bits_before m (take k names) + n) (alone ∙ sym (bits_cons m name []))
    ∙ sym (length-append (flat_map (bits_in m) (take k names)) (flat_map (bits_in m) (name ∷ [])))
    ∙ sym (ap length (flat_map-append (bits_in m) (take k names) (name ∷ [])))
    ∙ sym (ap (bits_before m) longer)

pub firsts_step : (m : Module) (names : List (List ℕ)) (k count next : ℕ) (name : List ℕ) (firsts whole : List ℕ) → k < length names → name ≡ get_or names k [] →
    firsts ++ firsts_from m count (drop k names) ≡ whole → next ≡ count + bit_count (range_of m name) → (firsts ++ count ∷ []) ++ firsts_from m next (drop (k + 1) names) ≡ whole
firsts_step m names k count next name firsts whole inside at left more =
    let here : drop k names ≡ name ∷ drop (k + 1) names = drop_more names k [] inside ∙ ap (λ (n : List ℕ). n ∷ drop (k + 1) names) (sym at) in
    append_assoc firsts (count ∷ []) (firsts_from m next (drop (k + 1) names))
    ∙ ap (λ (n : ℕ). firsts ++ (count ∷ firsts_from m n (drop (k + 1) names))) more
    ∙ sym (ap (λ (ns : List (List ℕ)). firsts ++ firsts_from m count ns) here)
    ∙ left

pub firsts_all : (m : Module) (names : List (List ℕ)) (k count : ℕ) (firsts whole : List ℕ) → length names ≤ k → firsts ++ firsts_from m count (drop k names) ≡ whole → firsts ≡ whole
firsts_all m names k count firsts whole past left =
    sym (append-nil firsts) ∙ sym (ap (λ (ns : List (List ℕ)). firsts ++ firsts_from m count ns) (drop_all k names past)) ∙ left

pub count_all : (m : Module) (names : List (List ℕ)) (k count : ℕ) → length names ≤ k → count ≡ bits_before m (take k names) → count ≡ bits_before m names
count_all m names k count past so_far = so_far ∙ ap (bits_before m) (take_all k names past)

-- the ranges of the nets so far, and of all
pub spans_step : (m : Module) (names : List (List ℕ)) (k : ℕ) (name : List ℕ) (span : Option Span) (spans : List (Option Span)) → k < length names → name ≡ get_or names k [] →
    spans ≡ map (range_of m) (take k names) → span ≡ range_of m name → spans ++ span ∷ [] ≡ map (range_of m) (take (k + 1) names)
spans_step m names k name span spans inside at so_far is =
    let longer : take (k + 1) names ≡ take k names ++ name ∷ [] = take_more names k [] inside ∙ ap (λ (n : List ℕ). take k names ++ n ∷ []) (sym at) in
    ap (λ (s : List (Option Span)). s ++ span ∷ []) so_far
    ∙ ap (λ (s : Option Span). map (range_of m) (take k names) ++ s ∷ []) is
    ∙ sym (map-append (range_of m) (take k names) (name ∷ []))
    ∙ sym (ap (map (range_of m)) longer)

pub spans_all : (m : Module) (names : List (List ℕ)) (k : ℕ) (spans : List (Option Span)) → length names ≤ k → spans ≡ map (range_of m) (take k names) → spans ≡ map (range_of m) names
spans_all m names k spans past so_far = so_far ∙ ap (map (range_of m)) (take_all k names past)

-- the place of the first bit of a net, which has room for its bits
pub firsts_count : (m : Module) (first : ℕ) (names : List (List ℕ)) → length (firsts_from m first names) ≡ length names
firsts_count m first [] = refl
firsts_count m first (name ∷ names) = ap suc (firsts_count m (first + bit_count (range_of m name)) names)

pub first_at : (m : Module) (first : ℕ) (names : List (List ℕ)) (p d : ℕ) → p < length names → get_or (firsts_from m first names) p d ≡ first + bits_before m (take p names)
first_at m first [] p d inside = absurd (omega arith)
first_at m first (name ∷ names) zero d inside = omega arith
first_at m first (name ∷ names) (suc p) d inside =
    first_at m (first + bit_count (range_of m name)) names p d (omega arith)
    ∙ add_assoc first (bit_count (range_of m name)) (bits_before m (take p names))
    ∙ ap (λ (n : ℕ). first + n) (sym (bits_cons m name (take p names)))

pub room_for : (m : Module) (names : List (List ℕ)) (p : ℕ) (d : List ℕ) → p < length names → bits_before m (take p names) + bit_count (range_of m (get_or names p d)) ≤ bits_before m names
room_for m [] p d inside = absurd (omega arith)
room_for m (name ∷ names) zero d inside = omega (arith, bits_cons m name names)
room_for m (name ∷ names) (suc p) d inside = omega (arith, bits_cons m name names, bits_cons m name (take p names), room_for m names p d (omega arith))

-- a place that is found
found_by : (n L p : ℕ) (b : Bool) → nat_lt n L ≡ b → cond b (Some n) None ≡ Some p → (n ≡ p) × (p < L)
found_by n L p true h e = (cc, grind (arith, nat_tests))
found_by n L p false h e = cc

pub found_place : {X : Type 0} (test : X → Bool) (xs : List X) (p : ℕ) → position test xs ≡ Some p → (position_or_len test xs ≡ p) × (p < length xs)
found_place test xs p h = found_by (position_or_len test xs) (length xs) p (nat_lt (position_or_len test xs) (length xs)) refl h

any_by : (b : Bool) (n L : ℕ) → (b ≡ false → n ≡ L) → n < L → b ≡ true
any_by true n L h e = refl
any_by false n L h e = absurd (omega (arith, h refl))

pub any_at : {X : Type 0} (test : X → Bool) (xs : List X) → position_or_len test xs < length xs → list_any test xs ≡ true
any_at test xs h = any_by (list_any test xs) (position_or_len test xs) (length xs) (none_in test xs) h

none_by : (b : Bool) (n L : ℕ) → (b ≡ true → n < L) → L ≤ n → b ≡ false
none_by true n L h e = absurd (omega (arith, h refl))
none_by false n L h e = refl

pub none_past : {X : Type 0} (test : X → Bool) (xs : List X) → length xs ≤ position_or_len test xs → list_any test xs ≡ false
none_past test xs h = none_by (list_any test xs) (position_or_len test xs) (length xs) (any_below test xs) h

missing_by : (n L : ℕ) (b : Bool) → nat_lt n L ≡ b → cond b (Some n) None ≡ None → L ≤ n
missing_by n L true h e = cc
missing_by n L false h e = grind (arith, nat_tests)

pub missing_place : {X : Type 0} (test : X → Bool) (xs : List X) → position test xs ≡ None → list_any test xs ≡ false
missing_place test xs h = none_past test xs (missing_by (position_or_len test xs) (length xs) (nat_lt (position_or_len test xs) (length xs)) refl h)

-- the name at a place that is found
name_by : (name : List ℕ) (n : List ℕ) (ns : List (List ℕ)) (p : ℕ) (b : Bool) → bytes_eq name n ≡ b → cond (not b) (1 + position_or_len (bytes_eq name) ns) 0 ≡ p → p < suc (length ns) →
    (b ≡ false → position_or_len (bytes_eq name) ns < length ns → get_or ns (position_or_len (bytes_eq name) ns) [] ≡ name) → get_or (n ∷ ns) p [] ≡ name
name_by name n ns p true same e inside more = subst (λ (k : ℕ). get_or (n ∷ ns) k [] ≡ name) e (sym ((bytes_eq-Decides name n).0 same))
name_by name n ns p false same e inside more =
    let one : suc (position_or_len (bytes_eq name) ns) ≡ p = omega (arith, e) in
    subst (λ (k : ℕ). get_or (n ∷ ns) k [] ≡ name) one (more refl (omega (arith, inside, one)))

name_at : (name : List ℕ) (ns : List (List ℕ)) → position_or_len (bytes_eq name) ns < length ns → get_or ns (position_or_len (bytes_eq name) ns) [] ≡ name
name_at name [] h = absurd (omega arith)
name_at name (n ∷ ns) h = name_by name n ns (position_or_len (bytes_eq name) (n ∷ ns)) (bytes_eq name n) refl refl h (λ e k. name_at name ns k)

pub found_name : (name : List ℕ) (ns : List (List ℕ)) (p : ℕ) → position (bytes_eq name) ns ≡ Some p → get_or ns p [] ≡ name
found_name name ns p found =
    let here = found_place (bytes_eq name) ns p found in
    subst (λ (k : ℕ). get_or ns k [] ≡ name) here.0 (name_at name ns (subst (λ (k : ℕ). k < length ns) (sym here.0) here.1))

-- the range of a net that is found
pub span_found : (m : Module) (name : List ℕ) (p : ℕ) (d : Option Span) → position (bytes_eq name) (names_of m) ≡ Some p → get_or (map (range_of m) (names_of m)) p d ≡ range_of m name
span_found m name p d found =
    let here = found_place (bytes_eq name) (names_of m) p found in
    get_or-map (range_of m) (names_of m) p [] d here.1 ∙ ap (range_of m) (found_name name (names_of m) p found)

-- the bits of one net
own : (name : List ℕ) → bytes_eq name name ≡ true
own name = (bytes_eq-Decides name name).1 refl

own_by : (b c : Bool) (n : ℕ) → b ≡ true → cond (not (b && c)) (1 + n) 0 ≡ cond (not c) (1 + n) 0
own_by true c n h = refl
own_by false c n h = cc

map_place : (name : List ℕ) (i : ℕ) (is : List ℕ) → position_or_len (is_bit (bit_of name (Some i))) (map (λ j. bit_of name (Some j)) is) ≡ position_or_len (nat_eq i) is
map_place name i [] = refl
map_place name i (j ∷ is) =
    own_by (bytes_eq name name) (nat_eq i j) (position_or_len (is_bit (bit_of name (Some i))) (map (λ j. bit_of name (Some j)) is)) (own name)
    ∙ ap (λ (n : ℕ). cond (not (nat_eq i j)) (1 + n) 0) (map_place name i is)

some_same : (a b : ℕ) → Some a ≡ Some b → a ≡ b
some_same a b h = cc

inside_by : (name : List ℕ) (s : Span) (i at : ℕ) (b : Bool) → is_inside s i ≡ b → cond b (Some (abs_diff i s.lsb)) None ≡ Some at → position_or_len (is_bit (bit_of name (Some i))) (bits_of name (Some s)) ≡ at
inside_by name s i at true h e = map_place name i (indexes s) ∙ index_place s i h ∙ some_same (abs_diff i s.lsb) at e
inside_by name s i at false h e = cc

pub within_place : (name : List ℕ) (span : Option Span) (index : Option ℕ) (at : ℕ) → offset_of span index ≡ Some at → position_or_len (is_bit (bit_of name index)) (bits_of name span) ≡ at
within_place name None None at h = own_by (bytes_eq name name) true 0 (own name) ∙ some_same 0 at h
within_place name None (Some i) at h = cc
within_place name (Some s) None at h = cc
within_place name (Some s) (Some i) at h = inside_by name s i at (is_inside s i) refl h

-- the bits that a net hasn't
and_false : (b : Bool) → (b && false) ≡ false
and_false true = refl
and_false false = refl

or_false : (a b : Bool) → a ≡ false → b ≡ false → (a || b) ≡ false
or_false true b h k = cc
or_false false b h k = k

no_index : (name : List ℕ) (is : List ℕ) → list_any (is_bit (bit_of name None)) (map (λ j. bit_of name (Some j)) is) ≡ false
no_index name [] = refl
no_index name (j ∷ is) = or_false (bytes_eq name name && false) (list_any (is_bit (bit_of name None)) (map (λ j. bit_of name (Some j)) is)) (and_false (bytes_eq name name)) (no_index name is)

own_any : (b c d : Bool) → b ≡ true → ((b && c) || d) ≡ (c || d)
own_any true c d h = refl
own_any false c d h = cc

map_any : (name : List ℕ) (i : ℕ) (is : List ℕ) → list_any (is_bit (bit_of name (Some i))) (map (λ j. bit_of name (Some j)) is) ≡ list_any (nat_eq i) is
map_any name i [] = refl
map_any name i (j ∷ is) =
    own_any (bytes_eq name name) (nat_eq i j) (list_any (is_bit (bit_of name (Some i))) (map (λ j. bit_of name (Some j)) is)) (own name)
    ∙ ap (λ (b : Bool). nat_eq i j || b) (map_any name i is)

outside_by : (name : List ℕ) (s : Span) (i : ℕ) (b : Bool) → is_inside s i ≡ b → cond b (Some (abs_diff i s.lsb)) None ≡ None → list_any (is_bit (bit_of name (Some i))) (bits_of name (Some s)) ≡ false
outside_by name s i true h e = cc
outside_by name s i false h e = map_any name i (indexes s) ∙ index_absent s i h

pub within_none : (name : List ℕ) (span : Option Span) (index : Option ℕ) → offset_of span index ≡ None → list_any (is_bit (bit_of name index)) (bits_of name span) ≡ false
within_none name None None h = cc
within_none name None (Some i) h = or_false (bytes_eq name name && false) false (and_false (bytes_eq name name)) refl
within_none name (Some s) None h = no_index name (indexes s)
within_none name (Some s) (Some i) h = outside_by name s i (is_inside s i) refl h

-- A bit of no net of the module has its place past all of them.
left_false : (a b : Bool) → (a || b) ≡ false → a ≡ false
left_false true b h = cc
left_false false b h = refl

right_false : (a b : Bool) → (a || b) ≡ false → b ≡ false
right_false true b h = cc
right_false false b h = h

none_among : (m : Module) (name : List ℕ) (index : Option ℕ) (ns : List (List ℕ)) → list_any (bytes_eq name) ns ≡ false → list_any (is_bit (bit_of name index)) (flat_map (bits_in m) ns) ≡ false
none_among m name index [] h = refl
none_among m name index (n ∷ ns) h =
    list_any-append (is_bit (bit_of name index)) (bits_in m n) (flat_map (bits_in m) ns)
    ∙ or_false (list_any (is_bit (bit_of name index)) (bits_in m n)) (list_any (is_bit (bit_of name index)) (flat_map (bits_in m) ns))
    (apart_bits name n index (range_of m n) (left_false (bytes_eq name n) (list_any (bytes_eq name) ns) h)) (none_among m name index ns (right_false (bytes_eq name n) (list_any (bytes_eq name) ns) h))

none_of_net : (m : Module) (name : List ℕ) (index : Option ℕ) (n : List ℕ) (b : Bool) → bytes_eq name n ≡ b → list_any (is_bit (bit_of name index)) (bits_in m name) ≡ false → list_any (is_bit (bit_of name index)) (bits_in m n) ≡ false
none_of_net m name index n true e h = subst (λ (x : List ℕ). list_any (is_bit (bit_of name index)) (bits_in m x) ≡ false) ((bytes_eq-Decides name n).0 e) h
none_of_net m name index n false e h = apart_bits name n index (range_of m n) e

none_own : (m : Module) (name : List ℕ) (index : Option ℕ) (ns : List (List ℕ)) → list_any (is_bit (bit_of name index)) (bits_in m name) ≡ false → list_any (is_bit (bit_of name index)) (flat_map (bits_in m) ns) ≡ false
none_own m name index [] h = refl
none_own m name index (n ∷ ns) h =
    list_any-append (is_bit (bit_of name index)) (bits_in m n) (flat_map (bits_in m) ns)
    ∙ or_false (list_any (is_bit (bit_of name index)) (bits_in m n)) (list_any (is_bit (bit_of name index)) (flat_map (bits_in m) ns))
    (none_of_net m name index n (bytes_eq name n) refl h) (none_own m name index ns h)

pub place-no_net : (m : Module) (name : List ℕ) (index : Option ℕ) → position (bytes_eq name) (names_of m) ≡ None → length (nets_of m) ≡ place_of m (bit_of name index)
place-no_net m name index h = sym (none_in (is_bit (bit_of name index)) (nets_of m) (none_among m name index (names_of m) (missing_place (bytes_eq name) (names_of m) h)))

pub place-no_bit : (m : Module) (name : List ℕ) (index : Option ℕ) → offset_of (range_of m name) index ≡ None → length (nets_of m) ≡ place_of m (bit_of name index)
place-no_bit m name index h = sym (none_in (is_bit (bit_of name index)) (nets_of m) (none_own m name index (names_of m) (within_none name (range_of m name) index h)))

-- A bit of a net stands so far from the first one of the net.
below_by : (span : Option Span) (index : Option ℕ) (at : ℕ) (o : Option ℕ) → offset_of span index ≡ o → IfSome o (λ k. k < bit_count span) → o ≡ Some at → at < bit_count span
below_by span index at (Some k) e h g = let same : k ≡ at = some_same k at g in subst (λ (n : ℕ). n < bit_count span) same h
below_by span index at None e h g = cc

at_below : (span : Option Span) (index : Option ℕ) (at : ℕ) → offset_of span index ≡ Some at → at < bit_count span
at_below span index at h = below_by span index at (offset_of span index) refl (offset_below span index) h

pub place-bit : (m : Module) (name : List ℕ) (index : Option ℕ) (p at d : ℕ) → position (bytes_eq name) (names_of m) ≡ Some p → offset_of (range_of m name) index ≡ Some at →
    get_or (firsts_from m 0 (names_of m)) p d + at ≡ place_of m (bit_of name index)
place-bit m name index p at d found offset =
    let here = found_place (bytes_eq name) (names_of m) p found in
    let known : list_any (bytes_eq name) (names_of m) ≡ true = any_at (bytes_eq name) (names_of m) (subst (λ (n : ℕ). n < length (names_of m)) (sym here.0) here.1) in
    let within : place_within m name index ≡ at = within_place name (range_of m name) index at offset in
    let room : place_within m name index < length (bits_in m name) = omega (arith, within, at_below (range_of m name) index at offset, bits_count name (range_of m name)) in
    let there : list_any (is_bit (bit_of name index)) (bits_in m name) ≡ true = any_at (is_bit (bit_of name index)) (bits_in m name) room in
    ap (λ (n : ℕ). n + at) (first_at m 0 (names_of m) p d here.1 ∙ zero-add (bits_before m (take p (names_of m))))
    ∙ ap (λ (n : ℕ). bits_before m (take p (names_of m)) + n) (sym within)
    ∙ ap (λ (n : ℕ). bits_before m (take n (names_of m)) + place_within m name index) (sym here.0)
    ∙ sym (place_of-is m name index known there)

-- Such a place lies among the bits of the module's nets.
pub place-within : (m : Module) (name : List ℕ) (index : Option ℕ) (p at d : ℕ) → position (bytes_eq name) (names_of m) ≡ Some p → offset_of (range_of m name) index ≡ Some at →
    get_or (firsts_from m 0 (names_of m)) p d + at < length (nets_of m)
place-within m name index p at d found offset =
    let here = found_place (bytes_eq name) (names_of m) p found in
    let same : get_or (names_of m) p [] ≡ name = found_name name (names_of m) p found in
    let room = subst (λ (n : List ℕ). bits_before m (take p (names_of m)) + bit_count (range_of m n) ≤ bits_before m (names_of m)) same (room_for m (names_of m) p [] here.1) in
    omega (arith, first_at m 0 (names_of m) p d here.1, at_below (range_of m name) index at offset, room)
