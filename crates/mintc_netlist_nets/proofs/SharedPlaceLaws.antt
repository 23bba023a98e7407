-- The place of a bit among the bits of a module's nets: the bits of the nets before its own, and its place in its own.
use Rattle.std.proofs.Common.{◌≡◌, ℕ, suc, ◌+◌, ◌<◌, List, [], ◌∷◌, ◌++◌, map, take, length, Bool, true, false, not, ◌&&◌, ◌||◌, cond, nat_eq, Option, Some, None, bytes_eq, refl, sym, ap, ◌∙◌, subst, arith, zero-add, add_assoc, length-append}
use Rattle.std.specs.List.{list_any, flat_map, position_or_len}
use Rattle.std.specs.Option.{option_eq}
use Rattle.std.proofs.lemmas.Bool.Decides.{nat_tests}
use Rattle.std.proofs.lemmas.List.Folds.{prefix_len-append}
use Rattle.std.proofs.lemmas.Slice.Eq.{bytes_eq-Decides}
use Rattle.mintc_netlist.specs.declared.expression.Span.{Span}
use Rattle.mintc_netlist.specs.declared.module.Module.{Module}
use Rattle.mintc_netlist.specs.Nets.{Bit, bit_of, is_bit, bits_of, indexes, range_of, names_of, place_of}
use Rattle.mintc_netlist_nets.proofs.SharedIndexLaws.{any_below}

-- the first place in two parts, where the first has none and where it has one
none_by : (b : Bool) (n L : ℕ) → b ≡ false → n ≡ L → cond (not b) (1 + n) 0 ≡ suc L
none_by true n L h e = cc
none_by false n L h e = omega arith

or_left : (a b : Bool) → (a || b) ≡ false → a ≡ false
or_left true b h = h
or_left false b h = refl

or_right : (a b : Bool) → (a || b) ≡ false → b ≡ false
or_right true b h = cc
or_right false b h = h

pub none_in : {X : Type 0} (p : X → Bool) (xs : List X) → list_any p xs ≡ false → position_or_len p xs ≡ length xs
none_in p [] h = refl
none_in p (x ∷ xs) h = none_by (p x) (position_or_len p xs) (length xs) (or_left (p x) (list_any p xs) h) (none_in p xs (or_right (p x) (list_any p xs) h))

past_by : (n L m : ℕ) → n ≡ L → cond (nat_eq n L) (L + m) n ≡ L + m
past_by n L m e = grind (arith, nat_tests)

here_by : (n L m : ℕ) → n < L → cond (nat_eq n L) (L + m) n ≡ n
here_by n L m e = grind (arith, nat_tests)

pub place_past : {X : Type 0} (p : X → Bool) (xs ys : List X) → list_any p xs ≡ false → position_or_len p (xs ++ ys) ≡ length xs + position_or_len p ys
place_past p xs ys h = prefix_len-append (λ x. not (p x)) xs ys ∙ past_by (position_or_len p xs) (length xs) (position_or_len p ys) (none_in p xs h)

pub place_here : {X : Type 0} (p : X → Bool) (xs ys : List X) → list_any p xs ≡ true → position_or_len p (xs ++ ys) ≡ position_or_len p xs
place_here p xs ys h = prefix_len-append (λ x. not (p x)) xs ys ∙ here_by (position_or_len p xs) (length xs) (position_or_len p ys) (any_below p xs h)

-- a bit isn't among the bits of a net of another name
apart_by : (b c d : Bool) → b ≡ false → d ≡ false → ((b && c) || d) ≡ false
apart_by true c d h e = cc
apart_by false c d h e = e

apart : (name other : List ℕ) (index : Option ℕ) (is : List ℕ) → bytes_eq name other ≡ false → list_any (is_bit (bit_of name index)) (map (λ i. bit_of other (Some i)) is) ≡ false
apart name other index [] h = refl
apart name other index (i ∷ is) h =
    apart_by (bytes_eq name other) (option_eq nat_eq index (Some i)) (list_any (is_bit (bit_of name index)) (map (λ i. bit_of other (Some i)) is)) h (apart name other index is h)

pub apart_bits : (name other : List ℕ) (index : Option ℕ) (span : Option Span) → bytes_eq name other ≡ false → list_any (is_bit (bit_of name index)) (bits_of other span) ≡ false
apart_bits name other index None h = apart_by (bytes_eq name other) (option_eq nat_eq index None) false h refl
apart_bits name other index (Some s) h = apart name other index (indexes s) h

-- the bits of a net of a module, and the place of a bit in its own net
abbrev pub bits_in : Module → List ℕ → List Bit
bits_in m n = bits_of n (range_of m n)

abbrev pub place_within : Module → List ℕ → Option ℕ → ℕ
place_within m name index = position_or_len (is_bit (bit_of name index)) (bits_in m name)

or_rest : (b a : Bool) → (b || a) ≡ true → b ≡ false → a ≡ true
or_rest true a h e = cc
or_rest false a h e = h

-- The bit stands in the first net of its name, past all nets before it.
place_by : (m : Module) (name : List ℕ) (index : Option ℕ) (n : List ℕ) (ns : List (List ℕ)) (b : Bool) → bytes_eq name n ≡ b → list_any (is_bit (bit_of name index)) (bits_in m name) ≡ true →
    (b ≡ false → position_or_len (is_bit (bit_of name index)) (flat_map (bits_in m) ns) ≡ length (flat_map (bits_in m) (take (position_or_len (bytes_eq name) ns) ns)) + place_within m name index) →
    position_or_len (is_bit (bit_of name index)) (bits_in m n ++ flat_map (bits_in m) ns)
    ≡ length (flat_map (bits_in m) (take (cond (not b) (1 + position_or_len (bytes_eq name) ns) 0) (n ∷ ns))) + place_within m name index
place_by m name index n ns true e there more =
    let one : name ≡ n = (bytes_eq-Decides name n).0 e in
    subst (λ (x : List ℕ). position_or_len (is_bit (bit_of name index)) (bits_in m x ++ flat_map (bits_in m) ns) ≡ 0 + place_within m name index) one
    (place_here (is_bit (bit_of name index)) (bits_in m name) (flat_map (bits_in m) ns) there ∙ sym (zero-add (place_within m name index)))
place_by m name index n ns false e there more =
    let q = position_or_len (bytes_eq name) ns in
    let next : 1 + q ≡ suc q = omega arith in
    let front : take (1 + q) (n ∷ ns) ≡ n ∷ take q ns = ap (λ (k : ℕ). take k (n ∷ ns)) next in
    place_past (is_bit (bit_of name index)) (bits_in m n) (flat_map (bits_in m) ns) (apart_bits name n index (range_of m n) e)
    ∙ ap (λ (x : ℕ). length (bits_in m n) + x) (more refl)
    ∙ sym (add_assoc (length (bits_in m n)) (length (flat_map (bits_in m) (take q ns))) (place_within m name index))
    ∙ ap (λ (x : ℕ). x + place_within m name index) (sym (length-append (bits_in m n) (flat_map (bits_in m) (take q ns))))
    ∙ ap (λ (l : List (List ℕ)). length (flat_map (bits_in m) l) + place_within m name index) (sym front)

place_among : (m : Module) (name : List ℕ) (index : Option ℕ) (ns : List (List ℕ)) → list_any (bytes_eq name) ns ≡ true → list_any (is_bit (bit_of name index)) (bits_in m name) ≡ true →
    position_or_len (is_bit (bit_of name index)) (flat_map (bits_in m) ns) ≡ length (flat_map (bits_in m) (take (position_or_len (bytes_eq name) ns) ns)) + place_within m name index
place_among m name index [] known there = cc
place_among m name index (n ∷ ns) known there =
    place_by m name index n ns (bytes_eq name n) refl there (λ e. place_among m name index ns (or_rest (bytes_eq name n) (list_any (bytes_eq name) ns) known e) there)

-- A bit of a net of the module stands past the bits of all nets before its own, at its place in its own.
pub place_of-is : (m : Module) (name : List ℕ) (index : Option ℕ) → list_any (bytes_eq name) (names_of m) ≡ true → list_any (is_bit (bit_of name index)) (bits_in m name) ≡ true →
    place_of m (bit_of name index) ≡ length (flat_map (bits_in m) (take (position_or_len (bytes_eq name) (names_of m)) (names_of m))) + place_within m name index
place_of-is m name index known there = place_among m name index (names_of m) known there
