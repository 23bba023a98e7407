-- The bits of expressions, piece by piece.
use Rattle.std.proofs.Common.{◌≡◌, ℕ, zero, suc, ◌+◌, ◌<◌, List, [], ◌∷◌, ◌++◌, map, take, length, get_or, reverse, replicate, Option, Some, None, refl, sym, ap, ◌∙◌, arith, length-append, append_assoc}
use Rattle.std.specs.List.{flat_map}
use Rattle.std.specs.Option.{option_map}
use Rattle.std.proofs.lemmas.List.{append-nil, take_more, map-append}
use Rattle.std.proofs.lemmas.List.Concat.{flat_map-append}
use mathlib.Core.List.{reverse-cons}
use Rattle.std.proofs.lemmas.Simd.{map-map}
use Rattle.mintc_netlist.specs.declared.expression.Piece.{Piece}
use Rattle.mintc_netlist.specs.declared.module.Module.{Module}
use Rattle.mintc_netlist.specs.Nets.{Bit, bit_of, place_of}
use Rattle.mintc_netlist.specs.Expressions.{piece_bits, width_of}
use Rattle.mintc_netlist_nets.specs.Tables.{bit_place, part_place}

-- how many bits some pieces have, in whatever order
abbrev pub width_in : Module → List Piece → ℕ
width_in m pieces = length (flat_map (piece_bits m) pieces)

pub width_more : (m : Module) (pieces : List Piece) (piece : Piece) → width_in m (pieces ++ piece ∷ []) ≡ width_in m pieces + length (piece_bits m piece)
width_more m pieces piece =
    ap length (flat_map-append (piece_bits m) pieces (piece ∷ []))
    ∙ length-append (flat_map (piece_bits m) pieces) (piece_bits m piece ++ [])
    ∙ ap (λ (bits : List (Option Bit)). length (flat_map (piece_bits m) pieces) + length bits) (append-nil (piece_bits m piece))

pub width_turned : (m : Module) (pieces : List Piece) → width_of m pieces ≡ width_in m pieces
width_turned m [] = refl
width_turned m (piece ∷ pieces) =
    ap (λ (ps : List Piece). length (flat_map (piece_bits m) ps)) (reverse-cons piece pieces)
    ∙ width_more m (reverse pieces) piece
    ∙ ap (λ (n : ℕ). n + length (piece_bits m piece)) (width_turned m pieces)
    ∙ swap (width_in m pieces) (length (piece_bits m piece))
    ∙ sym (length-append (piece_bits m piece) (flat_map (piece_bits m) pieces))
  where
    swap : (a b : ℕ) → a + b ≡ b + a
    swap a b = omega arith

pub width_step : (m : Module) (pieces : List Piece) (k width part : ℕ) (piece : Piece) → k < length pieces → piece ≡ get_or pieces k piece → width ≡ width_in m (take k pieces) → part ≡ length (piece_bits m piece) →
    width + part ≡ width_in m (take (k + 1) pieces)
width_step m pieces k width part piece inside at so_far is =
    let longer : take (k + 1) pieces ≡ take k pieces ++ piece ∷ [] = take_more pieces k piece inside ∙ ap (λ (p : Piece). take k pieces ++ p ∷ []) (sym at) in
    ap (λ (n : ℕ). n + part) so_far ∙ ap (λ (n : ℕ). width_in m (take k pieces) + n) is ∙ sym (width_more m (take k pieces) piece) ∙ sym (ap (width_in m) longer)

-- the places of some bits
abbrev pub places_of : Module → List (Option Bit) → List (Option ℕ)
places_of m bits = map (option_map (place_of m)) bits

pub some_places : (m : Module) (bits : List Bit) → map (bit_place m) bits ≡ places_of m (map Some bits)
some_places m bits = sym (map-map (option_map (place_of m)) Some bits)

pub part_places : (m : Module) (name : List ℕ) (is : List ℕ) → map (part_place m name) is ≡ places_of m (map Some (map (λ i. bit_of name (Some i)) is))
part_places m name is = sym (map-map (bit_place m) (λ i. bit_of name (Some i)) is) ∙ some_places m (map (λ i. bit_of name (Some i)) is)

pub no_places : (m : Module) (n : ℕ) → replicate n None ≡ places_of m (replicate n None)
no_places m zero = refl
no_places m (suc n) = ap (λ (ps : List (Option ℕ)). None ∷ ps) (no_places m n)

pub places_step : (m : Module) (pieces : List Piece) (k : ℕ) (piece : Piece) (start old new : List (Option ℕ)) → k < length pieces → piece ≡ get_or pieces k piece →
    old ≡ start ++ places_of m (flat_map (piece_bits m) (take k pieces)) → new ≡ old ++ places_of m (piece_bits m piece) → new ≡ start ++ places_of m (flat_map (piece_bits m) (take (k + 1) pieces))
places_step m pieces k piece start old new inside at so_far more =
    let longer : take (k + 1) pieces ≡ take k pieces ++ piece ∷ [] = take_more pieces k piece inside ∙ ap (λ (p : Piece). take k pieces ++ p ∷ []) (sym at) in
    let bits : flat_map (piece_bits m) (take (k + 1) pieces) ≡ flat_map (piece_bits m) (take k pieces) ++ piece_bits m piece =
    ap (flat_map (piece_bits m)) longer ∙ flat_map-append (piece_bits m) (take k pieces) (piece ∷ []) ∙ ap (λ (bs : List (Option Bit)). flat_map (piece_bits m) (take k pieces) ++ bs) (append-nil (piece_bits m piece)) in
    more
    ∙ ap (λ (ps : List (Option ℕ)). ps ++ places_of m (piece_bits m piece)) so_far
    ∙ append_assoc start (places_of m (flat_map (piece_bits m) (take k pieces))) (places_of m (piece_bits m piece))
    ∙ ap (λ (ps : List (Option ℕ)). start ++ ps) (sym (map-append (option_map (place_of m)) (flat_map (piece_bits m) (take k pieces)) (piece_bits m piece)) ∙ sym (ap (places_of m) bits))
