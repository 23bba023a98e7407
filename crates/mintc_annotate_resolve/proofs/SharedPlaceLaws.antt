-- Places by their texts, as a map of them grows.
use Rattle.std.proofs.Common.{◌≡◌, ◌<◌, ◌+◌, ◌==◌, ◌&&◌, ℕ, Bool, true, false, cond, List, [], ◌∷◌, map, find, length, take, get_or, bytes_eq, Option, Some, None, is_some, option_map, refl, sym, ap, ◌∙◌, subst, arith, append-nil, Vec, Global, All}
use Rattle.std.specs.Option.{option_or}
use Rattle.std.specs.HashMap.{HashMap}
use Rattle.std.proofs.lemmas.List.{map-append, length-map, take_more}
use Rattle.std.proofs.lemmas.List.Concat.{flat_map-append}
use Rattle.std.proofs.lemmas.List.Elements.{All-head, All-tail}
use Rattle.std.proofs.lemmas.List.Folds.{find-append}
use Rattle.std.proofs.lemmas.Slice.Eq.{bytes_eq-Decides}
use Rattle.mintc_flatten_hierarchy.specs.declared.hierarchy.Hierarchy.{Hierarchy}
use Rattle.mintc_flatten_hierarchy.specs.declared.hierarchy.TopPort.{TopPort}
use Rattle.mintc_flatten_hierarchy.specs.Shape.{CellTable, IsFlattened}
use Rattle.mintc_annotate_resolve.specs.Pins.{all_names, inner_name}
use Rattle.std.proofs.lemmas.Bool.{eqb-true, and_parts}
use Rattle.mintc_annotate_resolve.specs.declared.ports.PortBit.{PortBit}
use Rattle.mintc_annotate_resolve.specs.Ports.{port_bit, port_bits, whole_port, bit_called, place_of, AreInside}
use Rattle.mintc_annotate_resolve.specs.Places.{place_at, HasPlaces, only, whole_of, among_bits}

-- ---- options
pub or_none : (o : Option PortBit) → o ≡ option_or o None
or_none o = grind arith

pub or_assoc : (a b c : Option PortBit) → option_or (option_or a b) c ≡ option_or a (option_or b c)
or_assoc a b c = grind arith

put_by : (text k : List ℕ) (place : PortBit) (o : Option PortBit) (b : Bool) → (b ≡ true → o ≡ None) → cond b (Some place) o ≡ option_or o (cond b (Some place) None)
put_by text k place o b none = grind arith

is_none : (o : Option PortBit) → is_some o ≡ false → o ≡ None
is_none o no_some = grind arith

module _ {S : Type 0} where
  -- a text that has no place gets one
  pub put_place : (old new : HashMap (Vec ℕ Global) PortBit S) (key : Vec ℕ Global) (text : List ℕ) (place : PortBit) →
      ((q : Vec ℕ Global) → place_at new q.items ≡ cond (bytes_eq key.items q.items) (Some place) (place_at old q.items)) → key.items ≡ text → is_some (place_at old text) ≡ false →
      HasPlaces new (λ k. option_or (place_at old k) (only text place k))
  put_place old new key text place step is absent k its =
      subst (λ (l : List ℕ). place_at new l ≡ cond (bytes_eq text l) (Some place) (place_at old l)) its.1 (step its.0 ∙ ap (λ (w : List ℕ). cond (bytes_eq w its.0.items) (Some place) (place_at old its.0.items)) is)
      ∙ put_by text k place (place_at old k) (bytes_eq text k)
      (λ same. is_none (place_at old k) (subst (λ (l : List ℕ). is_some (place_at old l) ≡ false) ((bytes_eq-Decides text k).0 same) absent))

-- ---- ports of one bit
map_or : (f : TopPort → PortBit) (a b : Option TopPort) → option_map f (option_or a b) ≡ option_or (option_map f a) (option_map f b)
map_or f a b = grind arith

one_port : (f : TopPort → PortBit) (p : TopPort) (b : Bool) → option_map f (cond b (Some p) None) ≡ cond b (Some (f p)) None
one_port f p b = grind arith

abbrev whole_bit : TopPort → PortBit
whole_bit p = port_bit p.output (get_or p.bits 0 0)

abbrev is_whole : List ℕ → TopPort → Bool
is_whole k p = bytes_eq p.name k && (length p.bits == 1)

pub whole_more : (ports : List TopPort) (n : ℕ) (port : TopPort) (k : List ℕ) → n < length ports → port ≡ get_or ports n port → whole_port (take (n + 1) ports) k ≡ option_or (whole_port (take n ports) k) (whole_of port k)
whole_more ports n port k within is = rw (take_more ports n port within, ← is, find-append, map_or, one_port) refl

-- ---- bits
pub among_more : (names : List (List ℕ)) (port : TopPort) (n bit : ℕ) (text k : List ℕ) → n < length port.bits → bit ≡ get_or port.bits n bit → text ≡ get_or names bit [] →
    among_bits names port (take (n + 1) port.bits) k ≡ option_or (among_bits names port (take n port.bits) k) (only text (port_bit port.output bit) k)
among_more names port n bit text k within is called = rw (take_more port.bits n bit within, ← is, map-append, find-append, called) refl

pub called_more : (names : List (List ℕ)) (ports : List TopPort) (n : ℕ) (port : TopPort) (k : List ℕ) → n < length ports → port ≡ get_or ports n port →
    bit_called names (take (n + 1) ports) k ≡ option_or (bit_called names (take n ports) k) (among_bits names port port.bits k)
called_more names ports n port k within is = rw (take_more ports n port within, ← is, flat_map-append, find-append, append-nil) refl

-- ---- places are bits that are there
or_some : (a b : Option PortBit) (p : PortBit) (P : PortBit → Type 0) → option_or a b ≡ Some p → ((q : PortBit) → a ≡ Some q → P q) → ((q : PortBit) → b ≡ Some q → P q) → P p
or_some None b p P is left right = right p is
or_some (Some q) b p P is left right = left p is

within_by : (count : ℕ) (output : Bool) (b : ℕ) (t : Bool) (rest : Option PortBit) (p : PortBit) → cond t (Some (port_bit output b)) rest ≡ Some p → b < count → ((q : PortBit) → rest ≡ Some q → q.bit < count) → p.bit < count
within_by count output b true rest p is below more = let bit : b ≡ p.bit = cc in subst (λ (x : ℕ). x < count) bit below
within_by count output b false rest p is below more = more p is

among_inside : (count : ℕ) (names : List (List ℕ)) (port : TopPort) (bits : List ℕ) (k : List ℕ) (p : PortBit) → All (λ b. b < count) bits → among_bits names port bits k ≡ Some p → p.bit < count
among_inside count names port [] k p inside is = absurd (cc)
among_inside count names port (b ∷ bits) k p inside is =
    within_by count port.output b (bytes_eq (get_or names b []) k) (among_bits names port bits k) p is (All-head (λ b. b < count) b bits inside)
    (λ q found. among_inside count names port bits k q (All-tail (λ b. b < count) b bits inside) found)

called_inside : (count : ℕ) (names : List (List ℕ)) (ports : List TopPort) (k : List ℕ) (p : PortBit) → AreInside count ports → bit_called names ports k ≡ Some p → p.bit < count
called_inside count names [] k p inside is = absurd (cc)
called_inside count names (port ∷ ports) k p inside is =
    or_some (among_bits names port port.bits k) (bit_called names ports k) p (λ q. q.bit < count)
    (sym (find-append (λ p. bytes_eq (get_or names p.bit []) k) (map (port_bit port.output) port.bits) (port_bits ports)) ∙ is)
    (λ q found. among_inside count names port port.bits k q (All-head (λ (x : TopPort). All (λ b. b < count) x.bits) port ports inside) found)
    (λ q found. called_inside count names ports k q (All-tail (λ (x : TopPort). All (λ b. b < count) x.bits) port ports inside) found)

whole_by : (count : ℕ) (q : TopPort) (b : Bool) (rest : Option TopPort) (p : PortBit) → (b ≡ true → get_or q.bits 0 0 < count) → option_map whole_bit (cond b (Some q) rest) ≡ Some p → ((r : PortBit) → option_map whole_bit rest ≡ Some r → r.bit < count) → p.bit < count
whole_by count q true rest p first is more = let bit : get_or q.bits 0 0 ≡ p.bit = cc in subst (λ (x : ℕ). x < count) bit (first refl)
whole_by count q false rest p first is more = more p is

whole_inside : (count : ℕ) (ports : List TopPort) (k : List ℕ) (p : PortBit) → AreInside count ports → whole_port ports k ≡ Some p → p.bit < count
whole_inside count [] k p inside is = absurd (cc)
whole_inside count (q ∷ ports) k p inside is =
    whole_by count q (is_whole k q) (find (is_whole k) ports) p
    (λ test. let one : (length q.bits == 1) ≡ true = (and_parts (bytes_eq q.name k) (length q.bits == 1) test).1 in
    All-head (λ (x : TopPort). All (λ b. b < count) x.bits) q ports inside 0 0 (omega (arith, eqb-true (length q.bits) 1 one)))
    is (λ r found. whole_inside count ports k r (All-tail (λ (x : TopPort). All (λ b. b < count) x.bits) q ports inside) found)

pub place_inside : (h : Hierarchy) (cells : CellTable) → IsFlattened cells h → (k : List ℕ) (p : PortBit) → place_of h k ≡ Some p → p.bit < length h.inner
place_inside h cells shape k p is =
    let inside : AreInside (length h.inner) h.ports = λ i d below. (shape.each_port i d below).within in
    or_some (whole_port h.ports k) (bit_called (all_names h) h.ports k) p (λ q. q.bit < length h.inner) is
    (λ q found. whole_inside (length h.inner) h.ports k q inside found) (λ q found. called_inside (length h.inner) (all_names h) h.ports k q inside found)

pub ports_inside : (h : Hierarchy) (cells : CellTable) (names : List (List ℕ)) → IsFlattened cells h → names ≡ all_names h → AreInside (length names) h.ports
ports_inside h cells names shape are =
    let size : length names ≡ length h.inner = ap length are ∙ length-map h.inner (inner_name h) in
    λ i d below j e less. omega (arith, (shape.each_port i d below).within j e less, size)
