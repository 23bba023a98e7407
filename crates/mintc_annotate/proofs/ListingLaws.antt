-- The ports that are listed.
use Rattle.std.proofs.Common.{◌≡◌, ◌<◌, ◌≤◌, ◌+◌, ℕ, Bool, true, false, ◌&&◌, List, [], ◌∷◌, ◌++◌, length, drop, get_or, find, All, Option, Some, None, option_map, unwrap_or, is_some, bytes_eq, refl, ap, ◌∙◌, arith, length-append}
use Rattle.std.specs.Bool.{beq}
use Rattle.std.specs.Option.{option_or}
use Rattle.std.proofs.lemmas.List.{drop_more, length-map}
use Rattle.mintc_text.specs.Stops.{StopsAt}
use Rattle.mintc_text.specs.declared.refusals.Refusal.{Refusal}
use Rattle.mintc_text.specs.declared.refusals.Refusal.TheVariants as refusal
use Rattle.mintc_text.specs.declared.refusals.Role.TheVariants as role
use Rattle.mintc_text.specs.declared.refusals.Stop.{Stop}
use Rattle.mintc_text.specs.declared.refusals.Stop.TheVariants as stop
use Rattle.mintc_flatten_hierarchy.specs.declared.hierarchy.TopPort.{TopPort}
use Rattle.mintc_clock.specs.declared.clock.Clock.{Clock}
use Rattle.mintc_clock.specs.declared.clock.Listed.{Listed}
use Rattle.mintc_clock.specs.declared.clock.PhaseDef.{PhaseDef}
use Rattle.mintc_clock.specs.ClockOf.{first_failing}
use Rattle.mintc_annotate.specs.ClockPorts.{listed_in, has_listed_in, phase_bit_in, has_phases_in, has_ports_in, first_false, IsEntryRefusal}
use Rattle.mintc_annotate.proofs.PartLimits.{found_of}

-- where a port has no bit it isn't there
none_of : (o : Option TopPort) → ((p : TopPort) → o ≡ Some p → 1 ≤ length p.bits) → length (unwrap_or (option_map (λ p. p.bits) o) []) ≡ 0 → option_map (λ p. p.bits) o ≡ None
none_of None give e = refl
none_of (Some p) give e = let some = give p refl in absurd (omega (arith, some, e))

pub none_where_empty : (ports : List TopPort) (output : Bool) (x : Listed) → All (λ p. 1 ≤ length p.bits) ports → length (unwrap_or (listed_in ports output x) []) ≡ 0 → listed_in ports output x ≡ None
none_where_empty ports output x some e =
    none_of (find (λ p. bytes_eq p.name x.port && beq p.output output) ports) (λ p is. found_of (λ p. 1 ≤ length p.bits) (λ p. bytes_eq p.name x.port && beq p.output output) ports p some is) e

-- the first that fails is the first that is left
pub first_here : (ports : List TopPort) (output : Bool) (listed : List Listed) (number n : ℕ) (d : Listed) → number < length listed → listed_in ports output (get_or listed number d) ≡ None →
    first_failing (λ test. test) n (has_listed_in ports output (drop number listed)) ≡ Some n
first_here ports output listed number n d within none = rw (drop_more listed number d within, none) refl

-- ---- tests in parts
pub failing_append : (n : ℕ) (xs ys : List Bool) → first_failing (λ test. test) n (xs ++ ys) ≡ option_or (first_failing (λ test. test) n xs) (first_failing (λ test. test) (n + length xs) ys)
failing_append n [] ys = let e : n ≡ n + 0 = omega arith in ap (λ (k : ℕ). first_failing (λ test. test) k ys) e
failing_append n (true ∷ xs) ys =
    let e : n + 1 + length xs ≡ n + length (true ∷ xs) = omega arith in
    failing_append (n + 1) xs ys ∙ ap (λ (k : ℕ). option_or (first_failing (λ test. test) (n + 1) xs) (first_failing (λ test. test) k ys)) e
failing_append n (false ∷ xs) ys = refl

-- a refusal of one entry is one of an equal entry
pub entry_refusal : (a b : Option ℕ) (r : Refusal) → ((e : ℕ) → a ≡ Some e → b ≡ Some e) → IsEntryRefusal a r → IsEntryRefusal b r
entry_refusal a b (refusal.NoInstance role.Clock e) give h = give e h
entry_refusal a b _ give h = h

pub entry_stops : (a b : Option ℕ) (s : Stop) → ((e : ℕ) → a ≡ Some e → b ≡ Some e) → StopsAt (IsEntryRefusal a) s → StopsAt (IsEntryRefusal b) s
entry_stops a b (stop.Refused r) give h = entry_refusal a b r give h
entry_stops a b stop.OutOfMemory give h = tt

-- the first of three parts
pub in_first : (a b c : Option ℕ) (e : ℕ) → a ≡ Some e → option_or (option_or a b) c ≡ Some e
in_first a b c e h = ap (λ o. option_or (option_or o b) c) h

pub in_second : (a b c : Option ℕ) (e : ℕ) → a ≡ None → b ≡ Some e → option_or (option_or a b) c ≡ Some e
in_second a b c e none h = ap (λ o. option_or (option_or o b) c) none ∙ ap (λ o. option_or o c) h

pub in_third : (a b c r : Option ℕ) → a ≡ None → b ≡ None → c ≡ r → option_or (option_or a b) c ≡ r
in_third a b c r none next h = ap (λ o. option_or (option_or o b) c) none ∙ ap (λ o. option_or o c) next ∙ h

-- ---- the ports of a clock, in its three lists
pub clock_parts : (names : List (List ℕ)) (ports : List TopPort) (clock : Clock) (phases : List PhaseDef) (inputs outputs : List Listed) → phases ≡ clock.phases → inputs ≡ clock.inputs → outputs ≡ clock.outputs →
    first_false (has_ports_in names ports clock) ≡ option_or (option_or (first_failing (λ test. test) 1 (has_phases_in names ports phases)) (first_failing (λ test. test) (length phases + 1) (has_listed_in ports false inputs)))
    (first_failing (λ test. test) (length phases + length inputs + 1) (has_listed_in ports true outputs))
clock_parts names ports clock phases inputs outputs a b c =
    let P : List Bool = has_phases_in names ports clock.phases in
    let I : List Bool = has_listed_in ports false clock.inputs in
    let O : List Bool = has_listed_in ports true clock.outputs in
    let one : 1 + length P ≡ length clock.phases + 1 = omega (arith, length-map clock.phases (λ p. is_some (phase_bit_in names ports p))) in
    let two : 1 + length (P ++ I) ≡ length clock.phases + length clock.inputs + 1 = omega (arith, one, length-map clock.inputs (λ l. is_some (listed_in ports false l)), length-append P I) in
    rw (a, b, c, failing_append 1 (P ++ I) O, failing_append 1 P I, one, two) refl
