-- Widths and selects that don't fit, name by name, pin by pin and item by item.
use Rattle.std.proofs.Common.{◌≡◌, ℕ, ◌+◌, ◌<◌, ◌≤◌, List, [], ◌∷◌, drop, length, Bool, true, false, ◌||◌, Option, Some, None, refl, sym, ap, ◌∙◌}
use Rattle.std.specs.List.{list_any, find, cons_option}
use Rattle.std.specs.Option.{option_map, option_map_or, option_to_list}
use Rattle.std.proofs.lemmas.List.{drop_more, drop_all}
use Rattle.mintc_netlist.specs.declared.expression.Span.{Span}
use Rattle.mintc_netlist.specs.declared.module.Item.{Item}
use Rattle.mintc_netlist.specs.declared.module.Item.TheVariants as item
use Rattle.mintc_netlist.specs.declared.module.Module.{Module}
use Rattle.mintc_netlist.specs.Statements.{statement_of}
use Rattle.mintc_netlist.specs.Nets.{declares_port, declares_net}
use Rattle.mintc_netlist.specs.Connections.{Pin, Wiring, wiring_of, expression_at, wirings_from}
use Rattle.mintc_netlist_nets.specs.declared.declared.Declaration.{Declaration}
use Rattle.mintc_netlist_nets.proofs.SharedLookLaws.{look-ports, look-nets}
use Rattle.mintc_flatten_hierarchy.specs.declared.bindings.Binding.{Binding}
use Rattle.mintc_flatten_hierarchy.specs.Sources.{Source, binding_pins}
use Rattle.mintc_flatten_hierarchy.specs.Faults.{is_of_other_range, is_misfit}
use Rattle.mintc_flatten_binding.specs.Wired.{no_pin, pin_at, wiring_at}
use Rattle.mintc_flatten_rules.specs.Widths.{is_other, differs, IsDeclared}

-- the same test on all of a list
pub any_same : {X : Type 0} (p q : X → Bool) (xs : List X) → ((x : X) → p x ≡ q x) → list_any p xs ≡ list_any q xs
any_same p q [] same = refl
any_same p q (x ∷ xs) same = ap (λ (b : Bool). b || list_any p xs) (same x) ∙ ap (λ (b : Bool). q x || b) (any_same p q xs same)

other_by : (f : Item → Declaration) (span : Option Span) (found : Option Item) → ((i : Item) → is_other span (f i) ≡ is_of_other_range span i) →
    option_map_or (is_other span) (option_map f found) false ≡ option_map_or (is_of_other_range span) found false
other_by f span None same = refl
other_by f span (Some i) same = same i

pub other_nets : (ports nets : List (List ℕ × Declaration)) (before : List Item) (span : Option Span) (name : List ℕ) → IsDeclared ports nets before →
    differs nets span name ≡ option_map_or (is_of_other_range span) (find (declares_net name) before) false
other_nets ports nets before span name h =
    ap (λ ds. differs ds span name) h.nets
    ∙ ap (λ (o : Option Declaration). option_map_or (is_other span) o false) (look-nets (record { entry = 0; name = []; ports = []; items = before }) name)
    ∙ other_by _ span (find (declares_net name) before) (λ i. refl)

pub other_ports : (ports nets : List (List ℕ × Declaration)) (before : List Item) (span : Option Span) (name : List ℕ) → IsDeclared ports nets before →
    differs ports span name ≡ option_map_or (is_of_other_range span) (find (declares_port name) before) false
other_ports ports nets before span name h =
    ap (λ ds. differs ds span name) h.ports
    ∙ ap (λ (o : Option Declaration). option_map_or (is_other span) o false) (look-ports (record { entry = 0; name = []; ports = []; items = before }) name)
    ∙ other_by _ span (find (declares_port name) before) (λ i. refl)

-- one more pin
any_cons : (f : Wiring → Bool) (o : Option Wiring) (ws : List Wiring) → list_any f (cons_option o ws) ≡ (list_any f (option_to_list o) || list_any f ws)
any_cons f None ws = refl
any_cons f (Some w) ws = or_assoc (f w) (list_any f ws)
  where
    or_assoc : (a b : Bool) → (a || b) ≡ ((a || false) || b)
    or_assoc true b = refl
    or_assoc false b = refl

any_turn : (f : Wiring → Bool) (i : Item) (s : Source) (t : Binding) (k : ℕ) (b : Bool) → k < length (binding_pins s t) → b ≡ list_any f (wiring_at i s t k) →
    list_any f (wirings_from k i (drop k (binding_pins s t))) ≡ (b || list_any f (wirings_from (k + 1) i (drop (k + 1) (binding_pins s t))))
any_turn f i s t k b inside is =
    let pins = binding_pins s t in
    ap (λ (ps : List Pin). list_any f (wirings_from k i ps)) (drop_more pins k no_pin inside)
    ∙ any_cons f (option_map (wiring_of (pin_at s t k)) (expression_at i k (pin_at s t k).name)) (wirings_from (k + 1) i (drop (k + 1) pins))
    ∙ ap (λ (c : Bool). c || list_any f (wirings_from (k + 1) i (drop (k + 1) pins))) (sym is)

pub pin_passed : (f : Wiring → Bool) (i : Item) (s : Source) (t : Binding) (k : ℕ) (b whole : Bool) → k < length (binding_pins s t) → b ≡ list_any f (wiring_at i s t k) → b ≡ false →
    list_any f (wirings_from k i (drop k (binding_pins s t))) ≡ whole → list_any f (wirings_from (k + 1) i (drop (k + 1) (binding_pins s t))) ≡ whole
pin_passed f i s t k b whole inside is none left =
    sym (any_turn f i s t k b inside is ∙ ap (λ (c : Bool). c || list_any f (wirings_from (k + 1) i (drop (k + 1) (binding_pins s t)))) none) ∙ left

pub pin_found : (f : Wiring → Bool) (i : Item) (s : Source) (t : Binding) (k : ℕ) (b whole : Bool) → k < length (binding_pins s t) → b ≡ list_any f (wiring_at i s t k) → b ≡ true →
    list_any f (wirings_from k i (drop k (binding_pins s t))) ≡ whole → true ≡ whole
pin_found f i s t k b whole inside is some left =
    sym (any_turn f i s t k b inside is ∙ ap (λ (c : Bool). c || list_any f (wirings_from (k + 1) i (drop (k + 1) (binding_pins s t)))) some) ∙ left

pub pins_passed : (f : Wiring → Bool) (i : Item) (pins : List Pin) (k : ℕ) (whole : Bool) → length pins ≤ k → list_any f (wirings_from k i (drop k pins)) ≡ whole → false ≡ whole
pins_passed f i pins k whole past left = sym (ap (λ (ps : List Pin). list_any f (wirings_from k i ps)) (drop_all k pins past)) ∙ left

-- whether a statement fits doesn't depend on the modules before its module
pub own : (s : Source) (earlier : List Module) (m : Module) (before : List Item) (i : Option Item) → is_misfit s (statement_of earlier m before i) ≡ is_misfit s (statement_of [] m before i)
own s earlier m before None = refl
own s earlier m before (Some (item.Port entry output span names)) = refl
own s earlier m before (Some (item.Wire entry span names)) = refl
own s earlier m before (Some (item.Assign entry left right)) = refl
own s earlier m before (Some (item.Instance entry cell name by_name connections)) = refl
