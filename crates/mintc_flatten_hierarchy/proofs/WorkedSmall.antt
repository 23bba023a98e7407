-- Worked netlists.
use Rattle.std.specs.Prelude.{◌≡◌, ℕ, pos, true, false, Option, None, Some, List, [], ◌∷◌, codes, length}
use Rattle.std.proofs.Common.{refl}
use Rattle.mintc_text.specs.Limits.{usual}
use Rattle.mintc_text.specs.declared.refusals.Refusal.TheVariants as refusal
use Rattle.mintc_cells.specs.declared.cell.Cell.{Cell}
use Rattle.mintc_cells.specs.declared.cell.Cell.TheVariants.{Gate, Latch}
use Rattle.mintc_netlist.specs.declared.expression.Piece.{Piece}
use Rattle.mintc_netlist.specs.declared.expression.Piece.TheVariants as piece
use Rattle.mintc_netlist.specs.declared.module.Connection.{Connection}
use Rattle.mintc_netlist.specs.declared.module.Item.{Item}
use Rattle.mintc_netlist.specs.declared.module.Item.TheVariants as item
use Rattle.mintc_netlist.specs.declared.module.Module.{Module}
use Rattle.mintc_netlist.specs.Expressions.{span_from}
use Rattle.mintc_flatten_hierarchy.specs.Sources.{Source}
use Rattle.mintc_flatten_hierarchy.specs.Hierarchies.{hierarchy_of, join_of}
use Rattle.mintc_flatten_hierarchy.specs.Refusals.{tops_of, refusal_of}

abbrev to : Option (List ℕ) → Option (List Piece) → Connection
to pin expr = record { pin = pin; expr = expr }

abbrev module_of : ℕ → List ℕ → List (List ℕ) → List Item → Module
module_of entry name ports items = record { entry = entry; name = name; ports = ports; items = items }

abbrev cells : List (List ℕ × Cell)
cells = ((codes "BUF"), Gate ((codes "A") ∷ []) ((codes "Y") ∷ []) (pos 0) (pos 0))
    ∷ ((codes "LAT"), Latch (codes "D") (codes "G") true ((codes "Q") ∷ []) [] (pos 10) (pos 0) false (pos 10) (pos 10) (pos 10) (pos 10) false (pos 0))
    ∷ []

abbrev of_modules : List Module → Source
of_modules modules = record { cells = cells; modules = modules }

-- `FOO a ();`
abbrev no_module : Source
no_module = of_modules ((module_of 1 (codes "m") ((codes "c") ∷ []) (item.Port 2 false None ((codes "c") ∷ []) ∷ item.Instance 3 (codes "FOO") (codes "a") false [] ∷ []))
    ∷ [])

no_module-refusal : refusal_of usual no_module None ≡ Some (refusal.NoModule 3)
no_module-refusal = refl

-- `m u (.c(c));`
abbrev recursive : Source
recursive = of_modules ((module_of 1 (codes "m") ((codes "c") ∷ []) (item.Port 2 false None ((codes "c") ∷ []) ∷ item.Instance 3 (codes "m") (codes "u") true (to (Some (codes "c")) (Some ((piece.Net (codes "c")) ∷ [])) ∷ []) ∷ []))
    ∷ [])

recursive-refusal : refusal_of usual recursive None ≡ Some (refusal.Recursive 3)
recursive-refusal = refl

-- `LAT a (.D(1'b0), .G(c), .E(c));`
abbrev no_pin : Source
no_pin = of_modules ((module_of 1 (codes "m") ((codes "c") ∷ []) (item.Port 2 false None ((codes "c") ∷ []) ∷ item.Instance 3 (codes "LAT") (codes "a") true (to (Some (codes "D")) (Some ((piece.Constant 1) ∷ [])) ∷ to (Some (codes "G")) (Some ((piece.Net (codes "c")) ∷ [])) ∷ to (Some (codes "E")) (Some ((piece.Net (codes "c")) ∷ [])) ∷ []) ∷ []))
    ∷ [])

no_pin-refusal : refusal_of usual no_pin None ≡ Some (refusal.NoPin 3)
no_pin-refusal = refl

-- `wire [1:0] w; assign w = c;`
abbrev width : Source
width = of_modules ((module_of 1 (codes "m") ((codes "c") ∷ []) (item.Port 2 false None ((codes "c") ∷ []) ∷ item.Wire 3 (Some (span_from 1 0)) ((codes "w") ∷ []) ∷ item.Assign 4 ((piece.Net (codes "w")) ∷ []) ((piece.Net (codes "c")) ∷ []) ∷ []))
    ∷ [])

width-refusal : refusal_of usual width None ≡ Some (refusal.Width 4)
width-refusal = refl

-- `assign c = 1'b0;`
abbrev two_drivers : Source
two_drivers = of_modules ((module_of 1 (codes "m") ((codes "c") ∷ []) (item.Port 2 false None ((codes "c") ∷ []) ∷ item.Assign 3 ((piece.Net (codes "c")) ∷ []) ((piece.Constant 1) ∷ []) ∷ []))
    ∷ [])

two_drivers-refusal : refusal_of usual two_drivers None ≡ Some (refusal.TwoDrivers 3)
two_drivers-refusal = refl

-- `wire w; wire w;`
abbrev name_twice : Source
name_twice = of_modules ((module_of 1 (codes "m") ((codes "c") ∷ []) (item.Port 2 false None ((codes "c") ∷ []) ∷ item.Wire 3 None ((codes "w") ∷ []) ∷ item.Wire 4 None ((codes "w") ∷ []) ∷ []))
    ∷ [])

name_twice-refusal : refusal_of usual name_twice None ≡ Some (refusal.NameTwice 4)
name_twice-refusal = refl

-- `LAT a (.D(c), .G(1'b1));`
abbrev constant_enable : Source
constant_enable = of_modules ((module_of 1 (codes "m") ((codes "c") ∷ []) (item.Port 2 false None ((codes "c") ∷ []) ∷ item.Instance 3 (codes "LAT") (codes "a") true (to (Some (codes "D")) (Some ((piece.Net (codes "c")) ∷ [])) ∷ to (Some (codes "G")) (Some ((piece.Constant 1) ∷ [])) ∷ []) ∷ []))
    ∷ [])

constant_enable-refusal : refusal_of usual constant_enable None ≡ None
constant_enable-refusal = refl

-- `wire a, b; assign a = b; assign b = a;`
abbrev loop : Source
loop = of_modules ((module_of 1 (codes "m") ((codes "c") ∷ []) (item.Port 2 false None ((codes "c") ∷ []) ∷ item.Wire 3 None ((codes "a") ∷ (codes "b") ∷ []) ∷ item.Assign 4 ((piece.Net (codes "a")) ∷ []) ((piece.Net (codes "b")) ∷ []) ∷ item.Assign 5 ((piece.Net (codes "b")) ∷ []) ((piece.Net (codes "a")) ∷ []) ∷ []))
    ∷ [])

loop-refusal : refusal_of usual loop None ≡ None
loop-refusal = refl

-- no module at all
abbrev nothing : Source
nothing = of_modules ([])

nothing-refusal : refusal_of usual nothing None ≡ Some (refusal.TopUnclear 0)
nothing-refusal = refl

-- accepted
abbrev accepted : Source
accepted = of_modules ((module_of 1 (codes "m") ((codes "c") ∷ []) (item.Port 2 false None ((codes "c") ∷ []) ∷ item.Instance 3 (codes "LAT") (codes "a") true (to (Some (codes "D")) (Some ((piece.Net (codes "w")) ∷ [])) ∷ to (Some (codes "G")) (Some ((piece.Net (codes "c")) ∷ [])) ∷ to (Some (codes "Q")) None ∷ []) ∷ item.Instance 4 (codes "BUF") (codes "b") true (to (Some (codes "A")) (Some ((piece.Net (codes "c")) ∷ [])) ∷ to (Some (codes "Y")) (Some ((piece.Net (codes "w")) ∷ [])) ∷ []) ∷ []))
    ∷ [])

accepted-refusal : refusal_of usual accepted None ≡ None
accepted-refusal = refl

accepted-tops : tops_of accepted None ≡ 0 ∷ []
accepted-tops = refl

accepted-joins : (hierarchy_of accepted 0).joins ≡ (join_of 1 2 ∷ join_of 0 3 ∷ join_of 0 5 ∷ join_of 6 1 ∷ [])
accepted-joins = refl

accepted-counts : length (hierarchy_of accepted 0).scopes ∷ length (hierarchy_of accepted 0).leaves ∷ length (hierarchy_of accepted 0).inner ∷ [] ≡ 1 ∷ 2 ∷ 7 ∷ []
accepted-counts = refl

-- a vector port
abbrev bit_order : Source
bit_order = of_modules ((module_of 1 (codes "t") ((codes "c") ∷ (codes "x") ∷ []) (item.Port 2 false None ((codes "c") ∷ []) ∷ item.Port 3 false (Some (span_from 0 1)) ((codes "x") ∷ []) ∷ item.Instance 4 (codes "pair") (codes "p") true (to (Some (codes "c")) (Some ((piece.Net (codes "c")) ∷ [])) ∷ to (Some (codes "i")) (Some ((piece.Net (codes "x")) ∷ [])) ∷ []) ∷ []))
    ∷ (module_of 6 (codes "pair") ((codes "c") ∷ (codes "i") ∷ []) (item.Port 7 false None ((codes "c") ∷ []) ∷ item.Port 8 false (Some (span_from 1 0)) ((codes "i") ∷ []) ∷ item.Instance 9 (codes "LAT") (codes "a") true (to (Some (codes "D")) (Some ((piece.Bit (codes "i") 1) ∷ [])) ∷ to (Some (codes "G")) (Some ((piece.Net (codes "c")) ∷ [])) ∷ []) ∷ item.Instance 10 (codes "LAT") (codes "b") true (to (Some (codes "D")) (Some ((piece.Bit (codes "i") 0) ∷ [])) ∷ to (Some (codes "G")) (Some ((piece.Net (codes "c")) ∷ [])) ∷ []) ∷ []))
    ∷ [])

bit_order-refusal : refusal_of usual bit_order None ≡ None
bit_order-refusal = refl

bit_order-tops : tops_of bit_order None ≡ 0 ∷ []
bit_order-tops = refl

bit_order-joins : (hierarchy_of bit_order 0).joins ≡ (join_of 0 3 ∷ join_of 1 4 ∷ join_of 2 5 ∷ join_of 5 6 ∷ join_of 3 7 ∷ join_of 4 9 ∷ join_of 3 10 ∷ [])
bit_order-joins = refl

bit_order-counts : length (hierarchy_of bit_order 0).scopes ∷ length (hierarchy_of bit_order 0).leaves ∷ length (hierarchy_of bit_order 0).inner ∷ [] ≡ 2 ∷ 2 ∷ 12 ∷ []
bit_order-counts = refl

-- a vector port
abbrev bit_order_turned : Source
bit_order_turned = of_modules ((module_of 1 (codes "t") ((codes "c") ∷ (codes "x") ∷ []) (item.Port 2 false None ((codes "c") ∷ []) ∷ item.Port 3 false (Some (span_from 0 1)) ((codes "x") ∷ []) ∷ item.Instance 4 (codes "pair") (codes "p") true (to (Some (codes "c")) (Some ((piece.Net (codes "c")) ∷ [])) ∷ to (Some (codes "i")) (Some ((piece.Bit (codes "x") 1) ∷ (piece.Bit (codes "x") 0) ∷ [])) ∷ []) ∷ []))
    ∷ (module_of 6 (codes "pair") ((codes "c") ∷ (codes "i") ∷ []) (item.Port 7 false None ((codes "c") ∷ []) ∷ item.Port 8 false (Some (span_from 1 0)) ((codes "i") ∷ []) ∷ item.Instance 9 (codes "LAT") (codes "a") true (to (Some (codes "D")) (Some ((piece.Bit (codes "i") 1) ∷ [])) ∷ to (Some (codes "G")) (Some ((piece.Net (codes "c")) ∷ [])) ∷ []) ∷ item.Instance 10 (codes "LAT") (codes "b") true (to (Some (codes "D")) (Some ((piece.Bit (codes "i") 0) ∷ [])) ∷ to (Some (codes "G")) (Some ((piece.Net (codes "c")) ∷ [])) ∷ []) ∷ []))
    ∷ [])

bit_order_turned-refusal : refusal_of usual bit_order_turned None ≡ None
bit_order_turned-refusal = refl

bit_order_turned-tops : tops_of bit_order_turned None ≡ 0 ∷ []
bit_order_turned-tops = refl

bit_order_turned-joins : (hierarchy_of bit_order_turned 0).joins ≡ (join_of 0 3 ∷ join_of 2 4 ∷ join_of 1 5 ∷ join_of 5 6 ∷ join_of 3 7 ∷ join_of 4 9 ∷ join_of 3 10 ∷ [])
bit_order_turned-joins = refl

bit_order_turned-counts : length (hierarchy_of bit_order_turned 0).scopes ∷ length (hierarchy_of bit_order_turned 0).leaves ∷ length (hierarchy_of bit_order_turned 0).inner ∷ [] ≡ 2 ∷ 2 ∷ 12 ∷ []
bit_order_turned-counts = refl

-- a chain of three modules
abbrev deep : Source
deep = of_modules ((module_of 1 (codes "t1") ((codes "c") ∷ []) (item.Port 2 false None ((codes "c") ∷ []) ∷ item.Instance 3 (codes "t2") (codes "u0") true (to (Some (codes "c")) (Some ((piece.Net (codes "c")) ∷ [])) ∷ []) ∷ item.Instance 4 (codes "t2") (codes "u1") true (to (Some (codes "c")) (Some ((piece.Net (codes "c")) ∷ [])) ∷ []) ∷ []))
    ∷ (module_of 6 (codes "t2") ((codes "c") ∷ []) (item.Port 7 false None ((codes "c") ∷ []) ∷ item.Instance 8 (codes "t3") (codes "u0") true (to (Some (codes "c")) (Some ((piece.Net (codes "c")) ∷ [])) ∷ []) ∷ item.Instance 9 (codes "t3") (codes "u1") true (to (Some (codes "c")) (Some ((piece.Net (codes "c")) ∷ [])) ∷ []) ∷ []))
    ∷ (module_of 11 (codes "t3") ((codes "c") ∷ []) (item.Port 12 false None ((codes "c") ∷ []) ∷ []))
    ∷ [])

deep-refusal : refusal_of usual deep None ≡ None
deep-refusal = refl

deep-tops : tops_of deep None ≡ 0 ∷ []
deep-tops = refl

deep-joins : (hierarchy_of deep 0).joins ≡ (join_of 0 1 ∷ join_of 1 2 ∷ join_of 1 3 ∷ join_of 0 4 ∷ join_of 4 5 ∷ join_of 4 6 ∷ [])
deep-joins = refl

deep-counts : length (hierarchy_of deep 0).scopes ∷ length (hierarchy_of deep 0).leaves ∷ length (hierarchy_of deep 0).inner ∷ [] ≡ 7 ∷ 0 ∷ 7 ∷ []
deep-counts = refl
