-- Worked netlists.
use Rattle.std.specs.Prelude.{◌≡◌, ℕ, pos, true, false, Option, None, Some, List, [], ◌∷◌, codes, length}
use Rattle.std.proofs.Common.{refl}
use Rattle.mintc_text.specs.Limits.{usual}
use Rattle.mintc_cells.specs.declared.cell.Cell.{Cell}
use Rattle.mintc_cells.specs.declared.cell.Cell.TheVariants.{Gate, Latch}
use Rattle.mintc_netlist.specs.declared.expression.Piece.{Piece}
use Rattle.mintc_netlist.specs.declared.expression.Piece.TheVariants as piece
use Rattle.mintc_netlist.specs.declared.module.Connection.{Connection}
use Rattle.mintc_netlist.specs.declared.module.Item.{Item}
use Rattle.mintc_netlist.specs.declared.module.Item.TheVariants as item
use Rattle.mintc_netlist.specs.declared.module.Module.{Module}
use Rattle.mintc_flatten_hierarchy.specs.Sources.{Source}
use Rattle.mintc_flatten_hierarchy.specs.Hierarchies.{hierarchy_of, join_of}
use Rattle.mintc_flatten_hierarchy.specs.Refusals.{tops_of, refusal_of}

abbrev to : Option (List ℕ) → Option (List Piece) → Connection
to pin expr = record { pin = pin; expr = expr }

abbrev module_of : ℕ → List ℕ → List (List ℕ) → List Item → Module
module_of entry name ports items = record { entry = entry; name = name; ports = ports; items = items }

abbrev cells : List (List ℕ × Cell)
cells = ((codes "BUF"), Gate ((codes "A") ∷ []) ((codes "Y") ∷ []) (pos 0) (pos 0))
    ∷ ((codes "LAT"), Latch (codes "D") (codes "G") true ((codes "Q") ∷ []) [] (pos 10) (pos 0) false (pos 10) (pos 10) (pos 10) (pos 10) false (pos 0))
    ∷ []

abbrev of_modules : List Module → Source
of_modules modules = record { cells = cells; modules = modules }

-- the worked netlist
abbrev two : Source
two = of_modules ((module_of 1 (codes "two") ((codes "phi1") ∷ (codes "phi2") ∷ (codes "y") ∷ []) (item.Port 2 false None ((codes "phi1") ∷ []) ∷ item.Wire 3 None ((codes "phi1") ∷ []) ∷ item.Port 4 false None ((codes "phi2") ∷ []) ∷ item.Wire 5 None ((codes "phi2") ∷ []) ∷ item.Port 6 true None ((codes "y") ∷ []) ∷ item.Wire 7 None ((codes "y") ∷ []) ∷ item.Wire 8 None ((codes "loop.back") ∷ []) ∷ item.Wire 9 None ((codes "mid") ∷ []) ∷ item.Assign 10 ((piece.Net (codes "y")) ∷ []) ((piece.Net (codes "loop.back")) ∷ []) ∷ item.Instance 11 (codes "half") (codes "u1") true (to (Some (codes "c")) (Some ((piece.Net (codes "phi1")) ∷ [])) ∷ to (Some (codes "i")) (Some ((piece.Net (codes "loop.back")) ∷ [])) ∷ to (Some (codes "o")) (Some ((piece.Net (codes "mid")) ∷ [])) ∷ []) ∷ item.Instance 12 (codes "half") (codes "u2") true (to (Some (codes "c")) (Some ((piece.Net (codes "phi2")) ∷ [])) ∷ to (Some (codes "i")) (Some ((piece.Net (codes "mid")) ∷ [])) ∷ to (Some (codes "o")) (Some ((piece.Net (codes "loop.back")) ∷ [])) ∷ []) ∷ []))
    ∷ (module_of 14 (codes "half") ((codes "c") ∷ (codes "i") ∷ (codes "o") ∷ []) (item.Port 15 false None ((codes "c") ∷ []) ∷ item.Port 16 false None ((codes "i") ∷ []) ∷ item.Port 17 true None ((codes "o") ∷ []) ∷ item.Wire 18 None ((codes "q") ∷ []) ∷ item.Instance 19 (codes "LAT") (codes "l[0]") true (to (Some (codes "D")) (Some ((piece.Net (codes "i")) ∷ [])) ∷ to (Some (codes "G")) (Some ((piece.Net (codes "c")) ∷ [])) ∷ to (Some (codes "Q")) (Some ((piece.Net (codes "q")) ∷ [])) ∷ []) ∷ item.Instance 20 (codes "slice") (codes "s") true (to (Some (codes "a")) (Some ((piece.Net (codes "q")) ∷ [])) ∷ to (Some (codes "t")) (Some ((piece.Constant 1) ∷ [])) ∷ to (Some (codes "z")) (Some ((piece.Net (codes "o")) ∷ [])) ∷ []) ∷ []))
    ∷ (module_of 22 (codes "slice") ((codes "a") ∷ (codes "t") ∷ (codes "z") ∷ []) (item.Port 23 false None ((codes "a") ∷ []) ∷ item.Port 24 false None ((codes "t") ∷ []) ∷ item.Port 25 true None ((codes "z") ∷ []) ∷ item.Instance 26 (codes "BUF") (codes "b") true (to (Some (codes "A")) (Some ((piece.Net (codes "a")) ∷ [])) ∷ to (Some (codes "Y")) (Some ((piece.Net (codes "z")) ∷ [])) ∷ []) ∷ []))
    ∷ [])

two-refusal : refusal_of usual two None ≡ None
two-refusal = refl

two-tops : tops_of two None ≡ 0 ∷ []
two-tops = refl

two-joins : (hierarchy_of two 0).joins ≡ (join_of 3 2 ∷ join_of 0 5 ∷ join_of 3 6 ∷ join_of 7 4 ∷ join_of 6 9 ∷ join_of 5 10 ∷ join_of 11 8 ∷ join_of 8 12 ∷ join_of 14 7 ∷ join_of 12 15 ∷ join_of 16 14 ∷ join_of 1 17 ∷ join_of 4 18 ∷ join_of 19 3 ∷ join_of 18 21 ∷ join_of 17 22 ∷ join_of 23 20 ∷ join_of 20 24 ∷ join_of 26 19 ∷ join_of 24 27 ∷ join_of 28 26 ∷ [])
two-joins = refl

two-counts : length (hierarchy_of two 0).scopes ∷ length (hierarchy_of two 0).leaves ∷ length (hierarchy_of two 0).inner ∷ [] ≡ 5 ∷ 4 ∷ 29 ∷ []
two-counts = refl
