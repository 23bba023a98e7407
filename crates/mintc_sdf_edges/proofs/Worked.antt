-- The worked rows, by computation.
use Rattle.std.proofs.Common.{◌≡◌, ℕ, ℤ, pos, List, [], ◌∷◌, map, Option, Some, None, option_map, Result, Ok, Err, refl, codes}
use Rattle.mintc_text.specs.declared.refusals.Refusal.{Refusal}
use Rattle.mintc_text_scan.specs.Pieces.{tokens_from}
use Rattle.mintc_sdf_tokens.specs.Tokens.{piece_of}
use Rattle.mintc_sdf_tokens.specs.Items.{fronts}
use Rattle.mintc_sdf.specs.declared.delays.Delay.{Delay}
use Rattle.mintc_sdf.specs.Forms.{inner_port, inner_def, check, delay_item, part, header}
use Rattle.mintc_sdf.specs.Texts.{after_entry, entries, delays_of}
use Rattle.mintc_sdf_edges.specs.declared.delays.Edges.{Edges}
use Rattle.mintc_sdf_edges.specs.declared.delays.EdgeDelay.{EdgeDelay}
use Rattle.mintc_sdf_edges.specs.Edges.{both_edges, rising, falling, inner_edge, last_edge}
use Rattle.mintc_sdf_edges.specs.Telling.{item, last_item, lone_item, after_items, after_list}
use Rattle.mintc_sdf_edges.specs.Texts.{told_in}

-- the edges that a value begins at, those that it speaks of, its least number and its greatest
abbrev Row : Type 0
Row = Edges × Edges × ℤ × ℤ

abbrev row : EdgeDelay → Row
row e = (e.edge, e.speaks, e.delay.least, e.delay.greatest)

abbrev rows_by : List ℕ → Result (List Delay) Refusal → Option (List Row)
rows_by text (Ok ds) = option_map (map row) (told_in text ds)
rows_by text (Err r) = None

abbrev Gives : List ℕ → List Row → Type 0
Gives text rows = rows_by text (delays_of text) ≡ Some rows

-- one value speaks of both edges
one-value : Gives (codes "(DELAYFILE (TIMESCALE 1fs) (CELL (CELLTYPE \"G\") (INSTANCE u) (DELAY (ABSOLUTE (IOPATH A Y (3:4:6))))))") ((both_edges, both_edges, pos 3, pos 6) ∷ [])
unfolding tokens_from piece_of fronts inner_port inner_def check delay_item part header after_entry entries inner_edge last_edge item last_item lone_item after_items after_list
one-value = refl

-- of two values the first speaks of a rise, the second of a fall
two-values : Gives (codes "(DELAYFILE (TIMESCALE 1fs) (CELL (CELLTYPE \"G\") (INSTANCE u) (DELAY (ABSOLUTE (IOPATH A Y (3) (5))))))") ((both_edges, rising, pos 3, pos 3) ∷ (both_edges, falling, pos 5, pos 5) ∷ [])
unfolding tokens_from piece_of fronts inner_port inner_def check delay_item part header after_entry entries inner_edge last_edge item last_item lone_item after_items after_list
two-values = refl

-- each further one speaks of both
three-values : Gives (codes "(DELAYFILE (TIMESCALE 1fs) (CELL (CELLTYPE \"G\") (INSTANCE u) (DELAY (ABSOLUTE (IOPATH A Y (3) (5) (1))))))") ((both_edges, rising, pos 3, pos 3) ∷ (both_edges, falling, pos 5, pos 5) ∷ (both_edges, both_edges, pos 1, pos 1) ∷ [])
unfolding tokens_from piece_of fronts inner_port inner_def check delay_item part header after_entry entries inner_edge last_edge item last_item lone_item after_items after_list
three-values = refl

-- an empty value counts as one
empty-value : Gives (codes "(DELAYFILE (TIMESCALE 1fs) (CELL (CELLTYPE \"G\") (INSTANCE u) (DELAY (ABSOLUTE (IOPATH A Y () (5))))))") ((both_edges, falling, pos 5, pos 5) ∷ [])
unfolding tokens_from piece_of fronts inner_port inner_def check delay_item part header after_entry entries inner_edge last_edge item last_item lone_item after_items after_list
empty-value = refl

-- a path begins at the edge of its first port
two-edges : Gives (codes "(DELAYFILE (TIMESCALE 1fs) (CELL (CELLTYPE \"G\") (INSTANCE u) (DELAY (ABSOLUTE (IOPATH (posedge A) Y (3) (5)) (IOPATH (negedge A) Y (7) (9))))))") ((rising, rising, pos 3, pos 3) ∷ (rising, falling, pos 5, pos 5) ∷ (falling, rising, pos 7, pos 7) ∷ (falling, falling, pos 9, pos 9) ∷ [])
unfolding tokens_from piece_of fronts inner_port inner_def check delay_item part header after_entry entries inner_edge last_edge item last_item lone_item after_items after_list
two-edges = refl

-- so does one under a condition, and values without a number tell nothing
two-conditions : Gives (codes "(DELAYFILE (TIMESCALE 1fs) (CELL (CELLTYPE \"G\") (INSTANCE u) (DELAY (ABSOLUTE (COND B (IOPATH A Y (3) (5))) (COND !B (IOPATH (negedge A) Y (4) (2))) (IOPATH A Y ())))))") ((both_edges, rising, pos 3, pos 3) ∷ (both_edges, falling, pos 5, pos 5) ∷ (falling, rising, pos 4, pos 4) ∷ (falling, falling, pos 2, pos 2) ∷ [])
unfolding tokens_from piece_of fronts inner_port inner_def check delay_item part header after_entry entries inner_edge last_edge item last_item lone_item after_items after_list
two-conditions = refl

-- of a wire and of a port no edge is read
wires : Gives (codes "(DELAYFILE (TIMESCALE 1fs) (CELL (CELLTYPE \"G\") (INSTANCE u) (DELAY (ABSOLUTE (INTERCONNECT a b (3) (5)) (PORT (posedge A) (7))))))") ((both_edges, rising, pos 3, pos 3) ∷ (both_edges, falling, pos 5, pos 5) ∷ (both_edges, both_edges, pos 7, pos 7) ∷ [])
unfolding tokens_from piece_of fronts inner_port inner_def check delay_item part header after_entry entries inner_edge last_edge item last_item lone_item after_items after_list
wires = refl

-- a check speaks of both edges, and begins at the edge of its first port
checks : Gives (codes "(DELAYFILE (TIMESCALE 1fs) (CELL (CELLTYPE \"G\") (INSTANCE u) (TIMINGCHECK (SETUP (posedge D) G (1)) (SETUP (10 D) (posedge G) (4)) (HOLD D (negedge G) (7)))))") ((rising, both_edges, pos 1, pos 1) ∷ (falling, both_edges, pos 4, pos 4) ∷ (both_edges, both_edges, pos 7, pos 7) ∷ [])
unfolding tokens_from piece_of fronts inner_port inner_def check delay_item part header after_entry entries inner_edge last_edge item last_item lone_item after_items after_list
checks = refl

-- a SETUPHOLD is two of them, a port may stand under a condition, and the edge of a WIDTH isn't read
both-checks : Gives (codes "(DELAYFILE (TIMESCALE 1fs) (CELL (CELLTYPE \"G\") (INSTANCE u) (TIMINGCHECK (SETUPHOLD (COND B (01 D)) (posedge G) (1) (2)) (WIDTH (negedge G) (5)))))") ((rising, both_edges, pos 1, pos 1) ∷ (rising, both_edges, pos 2, pos 2) ∷ (both_edges, both_edges, pos 5, pos 5) ∷ [])
unfolding tokens_from piece_of fronts inner_port inner_def check delay_item part header after_entry entries inner_edge last_edge item last_item lone_item after_items after_list
both-checks = refl
