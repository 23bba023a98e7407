-- The TOML form of cells: what it says, as the data of a document. The keys of a table stand in byte order.
use Rattle.std.specs.Prelude.{ℕ, Bool, true, false, List, [], ◌∷◌, codes}
use Rattle.toml.specs.Data.{Data, string, integer, boolean, array, table, Items, no_items, item, Members, no_members}
use Rattle.toml.specs.Data.{member}
use Rattle.mintc_cells.specs.declared.cell.Cell.{Cell}
use Rattle.mintc_cells.specs.declared.cell.Cell.TheVariants.{Gate, Latch, Flop, Clock}

-- texts as items
abbrev pub text_items : List (List ℕ) → Items
text_items [] = no_items
text_items (t ∷ ts) = item (string t) (text_items ts)

-- an array of texts
abbrev pub texts : List (List ℕ) → Data
texts ts = array (text_items ts)

-- a member that is there or not
abbrev pub optional : Bool → List ℕ → Data → Members → Members
optional true key d ms = member key d ms
optional false key d ms = ms

-- the first of two texts, or the second
abbrev pub one_of : Bool → List ℕ → List ℕ → Data
one_of true first second = string first
one_of false first second = string second

-- The table of a cell. A hold that isn't there, and cq numbers that aren't there, have no key.
abbrev pub table_of : Cell → Members
table_of (Gate inputs outputs min max) =
    member (codes "inputs") (texts inputs)
    (member (codes "kind") (string (codes "gate")) (member (codes "max") (integer max)
    (member (codes "min") (integer min) (member (codes "outputs") (texts outputs) no_members))))
table_of (Latch pin_d pin_g high outputs ignored setup hold has_hold dq_min dq_max cq_min cq_max has_cq width) =
    member (codes "active") (one_of high (codes "high") (codes "low"))
    (optional has_cq (codes "cq_max") (integer cq_max) (optional has_cq (codes "cq_min") (integer cq_min)
    (member (codes "d") (string pin_d)
    (member (codes "dq_max") (integer dq_max)
    (member (codes "dq_min") (integer dq_min) (member (codes "g") (string pin_g)
    (optional has_hold (codes "hold") (integer hold)
    (member (codes "ignored") (texts ignored)
    (member (codes "kind") (string (codes "latch")) (member (codes "outputs") (texts outputs)
    (member (codes "setup") (integer setup) (member (codes "width") (integer width) no_members))))))))))))
table_of (Flop pin_d pin_clock rising outputs ignored setup hold has_hold cq_min cq_max width) =
    member (codes "clock") (string pin_clock)
    (member (codes "cq_max") (integer cq_max) (member (codes "cq_min") (integer cq_min)
    (member (codes "d") (string pin_d) (member (codes "edge") (one_of rising (codes "rising") (codes "falling"))
    (optional has_hold (codes "hold") (integer hold)
    (member (codes "ignored") (texts ignored)
    (member (codes "kind") (string (codes "flop")) (member (codes "outputs") (texts outputs)
    (member (codes "setup") (integer setup) (member (codes "width") (integer width) no_members))))))))))
table_of (Clock input output invert ignored) =
    member (codes "ignored") (texts ignored)
    (member (codes "input") (string input) (member (codes "invert") (boolean invert)
    (member (codes "kind") (string (codes "clock")) (member (codes "output") (string output) no_members))))

-- the tables of cells under their names
abbrev pub tables_of : List (List ℕ × Cell) → Members
tables_of [] = no_members
tables_of (c ∷ cs) = member c.0 (table (table_of c.1)) (tables_of cs)

-- the document of cells
abbrev pub document_of : List (List ℕ × Cell) → Members
document_of cells = member (codes "cell") (table (tables_of cells)) no_members
