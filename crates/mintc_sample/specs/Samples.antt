-- The texts of a sample: a ring of 2,000 latches, each fed by a gate from the latches one and three before it.
use Rattle.std.specs.Prelude.{ℕ, ◌+◌, ◌*◌, ◌/◌, ◌%◌, List, [], ◌∷◌, ◌++◌, flat_map, codes, decimal}
use Rattle.std.specs.List.{range_with_len}
use Rattle.mintc_text.specs.Signs.{dot}
use Rattle.mintc_text.specs.Lines.{text_of}

-- how many latches the ring has
abbrev pub latches : ℕ
latches = 2000

-- a word and a number after it
unfoldable pub numbered : List ℕ → ℕ → List ℕ
numbered word n = word ++ decimal n

-- the lines of the netlist, by the number of a latch
abbrev pub gate_line : ℕ → List ℕ
gate_line l =
    numbered (codes "MIX g") l ++ numbered (codes " (.A(y") ((l + 1999) % 2000)
    ++ numbered (codes "), .B(y") ((l + 1997) % 2000) ++ numbered (codes "), .Y(x") l ++ codes "));"

-- the line of the latch of a number
abbrev pub latch_line : ℕ → List ℕ
latch_line l = numbered (codes "LAT u") l ++ numbered (codes " (.D(x") l ++ numbered (codes "), .G(c") (1 + l % 2)
    ++ numbered (codes "), .Q(y") l ++ codes "));"

-- the two lines of a place of the ring
abbrev pub ring_lines : ℕ → List (List ℕ)
ring_lines l = gate_line l ∷ latch_line l ∷ []

-- the lines of some places
abbrev pub rings : List ℕ → List (List ℕ)
rings ls = flat_map ring_lines ls

-- the text of the first places of a ring
unfoldable pub ring_text : ℕ → List ℕ
ring_text count = text_of (rings (range_with_len 0 count))

-- the lines before the ring
abbrev pub module_lines : List (List ℕ)
module_lines = codes "module ring(c1, c2);" ∷ codes "input c1;" ∷ codes "input c2;" ∷ []

-- the text of the netlist
abbrev pub netlist_text : List ℕ
netlist_text = text_of module_lines ++ ring_text latches ++ text_of (codes "endmodule" ∷ [])

-- the delay of the gate before a latch, in femtoseconds, of the sample of a number
abbrev pub weight : ℕ → ℕ → ℕ
weight number l = 1000000 + number % 1000 + (387 * l + number % 1000) % 1000

-- the last digit of a number, as its byte
abbrev pub digit : ℕ → ℕ
digit n = 48 + n % 10

-- femtoseconds as picoseconds, with three digits behind the point
abbrev pub picoseconds : ℕ → List ℕ
picoseconds n = decimal (n / 1000) ++ dot ∷ digit (n / 100) ∷ digit (n / 10) ∷ digit n ∷ []

-- the entry of the gate before a latch, of the sample of a number
abbrev pub cell_line : ℕ → ℕ → List ℕ
cell_line number l =
    numbered (codes "(CELL (CELLTYPE \"MIX\") (INSTANCE g") l ++ codes ") (DELAY (ABSOLUTE (IOPATH A Y ("
    ++ picoseconds (weight number l) ++ codes ")) (IOPATH B Y (0)))))"

-- the entries of some places
abbrev pub cell_lines : ℕ → List ℕ → List (List ℕ)
cell_lines number ls = flat_map (λ l. cell_line number l ∷ []) ls

-- the text of the entries of the first places
unfoldable pub entries_text : ℕ → ℕ → List ℕ
entries_text number count = text_of (cell_lines number (range_with_len 0 count))

-- the text of the delays of the sample of a number
abbrev pub delays_text : ℕ → List ℕ
delays_text number = text_of (codes "(DELAYFILE" ∷ codes "(TIMESCALE 1 ps)" ∷ []) ++ entries_text number latches
    ++ text_of (codes ")" ∷ [])

-- the cells and the clock, which are the same for each number
abbrev pub cells_text : List ℕ
cells_text = text_of
    (codes "[cell.MIX]" ∷ codes "kind = \"gate\"" ∷ codes "inputs = [\"A\", \"B\"]" ∷ codes "outputs = [\"Y\"]"
    ∷ codes "[cell.LAT]" ∷ codes "kind = \"latch\"" ∷ codes "d = \"D\"" ∷ codes "g = \"G\"" ∷
    codes "outputs = [\"Q\"]" ∷ codes "setup = 30000" ∷ codes "dq_min = 20000" ∷ [])

-- the clock, which is the same for each number
abbrev pub clock_text : List ℕ
clock_text = text_of (codes "[[phase]]" ∷ codes "name = \"p1\"" ∷ codes "port = \"c1\"" ∷ codes "[[phase]]" ∷
    codes "name = \"p2\"" ∷ codes "port = \"c2\"" ∷ [])
