-- The designs of files have their parts in their ranges.
use Rattle.std.proofs.Common.{◌≡◌, ℕ, Bool, true, false, cond, List, [], ◌∷◌, Option, Some, None, option_map, filter_map, Result, Ok, Err, refl, sym, ap, subst, ◌∙◌, arith}
use Rattle.std.specs.List.{cons_option, list_all}
use Rattle.mintc_toml.specs.Rules.{is_name}
use Rattle.mintc_verilog.specs.Laws.{AreOrdinary}
use Rattle.mintc_sdf.specs.Laws.{AreWithin}
use Rattle.mintc_cells.specs.declared.cell.Cell.{Cell}
use Rattle.mintc_cells.specs.Entries.{AreKept, is_kept}
use Rattle.mintc_cells.specs.Laws.{CellsKeepRules}
use Rattle.mintc_clock.specs.Laws.{ClocksKeepLimits}
use Rattle.mintc_liberty_tokens.specs.Statements.{Statements}
use Rattle.mintc_liberty_cell.specs.Meaning.{cell_of, groups}
use Rattle.mintc_liberty_cell.proofs.SharedCountLaws.{both, cell-good}
use Rattle.mintc_liberty.specs.Meaning.{cells_in, put_all, read, usable}
use Rattle.mintc_liberty.specs.Texts.{library_of}
use Rattle.mintc_flatten_hierarchy.specs.Shape.{CellTable, HierarchiesAreInShape}
use Rattle.mintc_annotate.proofs.SharedPartLaws.{parts_of}
use Rattle.mintc_build.specs.FilesDesign.{CellText, described_by, library_by}
use Rattle.mintc_build_laws.specs.Sound.{DesignsAreSound}

-- The cells that a text of this form describes keep their rules.
abbrev AreGood : (List ℕ → CellText) → Type 0
AreGood by = (c : List ℕ) (cells : CellTable) → (by c).Describes cells → AreKept cells

sound : (by : List ℕ → CellText) → AreGood by → AreOrdinary → AreWithin → ClocksKeepLimits → HierarchiesAreInShape → DesignsAreSound by
sound by good ordinary within clocks shapes most v d c k design limits short is =
    let netlist = ordinary v is.netlist short is.read.netlist_read in
    let shape = shapes is.cells is.hierarchy (most, is.netlist, is.clock.top, limits, netlist, is.flat) in
    parts_of is.hierarchy is.cells is.clock is.delays design shape (good c is.cells is.read.cells_read) (clocks k is.clock is.read.clock_read) (within d is.delays is.read.delays_read) is.annotated.whole

pub described_are_sound : AreOrdinary → AreWithin → ClocksKeepLimits → HierarchiesAreInShape → CellsKeepRules → DesignsAreSound described_by
described_are_sound ordinary within clocks shapes rules = sound described_by (λ c cells described. (rules c cells described).1) ordinary within clocks shapes

-- ---- the cells of a library

usable_kept : (b : Bool) (name : List ℕ) (inner : Statements) (c : List ℕ × Cell) → is_name name ≡ b → (o : Option Cell) → cell_of inner ≡ o →
    cond b (option_map (λ cell. (name, cell)) o) None ≡ Some c → is_kept c ≡ true
usable_kept true name inner c f None e g = absurd (cc)
usable_kept true name inner c f (Some cell) e g =
    let same : (name, cell) ≡ c = cc in
    let good = cell-good (groups inner) cell e in
    ap is_kept (sym same) ∙ both _ _ true true (both _ _ true true f good.0) good.1
usable_kept false name inner c f o e g = absurd (cc)

one_kept : (e : List ℕ × Statements) (c : List ℕ × Cell) → usable e ≡ Some c → is_kept c ≡ true
one_kept e c h = usable_kept (is_name e.0) e.0 e.1 c refl (cell_of e.1) refl h

with_one : (o : Option (List ℕ × Cell)) (cs : List (List ℕ × Cell)) → ((c : List ℕ × Cell) → o ≡ Some c → is_kept c ≡ true) → list_all is_kept cs ≡ true → list_all is_kept (cons_option o cs) ≡ true
with_one None cs one rest = rest
with_one (Some c) cs one rest = both (is_kept c) (list_all is_kept cs) true true (one c refl) rest

all_kept : (es : List (List ℕ × Statements)) → list_all is_kept (filter_map usable es) ≡ true
all_kept [] = refl
all_kept (e ∷ es) = with_one (usable e) (filter_map usable es) (one_kept e) (all_kept es)

read_kept : (r : Result Statements ℕ) (cells : List (List ℕ × Cell)) → read r ≡ Ok cells → AreKept cells
read_kept (Ok is) cells h =
    let same : filter_map usable (put_all (cells_in (groups is)) []) ≡ cells = cc in
    subst AreKept same (all_kept (put_all (cells_in (groups is)) []))
read_kept (Err n) cells h = absurd (cc)

pub libraries_are_sound : AreOrdinary → AreWithin → ClocksKeepLimits → HierarchiesAreInShape → DesignsAreSound library_by
libraries_are_sound ordinary within clocks shapes = sound library_by (λ c cells said. read_kept (library_of c) cells said) ordinary within clocks shapes
