-- A cell that is used has its name, and keeps its rules.
use Rattle.std.proofs.Common.{◌≡◌, ℕ, Bool, true, false, cond, List, Option, Some, None, option_map, refl, sym, ap, ◌∙◌}
use Rattle.mintc_toml.specs.Rules.{is_name}
use Rattle.mintc_cells.specs.declared.cell.Cell.{Cell}
use Rattle.mintc_cells.specs.Entries.{is_kept}
use Rattle.mintc_liberty_tokens.specs.Statements.{Statements}
use Rattle.mintc_liberty_cell.specs.Meaning.{groups, cell_of}
use Rattle.mintc_liberty_cell.proofs.SharedCountLaws.{both, cell-good}
use Rattle.mintc_liberty.specs.Meaning.{usable}

used : (b : Bool) (name : List ℕ) (inner : Statements) (c : List ℕ × Cell) → is_name name ≡ b → (o : Option Cell) → cell_of inner ≡ o →
    cond b (option_map (λ cell. (name, cell)) o) None ≡ Some c → (c.0 ≡ name) × (is_kept c ≡ true)
used true name inner c f None e g = absurd (cc)
used true name inner c f (Some cell) e g =
    let same : (name, cell) ≡ c = cc in
    let good = cell-good (groups inner) cell e in
    (ap (λ (p : List ℕ × Cell). p.0) (sym same), ap is_kept (sym same) ∙ both _ _ true true (both _ _ true true f good.0) good.1)
used false name inner c f o e g = absurd (cc)

pub usable-name : (e : List ℕ × Statements) (c : List ℕ × Cell) → usable e ≡ Some c → c.0 ≡ e.0
usable-name e c h = (used (is_name e.0) e.0 e.1 c refl (cell_of e.1) refl h).0

pub usable-kept : (e : List ℕ × Statements) (c : List ℕ × Cell) → usable e ≡ Some c → is_kept c ≡ true
usable-kept e c h = (used (is_name e.0) e.0 e.1 c refl (cell_of e.1) refl h).1
