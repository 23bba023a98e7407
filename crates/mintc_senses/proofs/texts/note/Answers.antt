use Rattle.std.proofs.Common.{◌≡◌, true, false, Some, None, is_none, get_or, length, codes, bytes_eq, refl, sym, ◌∙◌, arith}
use Rattle.std.proofs.lemmas.Grind.{common_steps}
use Rattle.mintc_cells.specs.Entries.{name_at, number_of}
use Rattle.mintc_liberty_tokens.specs.Tokens.{is_item}
use Rattle.mintc_liberty_tokens.specs.Statements.{taken}
use Rattle.mintc_liberty_cell.specs.Meaning.{only_name}
use Rattle.mintc_liberty_cell.specs.Seen.{group_seen}
use Rattle.mintc_senses.proofs.NoteLaws.{stays, named-cell, not-numbered, noted-first, noted-later}
use Rattle.mintc_senses.proofs.texts.note.Goals as goal

pub returns-in_default-find-clause-found : goal.returns-in_default-find-clause-found
returns-in_default-find-clause-found c = λ k h.
    let cell : bytes_eq c.args.group.name.now (codes "cell") ≡ true = grind (arith, common_steps, c.if-ne.ensures, c.as_slice.ensures) in
    let only : only_name (taken is_item c.args.group.items) ≡ Some c.in-Some.name.now = c.in-Some.ensures in
    let number : number_of c.args.cells.now c.in-Some.name.now ≡ None = sym c.find.ensures ∙ c.in_default-find.is in
    stays _ _ _ refl (named-cell (name_at c.args.cells.now k) c.in-Some.name.now (group_seen 62 c.args.group) false cell only (not-numbered c.args.cells.now c.in-Some.name.now k number h))

pub returns-then-is_none-clause-found : goal.returns-then-is_none-clause-found
returns-then-is_none-clause-found c = λ k h.
    let cell : bytes_eq c.args.group.name.now (codes "cell") ≡ true = grind (arith, common_steps, c.if-ne.ensures, c.as_slice.ensures) in
    let only : only_name (taken is_item c.args.group.items) ≡ Some c.in-Some.name.now = c.in-Some.ensures in
    let number : number_of c.args.cells.now c.in-Some.name.now ≡ Some c.in-Some-find.number = sym c.find.ensures ∙ c.in-Some-find.is in
    let before : get_or c.args.found.now.items c.in-Some-find.number None ≡ None = grind (arith, common_steps, c.if-is_none.ensures, c.index.ensures) in
    let size : length c.args.found.now.items ≡ length c.args.cells.now = grind (arith, c.requires) in
    noted-first c.args.cells.now c.in-Some.name.now (group_seen 62 c.args.group) c.in-Some-find.number c.count-count.ensures.kept.ascending number cell only c.args.found.now.items _ c.args.group.inside k size refl before refl h

pub returns-else-is_none-clause-found : goal.returns-else-is_none-clause-found
returns-else-is_none-clause-found c = λ k h.
    let cell : bytes_eq c.args.group.name.now (codes "cell") ≡ true = grind (arith, common_steps, c.if-ne.ensures, c.as_slice.ensures) in
    let only : only_name (taken is_item c.args.group.items) ≡ Some c.in-Some.name.now = c.in-Some.ensures in
    let number : number_of c.args.cells.now c.in-Some.name.now ≡ Some c.in-Some-find.number = sym c.find.ensures ∙ c.in-Some-find.is in
    let before : is_none (get_or c.args.found.now.items c.in-Some-find.number None) ≡ false = grind (arith, common_steps, c.if-is_none.ensures, c.index.ensures) in
    noted-later c.args.cells.now c.in-Some.name.now (group_seen 62 c.args.group) c.in-Some-find.number c.count-count.ensures.kept.ascending number cell only c.args.found.now.items k before h
