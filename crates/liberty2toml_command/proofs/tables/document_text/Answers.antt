use Rattle.std.proofs.Common.{◌≡◌, ◌≤◌, Some, IsUtf8, string_bytes, sym, ap, subst, ◌∙◌}
use Rattle.std.proofs.lemmas.Str.{IsUtf8-had}
use Rattle.toml.specs.Data.{members_depth}
use Rattle.toml.specs.Parse.{parse_document}
use Rattle.toml.specs.View.{table_view}
use Rattle.liberty2toml_command.specs.Tables.{document_of}
use Rattle.liberty2toml_command.proofs.TableLaws.{in-document, shallow}
use Rattle.liberty2toml_command.proofs.tables.document_text.Goals as goal

pub returns-in-Ok : goal.returns-in-Ok
returns-in-Ok c =
    let cells = c.args.cells.now in
    let same : string_bytes c.in-Ok.text ≡ c.into_bytes.result.items = ap (λ v. v.items) (sym c.into_bytes.ensures.value) in
    let deep : members_depth (table_view c.args.document.now) ≤ 80 = subst (λ ms. members_depth ms ≤ 80) (sym c.requires.document) (shallow cells) in
    (document_of cells, (subst IsUtf8 same (IsUtf8-had _ c.in-Ok.text.ok), ap parse_document (sym same) ∙ c.in-Ok.ensures.reads_back deep ∙ ap Some c.requires.document), in-document cells c.requires.kept.ascending c.requires.kept.each)
