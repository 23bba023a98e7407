use Rattle.std.proofs.Common.{◌++◌, List, ℕ, ap, ◌∙◌}
use Rattle.mintc_text.specs.Lines.{text_of}
use Rattle.mintcx_tables.specs.Lines.{table_lines}
use Rattle.mintcx_tables.proofs.TableLaws.{is_table_of}
use Rattle.mintcx_tables.proofs.text.table_text.Goals as goal

pub returns : goal.returns
returns c =
    let d = c.args.flat.now in
    is_table_of c.table_texts_are_their_lines.ensures d c.new.result c.bit_count-kept.ensures.kept c.requires
    (c.new.ensures ∙ c.into_bytes.ensures ∙ c.in_ok-put_design.ensures ∙ ap (λ (v : List ℕ). v ++ text_of (table_lines d)) c.new-lines.ensures)
