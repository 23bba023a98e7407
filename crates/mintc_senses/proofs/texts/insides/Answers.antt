use Rattle.std.proofs.Common.{get_or, None, ap, sym, ◌∙◌}
use Rattle.std.specs.Option.{option_or}
use Rattle.mintc_cells.specs.Entries.{name_at}
use Rattle.mintc_liberty_tokens.specs.Statements.{front}
use Rattle.mintc_liberty_cell.specs.Meaning.{groups}
use Rattle.mintc_liberty_cell.specs.Seen.{group_seen}
use Rattle.mintc_liberty.specs.Meaning.{cells_in}
use Rattle.mintc_senses.specs.Senses.{cell_inside}
use Rattle.mintc_senses.specs.Seen.{inside_seen}
use Rattle.mintc_senses.proofs.NoteLaws.{less-than, one-more, or-nothing}
use Rattle.mintc_senses.proofs.texts.insides.Goals as goal

pub loop-group-init : goal.loop-group-init
loop-group-init c = record {
  count = c.in_ok-found.ensures.length ∙ c.count.ensures.count;
  found = λ k h. ap (λ o. option_or o (cell_inside (name_at c.args.cells.now k) (cells_in (groups (front 63 c.copy-reader.result).statements)))) (c.in_ok-found.ensures.none k (less-than c.count.ensures.count h))
      ∙ ap (λ ts. cell_inside (name_at c.args.cells.now k) (cells_in (groups (front 63 ts).statements))) c.copy-reader.ensures;
}

pub note-requires : goal.note-requires
note-requires c = c.loop-group.invariant.count

pub loop-group-preserved : goal.loop-group-preserved
loop-group-preserved c = record {
  count = c.note.ensures.length;
  found = λ k h.
      sym (one-more (name_at c.args.cells.now k) _ _ (group_seen 62 c.in-Some.group) _ _ c.in-Some.ensures.some (c.note.ensures.found k h)) ∙ c.loop-group.invariant.found k h;
}

pub returns-clause-length : goal.returns-clause-length
returns-clause-length c = c.loop-group.invariant.count

pub returns-clause-found : goal.returns-clause-found
returns-clause-found c = λ k h.
    let old = inside_seen (get_or c.loop-group.found.items k None) in
    sym (or-nothing old) ∙ sym (ap (λ gs. option_or old (cell_inside (name_at c.args.cells.now k) (cells_in gs))) c.in_default.ensures.none) ∙ c.loop-group.invariant.found k h
