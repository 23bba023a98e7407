use Rattle.std.proofs.Common.{◌∙◌, ap, not, None, slice_index_or}
use Rattle.mintc_annotate.proofs.SearchLaws.{put, kept, none_of, some_of}
use Rattle.mintc_annotate.proofs.searching.add.Goals as goal

pub returns-then-is_none-clause-added : goal.returns-then-is_none-clause-added
returns-then-is_none-clause-added c = λ ds drivers.
    put ds c.args.drive c.args.table.now drivers c.requires.to c.requires.from (none_of (slice_index_or c.args.table.now c.args.drive.to None) (c.is_none.ensures ∙ ap not c.if-is_none.true))

pub returns-else-is_none-clause-added : goal.returns-else-is_none-clause-added
returns-else-is_none-clause-added c = λ ds drivers.
    let there = some_of (slice_index_or c.args.table.now c.args.drive.to None) (c.is_none.ensures ∙ ap not c.if-is_none.false) in
    kept ds c.args.drive c.args.table.now there.0 drivers c.requires.to c.requires.from there.1
