use Rattle.std.proofs.Common.{sym, ◌∙◌}
use Rattle.mintc_annotate_resolve.proofs.SharedPlaceLaws.{put_place}
use Rattle.mintc_annotate_resolve.proofs.places.note.Goals as goal

pub returns : goal.returns
returns c =
    put_place c.args.places.now c.insert.new.self c.in_ok-key.key c.args.text.now c.args.place c.in_ok-insert.ensures.updates.0 c.in_ok-key.ensures.items (sym c.contains_key.ensures ∙ c.if-contains_key.false)
