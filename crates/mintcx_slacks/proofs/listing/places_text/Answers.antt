use Rattle.std.proofs.Common.{◌≡◌, ◌++◌, ◌∷◌, [], ap, ◌∙◌}
use Rattle.std.specs.Prelude.{codes}
use Rattle.mintc_text.specs.Lines.{ended}
use Rattle.mintcx_frame.specs.Ends.{foot_text, head_text, unit_for}
use Rattle.mintcx_slacks.specs.Slacks.{listed_text, pairs_line, slack_note}
use Rattle.mintcx_slacks.proofs.RestLaws.{whole_written}
use Rattle.mintcx_slacks.proofs.listing.places_text.Goals as goal

pub returns : goal.returns
returns c =
    let cycle = c.args.cycle.now in
    let view = c.args.view.now in
    let unit = unit_for view.unit cycle in
    let same = c.unit_for-unit.ensures in
    c.new.ensures ∙ c.into_bytes.ensures
    ∙ whole_written c.new-lines.result c.put_head.new.lines c.put.new.self c.put_pairs.new.lines c.put-2.new.self c.put_listed.new.lines c.put-3.new.self c.put_foot.new.lines
    (head_text (codes "slack") cycle view) (10 ∷ []) (ended (pairs_line c.args.extra.now)) (10 ∷ []) (listed_text c.args.system.now unit view.limit c.args.places.now) (10 ∷ [])
    (foot_text unit slack_note)
    c.new-lines.ensures c.in_ok-put_head.ensures c.in_ok-put.ensures.ok c.in_ok-put_pairs.ensures c.in_ok-put-2.ensures.ok
    (c.in_ok-put_listed.ensures ∙ ap (λ u. c.put-2.new.self ++ listed_text c.args.system.now u view.limit c.args.places.now) same)
    c.in_ok-put-3.ensures.ok
    (c.in_ok-put_foot.ensures ∙ ap (λ u. c.put-3.new.self ++ foot_text u slack_note) same)
