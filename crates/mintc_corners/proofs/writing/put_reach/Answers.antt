use Rattle.std.proofs.Common.{◌∷◌, [], codes, map, length}
use Rattle.std.proofs.lemmas.Result.{on_ok_weaker}
use Rattle.mintc_timing_text.specs.Fields.{number}
use Rattle.mintc_certificate.proofs.SharedWritingLaws.{line_in_parts}
use Rattle.mintc_corners.proofs.writing.put_reach.Goals as goal

pub returns : goal.returns
returns c =
    on_ok_weaker c.put-2.result
    (line_in_parts c.args.lines.now c.put.new.self c.numbers.new.self c.numbers-2.new.self c.put-2.new.self (codes "reach")
    (number c.args.corner ∷ number c.args.from ∷ number c.args.to ∷ number (length c.args.arcs.now) ∷ []) (map number c.args.arcs.now) c.in_ok-put.ensures.ok c.in_ok-numbers.ensures.ok c.in_ok-numbers-2.ensures.ok)
    c.put-2.ensures.ok
