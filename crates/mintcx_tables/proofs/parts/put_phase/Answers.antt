use Rattle.std.proofs.Common.{◌∷◌, [], codes}
use Rattle.std.proofs.lemmas.Result.{on_ok_weaker}
use Rattle.mintcx_tables.proofs.PieceLaws.{line_of_one}
use Rattle.mintcx_tables.proofs.parts.put_phase.Goals as goal

pub returns : goal.returns
returns c =
    on_ok_weaker c.put-2.result
    (λ e. line_of_one c.args.lines.now c.put.new.self c.put_word.new.lines c.put-2.new.self (codes "phase") (c.args.name.now ∷ [])
    c.in_ok-put.ensures.ok c.in_ok-put_word.ensures e)
    c.put-2.ensures.ok
