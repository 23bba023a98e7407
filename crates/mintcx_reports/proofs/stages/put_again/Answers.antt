use Rattle.std.proofs.Common.{◌≡◌, ◌++◌, ℕ, List, ap, ◌∙◌}
use Rattle.std.specs.Prelude.{codes}
use Rattle.std.proofs.lemmas.Result.{on_ok_weaker}
use Rattle.mintcx_chain.specs.Names.{from_name}
use Rattle.mintcx_optima.specs.Counts.{counted}
use Rattle.mintcx_reports.specs.Rows.{turns_text}
use Rattle.mintcx_reports.proofs.WrittenLaws.{of_five}
use Rattle.mintcx_reports.proofs.stages.put_again.Goals as goal

pub returns : goal.returns
returns c =
    let old = c.args.lines.now in
    let s = c.args.told.now.schedule.now in
    let unit = c.args.told.now.unit in
    let cycles = c.args.cycles in
    on_ok_weaker c.put_turns.result
    (λ e. of_five old c.put.new.self c.put-2.new.self c.put_counted.new.lines c.put-3.new.self c.put_turns.new.lines
    (from_name c.args.told.now.flat.now c.args.first.now) (codes " again, ") (counted cycles (codes "cycle")) (codes " on") (turns_text s unit cycles)
    (c.in_ok-put.ensures.ok ∙ ap (λ (v : List ℕ). old ++ v) (c.bytes.ensures ∙ c.in_ok-name.ensures))
    c.in_ok-put-2.ensures.ok c.in_ok-put_counted.ensures c.in_ok-put-3.ensures.ok e)
    c.put_turns.ensures
