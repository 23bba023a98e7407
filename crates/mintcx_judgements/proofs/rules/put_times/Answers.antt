use Rattle.std.proofs.Common.{◌++◌, ap, ◌∙◌}
use Rattle.std.proofs.lemmas.Result.{on_ok_weaker}
use Rattle.mintcx_judgements.specs.Shown.{timed}
use Rattle.mintcx_judgements.proofs.WideLaws.{read_wide}
use Rattle.mintcx_judgements.proofs.WrittenLaws.{line_of_two}
use Rattle.mintcx_judgements.proofs.rules.put_times.Goals as goal

pub returns : goal.returns
returns c =
    let unit = c.args.told.now.unit in
    let s = c.args.told.now.schedule.now in
    let says = c.args.says.now in
    let joins = c.args.joins.now in
    on_ok_weaker c.put.result
    (λ e. line_of_two c.args.lines.now (timed unit s says c.args.time) (timed unit s joins c.args.other)
    (c.in_ok-put_timed.ensures ∙ ap (λ x. c.args.lines.now ++ timed unit s says x) (read_wide c.args.time c.requires.time))
    (c.in_ok-put_timed-2.ensures ∙ ap (λ x. c.put_timed.new.lines ++ timed unit s joins x) (read_wide c.args.other c.requires.other))
    e)
    c.put.ensures.ok
