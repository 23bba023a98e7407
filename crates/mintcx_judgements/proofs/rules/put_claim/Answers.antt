use Rattle.std.proofs.Common.{◌++◌, ap, ◌∙◌}
use Rattle.std.proofs.lemmas.Result.{on_ok_weaker}
use Rattle.mintc_fraction.specs.Ratio.{over}
use Rattle.mintcx_frame.specs.Ends.{time_text}
use Rattle.mintcx_frame.specs.Names.{phase_name}
use Rattle.mintcx_judgements.specs.Shown.{measured}
use Rattle.mintcx_judgements.proofs.WideLaws.{read_wide}
use Rattle.mintcx_judgements.proofs.WrittenLaws.{claimed}
use Rattle.mintcx_judgements.proofs.rules.put_claim.Goals as goal

pub returns : goal.returns
returns c =
    let unit = c.args.told.now.unit in
    let s = c.args.told.now.schedule.now in
    let says = c.args.says.now in
    let by = c.args.excess.amount in
    on_ok_weaker c.put_measured.result
    (λ e. claimed c.args.lines.now c.put.new.self c.put-2.new.self c.put_measured.new.lines c.args.kind.now
    (phase_name c.args.told.now.system.now.flat c.args.excess.phase) says (time_text unit (over by s.den)) c.in_ok-put.ensures.ok
    (c.in_ok-put-2.ensures.ok ∙ ap (λ v. c.put.new.self ++ v) c.phase_name.ensures)
    (e ∙ ap (λ x. c.put-2.new.self ++ measured unit s says x) (read_wide by c.requires.amount)))
    c.put_measured.ensures
