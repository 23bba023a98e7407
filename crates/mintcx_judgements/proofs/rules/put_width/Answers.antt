use Rattle.std.proofs.Common.{◌≡◌, ◌++◌, ap, ◌∙◌}
use Rattle.std.specs.Prelude.{codes}
use Rattle.std.specs.List.{range_with_len}
use Rattle.std.proofs.lemmas.Result.{on_ok_weaker}
use Rattle.mintc_timing.specs.Clocking.{width_of}
use Rattle.mintc_timing.specs.Design.{element_count}
use Rattle.mintcx_frame.specs.Names.{phase_name}
use Rattle.mintcx_judgements.specs.Rules.{asking, widest_on}
use Rattle.mintcx_judgements.specs.Shown.{about, measured, timed}
use Rattle.mintcx_judgements.proofs.WideLaws.{read_cycle, wide}
use Rattle.mintcx_judgements.proofs.WrittenLaws.{line_and_two}
use Rattle.mintcx_judgements.proofs.rules.put_width.Goals as goal

pub returns : goal.returns
returns c =
    let unit = c.args.told.now.unit in
    let s = c.args.told.now.schedule.now in
    let design = c.args.told.now.system.now.flat in
    let p = c.args.excess.phase in
    let first : wide c.width-wide.result ≡ width_of s p = read_cycle c.width-wide.result c.width-wide.ensures.range ∙ c.width-wide.ensures.value in
    on_ok_weaker c.put-2.result
    (λ e. line_and_two c.args.lines.now c.put_claim.new.lines c.put.new.self c.put_timed.new.lines c.put_asking.new.lines c.put-2.new.self
    (measured unit s (about (codes "  width  ") (phase_name design p) (codes " is too narrow by ")) c.args.excess.amount)
    (timed unit s (codes "         it is ") (width_of s p)) (asking design s unit (widest_on design p (range_with_len 0 (element_count design))))
    c.in_ok-put_claim.ensures c.in_ok-put.ensures.ok
    (c.in_ok-put_timed.ensures ∙ ap (λ x. c.put.new.self ++ timed unit s (codes "         it is ") x) first)
    (c.in_ok-put_asking.ensures ∙ ap (λ found. c.put_timed.new.lines ++ asking design s unit found) c.widest_on.ensures.value)
    e)
    c.put-2.ensures.ok
