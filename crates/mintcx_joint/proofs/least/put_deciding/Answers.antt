use Rattle.std.proofs.Common.{◌++◌, ◌∷◌, [], ap, ◌∙◌, length}
use Rattle.std.proofs.lemmas.Result.{on_ok_weaker}
use Rattle.mintcx_chain.specs.Sums.{cycles_of, delay_of}
use Rattle.mintcx_optima.specs.Counts.{decided_text}
use Rattle.mintcx_optima.specs.Least.{unit_of}
use Rattle.mintcx_joint.specs.declared.tables.Telling.TheVariants.{Through}
use Rattle.mintcx_joint.specs.Chains.{rows_text}
use Rattle.mintcx_joint.specs.Shown.{joint_stages}
use Rattle.mintcx_joint.proofs.WrittenLaws.{decided_same, more}
use Rattle.mintcx_joint.proofs.least.put_deciding.Goals as goal

pub returns : goal.returns
returns c =
    let old = c.args.lines.now in
    let ts = c.args.systems.now in
    let chain = c.args.ring.now.members.now in
    let n = c.args.ring.now.first in
    let view = c.args.view.now in
    let unit = unit_of c.args.schedule.now view in
    let stages = joint_stages ts chain in
    let sums = c.sums_of.result in
    let words = decided_text (length chain) (delay_of stages) (cycles_of stages) unit in
    let same = decided_same (length chain) sums.delay (delay_of stages) sums.cycles (cycles_of stages) c.unit_of.result unit
    (c.sums_of.ensures.delay ∙ ap delay_of c.requires.ring.are) (c.sums_of.ensures.cycles ∙ ap cycles_of c.requires.ring.are) c.unit_of.ensures in
    let begun = more old c.put_decided.new.lines c.put.new.self words (10 ∷ []) (c.in_ok-put_decided.ensures ∙ ap (λ v. old ++ v) same) c.in_ok-put.ensures.ok in
    on_ok_weaker c.put_rows.result
    (λ e. more old c.put.new.self c.put_rows.new.lines (words ++ 10 ∷ []) (rows_text Through ts unit view.limit chain n) begun
    (e ∙ ap (λ u. c.put.new.self ++ rows_text Through ts u view.limit chain n) c.unit_of.ensures))
    c.put_rows.ensures
