use Rattle.std.proofs.Common.{◌≡◌, ◌≢◌, ◌+◌, ◌/◌, ◌%◌, ◌++◌, ap, ◌∙◌}
use Rattle.std.proofs.lemmas.Result.{on_ok_weaker}
use Rattle.mintcx_frame.specs.Names.{phase_name}
use Rattle.mintcx_frame.proofs.NodeLaws.{ends, starts, written}
use Rattle.mintcx_frame.proofs.names.put_edge.Goals as goal

pub returns-in_ok-put : goal.returns-in_ok-put
returns-in_ok-put c =
    let design = c.args.flat.now in
    let node = c.args.node in
    let begun : c.put.new.self ≡ c.args.lines.now ++ phase_name design (node / 2 + 1) = c.in_ok-put.ensures.ok ∙ ap (λ v. c.args.lines.now ++ v) c.phase_name.ensures in
    on_ok_weaker c.put-then-node-eq1.result
    (λ e. written c.args.lines.now c.put.new.self c.put-then-node-eq1.new.self (phase_name design (node / 2 + 1)) _ _ begun e
    (starts design node c.if-node-eq1.true c.requires.last)) c.put-then-node-eq1.ensures.ok

pub returns-in_ok-put-2 : goal.returns-in_ok-put-2
returns-in_ok-put-2 c =
    let design = c.args.flat.now in
    let node = c.args.node in
    let begun : c.put-else-node-eq1.new.self ≡ c.args.lines.now ++ phase_name design (node / 2) = c.in_ok-put-2.ensures.ok ∙ ap (λ v. c.args.lines.now ++ v) c.phase_name-else-node-eq1.ensures in
    on_ok_weaker c.put-else-node-eq1-2.result
    (λ e. written c.args.lines.now c.put-else-node-eq1.new.self c.put-else-node-eq1-2.new.self (phase_name design (node / 2)) _ _ begun e
    (ends design node c.if-node-eq1.false c.requires.first c.requires.last)) c.put-else-node-eq1-2.ensures.ok
