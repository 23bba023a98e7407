use Rattle.std.proofs.Common.{◌≡◌, ◌<◌, length, arith, ap, ◌∙◌}
use Rattle.mintc_timing.specs.Design.{Design, element_count}
use Rattle.mintc_slack.proofs.WalkedLaws.{back_of}
use Rattle.mintc_slack.proofs.hub.moment_of.Goals as goal

pub returns-clause-back : goal.returns-clause-back
returns-clause-back c =
    let t = c.args.system.now in
    let count : length c.elements.result.now ≡ element_count t.flat = ap length c.elements.ensures.value ∙ ap (λ (d : Design). element_count d) c.flat.ensures.value in
    let below : c.match-link.element < element_count t.flat = (let test = c.if-element-elements.false in omega (arith, count)) in
    rw (c.element_node.ensures.value, c.flat-2.ensures.value) (back_of t c.flat-2.ensures.design c.match-link.element below)
