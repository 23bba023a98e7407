use Rattle.std.proofs.Common.{[], ◌∷◌, ◌++◌, ap, ◌∙◌}
use Rattle.std.specs.Prelude.{codes}
use Rattle.std.proofs.lemmas.Result.{on_ok_weaker}
use Rattle.mintc_timing.specs.declared.link.Link.{Link}
use Rattle.mintcx_frame.specs.Names.{node_name}
use Rattle.mintcx_verdicts.specs.Chains.{after_word, begin_at, end_at, member_words, place_after}
use Rattle.mintcx_verdicts.proofs.WrittenLaws.{in_six}
use Rattle.mintcx_verdicts.proofs.ring.put_break.Goals as goal

pub returns : goal.returns
returns c =
    let design = c.args.flat.now in
    let members = c.args.members.now in
    let n = c.args.place in
    on_ok_weaker c.put-3.result
    (λ e. in_six c.args.lines.now (member_words n) (codes " leads to ") (node_name design (end_at design members n)) (after_word members n)
    (node_name design (begin_at design members (place_after members n))) (10 ∷ []) c.in_ok-put_member.ensures c.in_ok-put.ensures.ok
    (c.in_ok-put_node.ensures ∙ ap (λ (k : Link). c.put.new.self ++ node_name design k.to) c.link_at-end.ensures.value)
    (c.in_ok-put-2.ensures.ok ∙ ap (λ v. c.put_node.new.lines ++ v) c.after_word.ensures)
    (c.in_ok-put_node-2.ensures ∙ ap (λ (k : Link). c.put-2.new.self ++ node_name design k.from) c.link_at-begin.ensures.value
    ∙ ap (λ m. c.put-2.new.self ++ node_name design (begin_at design members m)) c.place_after.ensures.value)
    e)
    c.put-3.ensures.ok
