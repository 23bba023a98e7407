use Rattle.std.proofs.Common.{◌++◌, ap, ◌∙◌}
use Rattle.std.specs.Prelude.{codes}
use Rattle.std.proofs.lemmas.Result.{on_ok_weaker}
use Rattle.mintc_timing.specs.Design.{pair_at}
use Rattle.mintcx_frame.specs.Names.{element_name, phase_name}
use Rattle.mintcx_judgements.specs.Shown.{about}
use Rattle.mintcx_judgements.proofs.WrittenLaws.{raced}
use Rattle.mintcx_judgements.proofs.rules.put_racing.Goals as goal

pub returns : goal.returns
returns c =
    let t = c.args.told.now.system.now in
    let n = c.in-Some.pair in
    on_ok_weaker c.put-5.result
    (λ e. rw c.in-Some.is
    (raced c.args.lines.now c.put.new.self c.put-2.new.self c.put_about.new.lines c.put-3.new.self c.put-4.new.self c.put_about-2.new.lines c.put-5.new.self
    (codes "         data of ") (element_name t.flat (pair_at t n).from) (about (codes " (") (phase_name t.flat c.args.i) (codes ")"))
    (codes " could run through ") (element_name t.flat (pair_at t n).to) (about (codes " (") (phase_name t.flat c.args.j) (codes ") too soon"))
    c.in_ok-put.ensures.ok
    (c.in_ok-put-2.ensures.ok ∙ ap (λ v. c.put.new.self ++ v) (c.element_name.ensures ∙ ap (λ p. element_name t.flat p.from) c.pair-joined.ensures.value))
    (c.in_ok-put_about.ensures ∙ ap (λ v. c.put-2.new.self ++ about (codes " (") v (codes ")")) c.phase_name.ensures)
    c.in_ok-put-3.ensures.ok
    (c.in_ok-put-4.ensures.ok ∙ ap (λ v. c.put-3.new.self ++ v) (c.element_name-2.ensures ∙ ap (λ p. element_name t.flat p.to) c.pair-joined.ensures.value))
    (c.in_ok-put_about-2.ensures ∙ ap (λ v. c.put-4.new.self ++ about (codes " (") v (codes ") too soon")) c.phase_name-2.ensures)
    e))
    c.put-5.ensures.ok
