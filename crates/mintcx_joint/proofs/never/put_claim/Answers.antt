use Rattle.std.proofs.Common.{◌++◌, ap, ◌∙◌}
use Rattle.std.specs.Prelude.{codes}
use Rattle.std.proofs.lemmas.Result.{on_ok_weaker}
use Rattle.mintcx_frame.specs.declared.view.View.{View}
use Rattle.mintcx_frame.specs.Ends.{subject_text}
use Rattle.mintcx_joint.specs.CornersText.{cornered}
use Rattle.mintcx_joint.proofs.WrittenLaws.{more}
use Rattle.mintcx_joint.proofs.never.put_claim.Goals as goal

pub returns : goal.returns
returns c =
    on_ok_weaker c.put_subject.result
    (λ e. more c.args.lines.now c.put.new.self c.put_subject.new.lines (codes "never  no schedule is right in all corners") (subject_text (cornered c.args.count c.args.view.now).subject)
    c.in_ok-put.ensures.ok (e ∙ ap (λ (v : View). c.put.new.self ++ subject_text v.subject) c.in_ok-joint.ensures))
    c.put_subject.ensures
