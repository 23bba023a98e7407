use Rattle.std.specs.Prelude.{codes}
use Rattle.std.proofs.lemmas.Result.{on_ok_weaker}
use Rattle.mintcx_frame.specs.Ends.{subject_text}
use Rattle.mintcx_verdicts.proofs.WrittenLaws.{in_four}
use Rattle.mintcx_verdicts.proofs.heads.put_never.Goals as goal

pub returns : goal.returns
returns c = on_ok_weaker c.put_subject.result
    (λ e. in_four c.args.lines.now (codes "valid  no schedule of ") c.args.design.now (codes " is right") (subject_text c.args.view.now.subject)
    c.in_ok-put.ensures.ok c.in_ok-put-2.ensures.ok c.in_ok-put-3.ensures.ok e)
    c.put_subject.ensures
