use Rattle.std.proofs.Common.{◌≡◌, [], ◌∷◌, ◌++◌, decimal, ap, ◌∙◌, arith}
use Rattle.std.specs.Prelude.{codes}
use Rattle.std.proofs.lemmas.Result.{on_ok_weaker}
use Rattle.mintcx_frame.specs.Ends.{subject_text}
use Rattle.mintcx_verdicts.specs.Verdicts.{test_name, test_of}
use Rattle.mintcx_verdicts.proofs.WrittenLaws.{in_six}
use Rattle.mintcx_verdicts.proofs.heads.put_failed.Goals as goal

pub returns : goal.returns
returns c =
    let n = c.args.number in
    let number : c.from.result ≡ n = omega (arith, c.from.ensures) in
    on_ok_weaker c.put-4.result
    (λ e. in_six c.args.lines.now (codes "invalid  test ") (decimal n) (codes " of 7 fails: ") (test_name (test_of n)) (subject_text c.args.view.now.subject) (10 ∷ [])
    c.in_ok-put.ensures.ok (c.in_ok-put_number.ensures ∙ ap (λ k. c.put.new.self ++ decimal k) number) c.in_ok-put-2.ensures.ok
    (c.in_ok-put-3.ensures.ok ∙ ap (λ v. c.put-2.new.self ++ v) c.test_name.ensures) c.in_ok-put_subject.ensures e)
    c.put-4.ensures.ok
