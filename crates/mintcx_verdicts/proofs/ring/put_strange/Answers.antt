use Rattle.std.specs.Prelude.{codes}
use Rattle.std.proofs.lemmas.Result.{on_ok_weaker}
use Rattle.mintcx_verdicts.specs.Chains.{member_words}
use Rattle.mintcx_verdicts.proofs.WrittenLaws.{line_of_two}
use Rattle.mintcx_verdicts.proofs.ring.put_strange.Goals as goal

pub returns : goal.returns
returns c = on_ok_weaker c.put.result
    (λ e. line_of_two c.args.lines.now (member_words c.args.place) (codes " is none of the design's constraints") c.in_ok-put_member.ensures e)
    c.put.ensures.ok
