use Rattle.std.proofs.Common.{◌≡◌, ◌++◌, codes, Some}
use Rattle.std.proofs.lemmas.Bool.Decides.{Decides-eqb}
use Rattle.std.proofs.lemmas.Slice.Eq.{strip_prefix_is, strip_suffix_is}
use Rattle.mintcx_explanations.proofs.TopicLaws.{in_front}
use Rattle.mintcx_explanations.proofs.topics.in_brackets.Goals as goal

-- src/topics.rt:19:1
pub returns-in-Some : goal.returns-in-Some
returns-in-Some c =
    let begins : c.args.topic.now ≡ codes "error[" ++ c.in-Some.rest.now =
    strip_prefix_is Decides-eqb c.args.topic.now (codes "error[") (Some c.in-Some.rest) c.in-Some.ensures.cases in
    in_front c.args.topic.now c.in-Some.rest.now c.strip_suffix.result begins
    (strip_suffix_is Decides-eqb c.in-Some.rest.now (codes "]") c.strip_suffix.result c.strip_suffix.ensures.cases)
