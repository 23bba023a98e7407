use Rattle.mintcx_explanations.proofs.TopicLaws.{no_numeral, twenty}
use Rattle.mintcx_explanations.proofs.topics.number_of.Goals as goal

-- src/topics.rt:8:1
pub returns-in_default : goal.returns-in_default
returns-in_default c =
    twenty c.args.word.now c.in-Some.number c.in-Some.ensures.0 c.in-Some.ensures.1 c.if-number-ne20.false

-- src/topics.rt:8:1
pub returns-in_default-2 : goal.returns-in_default-2
returns-in_default-2 c = no_numeral c.args.word.now c.in_default.ensures
