use Rattle.mintc_sdf_tokens.proofs.SharedInsideLaws.{inside-shorter}
use Rattle.mintc_sdf_edges.specs.Telling.{item}
use Rattle.mintc_sdf.proofs.SharedCarriedLaws.{carried}
use Rattle.mintc_sdf_edges.proofs.CarriedLaws.{on-answer}
use Rattle.mintc_sdf_edges.proofs.WalkLaws.{condition-entered, condition-lost}
use Rattle.mintc_sdf_edges.proofs.texts.list.Goals as goal

pub returns-in-Some-clause-entered : goal.returns-in-Some-clause-entered
returns-in-Some-clause-entered c = λ rows inner e.
    let reads = c.items_are_the_tokens.ensures.read_back in
    carried c.conditional.result _ _ _ _
    (λ _ f. condition-entered reads c.args.telling.now c.conditional.new.telling inner rows c.args.reader.now c.condition.new.reader c.conditional.new.reader c.in-Some.outer e c.in-Some.ensures.some f)
    (λ f. condition-lost reads c.args.telling.now inner rows c.args.reader.now c.condition.new.reader c.in-Some.outer e c.in-Some.ensures.some f)
    (c.conditional.ensures c.args.reader.now c.in-Some.ensures.some)

pub returns-in-Some-clause-shorter : goal.returns-in-Some-clause-shorter
returns-in-Some-clause-shorter c =
    on-answer c.conditional.result _ _ _ (λ _ f. inside-shorter (item c.args.telling.now) c.args.reader.now c.conditional.new.telling c.conditional.new.reader f)
    (c.conditional.ensures c.args.reader.now c.in-Some.ensures.some)
