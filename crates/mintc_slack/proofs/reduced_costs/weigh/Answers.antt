use Rattle.std.proofs.Common.{refl, arith}
use Rattle.std.proofs.lemmas.Int.{ints}
use Rattle.mintc_graph_walks.specs.Walks.{value_at}
use Rattle.mintc_slack.proofs.SizeLaws.{larger, less-read, read_narrow, read_wide}
use Rattle.mintc_slack.proofs.reduced_costs.weigh.Goals as goal

pub overflow_cast-result : goal.overflow_cast-result
overflow_cast-result c =
    let small = c.minus_both-rest.ensures.small in
    rw (read_wide c.minus_both-rest.result (larger _ _ _ (omega arith) small)) (let low = small.0 in let high = small.1 in omega (arith, ints))

pub returns : goal.returns
returns c =
    let k = c.args.link.now in
    let values = c.args.potentials.now in
    let small = c.minus_both-rest.ensures.small in
    let rest = c.minus_both-rest.result in
    let read = less-read (value_at values k.to) (value_at values k.from) c.asked_of.result (c.requires.small k.to c.requires.to) (c.requires.small k.from c.requires.from) (larger _ _ _ (omega arith) c.asked_of.ensures.small) in
    rw (read_wide rest (larger _ _ rest (omega arith) small), read_narrow rest (larger _ _ rest (omega arith) small), c.minus_both-rest.ensures.value, read, c.asked_of.ensures.value) refl
