use Rattle.std.proofs.Common.{◌≡◌, ◌++◌, ◌+ℤ◌, ◌-ℤ◌, ℕ, ℤ, List, ap, ◌∙◌, refl, arith}
use Rattle.std.specs.Prelude.{codes}
use Rattle.std.proofs.lemmas.Int.{ints}
use Rattle.std.proofs.lemmas.Result.{on_ok_weaker}
use Rattle.mintc_text.specs.Lines.{ended}
use Rattle.mintc_timing.specs.Design.{pair_at}
use Rattle.mintc_timing.specs.Limits.{IsModest}
use Rattle.mintcx_judgements.specs.Data.{held_line, source_line}
use Rattle.mintcx_judgements.specs.Sources.{edge_of, leaving, shortest, turning}
use Rattle.mintcx_judgements.proofs.WideLaws.{comes_at, comes_in_range, read_wide, wide}
use Rattle.mintcx_judgements.proofs.WrittenLaws.{two_in_turn}
use Rattle.mintcx_judgements.proofs.data.put_soon.Goals as goal

pub put_source-requires-clause-leaves : goal.put_source-requires-clause-leaves
put_source-requires-clause-leaves c =
    let cycle = c.cycle.ensures.range in
    let spins : IsModest c.cycle.result = (omega (arith, ints), omega (arith, ints)) in
    comes_in_range c.leaving.result c.cycle.result c.turning.result c.leaving.ensures.range spins c.turning.ensures.range

pub returns : goal.returns
returns c =
    let unit = c.args.told.now.unit in
    let s = c.args.told.now.schedule.now in
    let t = c.args.told.now.system.now in
    let early = c.args.early.now in
    let n = c.in-Some.pair in
    let l = c.args.element in
    let cycle = c.cycle.ensures.range in
    let edges = c.edge.ensures.range in
    let small = c.shortest.ensures.range in
    let spins : IsModest c.cycle.result = (omega (arith, ints), omega (arith, ints)) in
    let from = (pair_at t n).from in
    let leaves = leaving t s early n +ℤ s.cycle -ℤ turning t s n in
    let takes = shortest t s n in
    let line : ℕ → ℤ → ℤ → List ℕ = λ a x y. c.args.lines.now ++ ended (source_line t.flat s unit a (codes " and takes only ") x y) in
    let leaves_is : wide (wide (wide c.leaving.result +ℤ wide c.cycle.result) -ℤ wide c.turning.result) ≡ leaves =
    comes_at c.leaving.result c.cycle.result c.turning.result c.leaving.ensures.range spins c.turning.ensures.range
    ∙ rw (c.leaving.ensures.value, c.cycle.ensures.value, c.turning.ensures.value) refl in
    let takes_is : wide c.shortest.result ≡ takes = read_wide c.shortest.result (omega (arith, ints), omega (arith, ints)) ∙ c.shortest.ensures.value in
    let edge : wide c.edge.result ≡ edge_of t.flat s l = read_wide c.edge.result (omega (arith, ints), omega (arith, ints)) ∙ c.edge.ensures.value in
    on_ok_weaker c.put_held.result
    (λ e. rw c.in-Some.is
    (two_in_turn c.args.lines.now (source_line t.flat s unit from (codes " and takes only ") leaves takes) (held_line t.flat s unit l (edge_of t.flat s l))
    (c.in_ok-put_source.ensures
    ∙ ap (λ x. line c.pair.result.now.from x (wide c.shortest.result)) leaves_is
    ∙ ap (λ y. line c.pair.result.now.from leaves y) takes_is
    ∙ ap (λ p. line p.from leaves takes) c.pair.ensures.value)
    (e ∙ ap (λ x. c.put_source.new.lines ++ ended (held_line t.flat s unit l x)) edge)))
    c.put_held.ensures
