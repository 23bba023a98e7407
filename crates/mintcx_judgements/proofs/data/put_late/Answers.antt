use Rattle.std.proofs.Common.{◌≡◌, ◌++◌, ◌+ℤ◌, ℕ, ℤ, List, true, ap, ◌∙◌, sym, arith}
use Rattle.std.specs.Prelude.{codes}
use Rattle.std.proofs.lemmas.Int.{ints}
use Rattle.std.proofs.lemmas.Result.{on_ok_weaker}
use Rattle.mintc_text.specs.Lines.{ended, text_of}
use Rattle.mintc_timing.specs.Design.{pair_at}
use Rattle.mintcx_judgements.specs.Data.{is_data, source_line, wanted_line}
use Rattle.mintcx_judgements.specs.Shown.{IsComing}
use Rattle.mintcx_judgements.specs.Sources.{edge_of, leaving, longest, turning}
use Rattle.mintcx_judgements.proofs.DataLaws.{data_line, data_wanted, late_by_data}
use Rattle.mintcx_judgements.proofs.WideLaws.{read_wide, sum_at, wide}
use Rattle.mintcx_judgements.proofs.WrittenLaws.{two_in_turn}
use Rattle.mintcx_judgements.proofs.data.put_late.Goals as goal

pub put_wanted-requires-clause-edge : goal.put_wanted-requires-clause-edge
put_wanted-requires-clause-edge c =
    let edges = c.edge.ensures.range in
    let turns = c.turning.ensures.range in
    (omega (arith, ints), omega (arith, ints))

pub returns : goal.returns
returns c =
    let unit = c.args.told.now.unit in
    let s = c.args.told.now.schedule.now in
    let t = c.args.told.now.system.now in
    let late = c.args.late.now in
    let n = c.in-Some.pair in
    let l = c.args.element in
    let departs = c.leaving-leaves.ensures.range in
    let long = c.longest.ensures.range in
    let edges = c.edge.ensures.range in
    let turns = c.turning.ensures.range in
    let near : IsComing c.edge.result = (omega (arith, ints), omega (arith, ints)) in
    let spins : IsComing c.turning.result = (omega (arith, ints), omega (arith, ints)) in
    let from = (pair_at t n).from in
    let line : ℕ → ℤ → ℤ → List ℕ = λ a x y. c.args.lines.now ++ ended (source_line t.flat s unit a (codes " and takes ") x y) in
    let leaves : wide c.leaving-leaves.result ≡ leaving t s late n = read_wide c.leaving-leaves.result (omega (arith, ints), omega (arith, ints)) ∙ c.leaving-leaves.ensures.value in
    let takes : wide c.longest.result ≡ longest t s n = read_wide c.longest.result (omega (arith, ints), omega (arith, ints)) ∙ c.longest.ensures.value in
    let edge : wide (wide c.edge.result +ℤ wide c.turning.result) ≡ edge_of t.flat s l +ℤ turning t s n =
    sum_at c.edge.result c.turning.result near spins ∙ ap (λ x. x +ℤ c.turning.result) c.edge.ensures.value ∙ ap (λ x. edge_of t.flat s l +ℤ x) c.turning.ensures.value in
    let yes : is_data t s late l n ≡ true = sym c.is_data.ensures ∙ c.if-not-is_data.false in
    on_ok_weaker c.put_wanted.result
    (λ e. rw c.in-Some.is
    (two_in_turn c.args.lines.now (data_line t s late unit l n) (data_wanted t s late unit l n)
    (c.in_ok-put_source.ensures
    ∙ ap (λ x. line c.pair.result.now.from x (wide c.longest.result)) leaves
    ∙ ap (λ y. line c.pair.result.now.from (leaving t s late n) y) takes
    ∙ ap (λ p. line p.from (leaving t s late n) (longest t s n)) c.pair.ensures.value)
    (e ∙ ap (λ x. c.put_source.new.lines ++ ended (wanted_line t.flat s unit l x)) edge)
    ∙ ap (λ v. c.args.lines.now ++ text_of v) (sym (late_by_data t s late unit l n yes))))
    c.put_wanted.ensures
