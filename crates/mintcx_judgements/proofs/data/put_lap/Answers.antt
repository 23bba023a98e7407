use Rattle.std.proofs.Common.{◌≡◌, ◌++◌, ap, ◌∙◌, arith}
use Rattle.std.specs.Prelude.{codes}
use Rattle.std.proofs.lemmas.Int.{ints}
use Rattle.std.proofs.lemmas.Result.{on_ok_weaker}
use Rattle.mintc_fraction.specs.Ratio.{over}
use Rattle.mintc_timing.specs.Design.{pair_at}
use Rattle.mintcx_amounts.specs.Amounts.{amount_text}
use Rattle.mintcx_frame.specs.Names.{element_name}
use Rattle.mintcx_judgements.specs.Data.{given}
use Rattle.mintcx_judgements.specs.Shown.{about, timed}
use Rattle.mintcx_judgements.specs.Sources.{longest}
use Rattle.mintcx_judgements.proofs.WideLaws.{read_wide, wide}
use Rattle.mintcx_judgements.proofs.WrittenLaws.{lapped}
use Rattle.mintcx_judgements.proofs.data.put_lap.Goals as goal

pub returns : goal.returns
returns c =
    let unit = c.args.told.now.unit in
    let s = c.args.told.now.schedule.now in
    let t = c.args.told.now.system.now in
    let n = c.args.pair in
    let long = c.longest.ensures.range in
    let has = c.given.ensures.range in
    let takes : wide c.longest.result ≡ longest t s n = read_wide c.longest.result (omega (arith, ints), omega (arith, ints)) ∙ c.longest.ensures.value in
    let lasts : wide c.given.result ≡ given t s n = read_wide c.given.result (omega (arith, ints), omega (arith, ints)) ∙ c.given.ensures.value in
    on_ok_weaker c.put-2.result
    (λ e. lapped c.args.lines.now (about (codes "         ") (element_name t.flat (pair_at t n).from) (codes " to ")) (element_name t.flat (pair_at t n).to) (codes " takes ")
    (amount_text unit (over (longest t s n) s.den)) (timed unit s (codes ", and has ") (given t s n))
    (c.in_ok-put_about.ensures ∙ ap (λ v. c.args.lines.now ++ about (codes "         ") v (codes " to ")) (c.element_name.ensures ∙ ap (λ p. element_name t.flat p.from) c.pair-joined.ensures.value))
    (c.in_ok-put.ensures.ok ∙ ap (λ v. c.put_about.new.lines ++ v) (c.element_name-2.ensures ∙ ap (λ p. element_name t.flat p.to) c.pair-joined.ensures.value))
    (c.in_ok-put_timed.ensures ∙ ap (λ x. c.put.new.self ++ timed unit s (codes " takes ") x) takes)
    (c.in_ok-put_timed-2.ensures ∙ ap (λ x. c.put_timed.new.lines ++ timed unit s (codes ", and has ") x) lasts)
    e)
    c.put-2.ensures.ok

pub put_timed-requires-2 : goal.put_timed-requires-2
put_timed-requires-2 c =
    let has = c.given.ensures.range in
    (omega (arith, ints), omega (arith, ints))
