use Rattle.std.proofs.Common.{◌≡◌, ◌++◌, ◌∷◌, [], ap, ◌∙◌, arith}
use Rattle.std.specs.Prelude.{codes, flat_map, map}
use Rattle.std.proofs.lemmas.Int.{ints}
use Rattle.std.proofs.lemmas.Result.{on_ok_weaker}
use Rattle.mintcx_judgements.specs.Data.{arrow_to, first_name, lap_line}
use Rattle.mintcx_judgements.specs.Shown.{measured}
use Rattle.mintcx_judgements.proofs.WideLaws.{wide}
use Rattle.mintcx_judgements.proofs.WrittenLaws.{in_five, looped}
use Rattle.mintcx_judgements.proofs.data.put_loop.Goals as goal

pub returns : goal.returns
returns c =
    let unit = c.args.told.now.unit in
    let s = c.args.told.now.schedule.now in
    let t = c.args.told.now.system.now in
    let ring = c.args.ring.now in
    let amount : wide c.from.result ≡ c.args.amount = omega (arith, ints, c.from.ensures, c.ranges.amount.sfits) in
    on_ok_weaker c.put-3.result
    (λ e. looped c.args.lines.now
    (measured unit s (codes "  loop   data comes ") c.args.amount ++ codes " later each time round " ++ first_name t ring ++ flat_map (arrow_to t) ring)
    (codes "         no data settles, so setups and holds can't be judged") (map (lap_line t s unit) ring)
    (in_five c.args.lines.now (measured unit s (codes "  loop   data comes ") c.args.amount) (codes " later each time round ") (first_name t ring) (flat_map (arrow_to t) ring) (10 ∷ [])
    (c.in_ok-put_measured.ensures ∙ ap (λ x. c.args.lines.now ++ measured unit s (codes "  loop   data comes ") x) amount)
    c.in_ok-put.ensures.ok c.in_ok-put_first.ensures c.in_ok-put_arrows.ensures c.in_ok-put-2.ensures.ok)
    c.in_ok-put_laps.ensures e)
    c.put-3.ensures.ok
