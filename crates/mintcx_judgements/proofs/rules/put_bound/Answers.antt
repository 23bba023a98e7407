use Rattle.std.proofs.Common.{◌≡◌, ◌+◌, ◌++◌, ◌∷◌, [], decimal, ap, ◌∙◌, arith}
use Rattle.std.specs.Prelude.{codes, slice_index_or}
use Rattle.std.proofs.lemmas.Int.{ints}
use Rattle.std.proofs.lemmas.Result.{on_ok_weaker}
use Rattle.mintc_fraction.specs.Ratio.{over}
use Rattle.mintc_text.specs.Lines.{ended}
use Rattle.mintcx_frame.specs.Ends.{time_text}
use Rattle.mintcx_judgements.specs.Rules.{asked_line, no_bound}
use Rattle.mintcx_judgements.specs.Shown.{about, measured}
use Rattle.mintcx_judgements.proofs.WideLaws.{wide}
use Rattle.mintcx_judgements.proofs.WrittenLaws.{appended, claimed, two_in_turn}
use Rattle.mintcx_judgements.proofs.rules.put_bound.Goals as goal

pub returns : goal.returns
returns c =
    let unit = c.args.told.now.unit in
    let s = c.args.told.now.schedule.now in
    let design = c.args.told.now.system.now.flat in
    let old = c.args.lines.now in
    let n = c.args.index in
    let number : c.from.result ≡ n + 1 = omega (arith, c.from.ensures) in
    let amount : wide c.from-2.result ≡ c.args.amount = omega (arith, ints, c.from-2.ensures, c.ranges.amount.sfits) in
    let first = measured unit s (about (codes "  bound  bound ") (decimal (n + 1)) (codes " is missed by ")) c.args.amount in
    let begun : c.put_measured.new.lines ≡ old ++ first =
    claimed old c.put.new.self c.put_number.new.lines c.put_measured.new.lines (codes "  bound  bound ") (decimal (n + 1)) (codes " is missed by ")
    (time_text unit (over c.args.amount s.den)) c.in_ok-put.ensures.ok
    (c.in_ok-put_number.ensures ∙ ap (λ k. c.put.new.self ++ decimal k) number)
    (c.in_ok-put_measured.ensures ∙ ap (λ x. c.put_number.new.lines ++ measured unit s (codes " is missed by ") x) amount) in
    on_ok_weaker c.put_asked.result
    (λ e. two_in_turn old first (asked_line design s unit (slice_index_or design.bounds n no_bound))
    (appended old c.put_measured.new.lines c.put-2.new.self first (10 ∷ []) begun c.in_ok-put-2.ensures.ok)
    (e ∙ ap (λ b. c.put-2.new.self ++ ended (asked_line design s unit b)) c.bound-bound.ensures.value))
    c.put_asked.ensures
