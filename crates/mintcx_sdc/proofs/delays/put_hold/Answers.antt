use Rattle.std.proofs.Common.{length, ◌≡◌, ◌++◌, ℤ, neg_ℤ, ap, ◌∙◌, w64, to_z, of_z, arith}
use Rattle.std.specs.Prelude.{codes}
use Rattle.std.proofs.lemmas.Int.{clamps, ints, to_z-of_z}
use Rattle.std.proofs.lemmas.Result.{on_ok_weaker}
use Rattle.mintc_text.specs.Lines.{ended}
use Rattle.mintcx_sdc.specs.declared.delays.Way.TheVariants.{Out}
use Rattle.mintcx_sdc.specs.Delays.{delay_line}
use Rattle.mintcx_sdc.proofs.ClockLaws.{no_line, set_line}
use Rattle.mintcx_sdc.proofs.ListedLaws.{listed_hold}
use Rattle.mintcx_sdc.proofs.delays.put_hold.Goals as goal

pub returns-then-not-output : goal.returns-then-not-output
returns-then-not-output c =
    let l = c.args.output.now in
    no_line c.args.lines.now l.has_hold (delay_line c.args.phases.now Out l (codes " -min ") (neg_ℤ l.hold)) c.if-not-output.true

pub turned_hold-hold-requires : goal.turned_hold-hold-requires
turned_hold-hold-requires c = listed_hold (length c.args.phases.now) c.args.output.now c.requires

pub returns : goal.returns
returns c =
    let phases = c.args.phases.now in
    let l = c.args.output.now in
    let range = c.turned_hold-hold.ensures.range in
    let hold : to_z w64 (of_z w64 c.turned_hold-hold.result) ≡ neg_ℤ l.hold =
    to_z-of_z w64 c.turned_hold-hold.result (omega (arith, ints, clamps, range.0, range.1)) ∙ c.turned_hold-hold.ensures.value in
    on_ok_weaker c.put_delay.result
    (λ (e : c.put_delay.new.lines ≡ c.args.lines.now ++ ended (delay_line phases Out l (codes " -min ") (to_z w64 (of_z w64 c.turned_hold-hold.result)))). set_line c.args.lines.now c.put_delay.new.lines l.has_hold (delay_line phases Out l (codes " -min ") (neg_ℤ l.hold)) c.if-not-output.false
    (e ∙ ap (λ (x : ℤ). c.args.lines.now ++ ended (delay_line phases Out l (codes " -min ") x)) hold))
    c.put_delay.ensures
