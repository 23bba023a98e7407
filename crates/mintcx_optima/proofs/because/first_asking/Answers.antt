use Rattle.std.proofs.Common.{◌≡◌, ℤ, ap, ◌∙◌, sym, w64, to_z, of_z}
use Rattle.std.specs.Prelude.{find}
use Rattle.std.proofs.lemmas.Int.{to_z-of_z}
use Rattle.mintcx_optima.specs.Because.{asks}
use Rattle.mintcx_optima.proofs.FoundLaws.{found, passed}
use Rattle.mintcx_optima.proofs.because.first_asking.Goals as goal

pub loop-element-preserved : goal.loop-element-preserved
loop-element-preserved c =
    passed (asks c.args.phase (to_z w64 (of_z w64 c.args.width))) c.args.elements.now c.loop-element.element-index c.element-item.result c.loop-element-test.true c.element-item.is
    (sym c.asks.ensures ∙ c.if-asks.false) c.loop-element.invariant

pub returns-then-asks : goal.returns-then-asks
returns-then-asks c =
    sym (ap (λ (w : ℤ). find (asks c.args.phase w) c.args.elements.now) (to_z-of_z w64 c.args.width c.ranges.width))
    ∙ found (asks c.args.phase (to_z w64 (of_z w64 c.args.width))) c.args.elements.now c.loop-element.element-index c.element-item.result c.loop-element-test.true c.element-item.is
    (sym c.asks.ensures ∙ c.if-asks.true) c.loop-element.invariant
