use Rattle.std.proofs.Common.{◌≡◌, MatchOption, false, ap, ◌∙◌, subst}
use Rattle.mintc_timing.specs.declared.parts.Element.{Element}
use Rattle.mintc_annotate_resolve.specs.Pins.{is_storage}
use Rattle.mintc_annotate_delays.specs.Ranges.{look}
use Rattle.mintc_annotate.specs.Said.{element_said}
use Rattle.mintc_annotate.proofs.SaidLaws.{said_is}
use Rattle.mintc_annotate.proofs.elements.element_in.Goals as goal

pub returns : goal.returns
returns c =
    subst (λ (x : Element). MatchOption c.element_of.result (is_storage c.args.cell.now ≡ false) (λ e. e ≡ x))
    (ap (λ s. element_said s c.args.name c.args.phase c.args.cell.now) c.said_of.ensures ∙ said_is (look c.args.ranges.now) c.args.name c.args.leaf c.args.phase c.args.cell.now)
    c.element_of.ensures
