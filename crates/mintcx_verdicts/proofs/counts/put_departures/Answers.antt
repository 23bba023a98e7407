use Rattle.std.proofs.Common.{List, [], ◌∷◌, ◌++◌, length, ap, ◌∙◌}
use Rattle.std.specs.Prelude.{codes}
use Rattle.std.proofs.lemmas.Result.{on_ok_weaker}
use Rattle.mintc_timing.specs.declared.parts.Element.{Element}
use Rattle.mintc_timing.specs.Design.{element_count}
use Rattle.mintcx_verdicts.specs.Counts.{counted}
use Rattle.mintcx_verdicts.proofs.WrittenLaws.{in_five}
use Rattle.mintcx_verdicts.proofs.counts.put_departures.Goals as goal

pub returns : goal.returns
returns c = on_ok_weaker c.put-3.result
    (λ e. in_five c.args.lines.now (codes "  the design has ") (counted (element_count c.args.flat.now) (codes "element") (codes "elements"))
    (codes ", the certificate ") (counted (length c.args.departures.now) (codes "departure") (codes "departures")) (10 ∷ [])
    c.in_ok-put.ensures.ok
    (c.in_ok-put_counted.ensures ∙ ap (λ (v : List Element). c.put.new.self ++ counted (length v) (codes "element") (codes "elements")) c.elements.ensures.value)
    c.in_ok-put-2.ensures.ok c.in_ok-put_counted-2.ensures e)
    c.put-3.ensures.ok
