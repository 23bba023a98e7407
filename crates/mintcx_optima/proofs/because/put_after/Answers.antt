use Rattle.std.proofs.Common.{◌++◌, List, ℕ, ap, ◌∙◌}
use Rattle.std.specs.Prelude.{codes}
use Rattle.std.proofs.lemmas.Result.{on_ok_weaker}
use Rattle.mintc_timing.specs.declared.parts.Element.{Element}
use Rattle.mintcx_frame.specs.Names.{element_name}
use Rattle.mintcx_optima.specs.Because.{of_text}
use Rattle.mintcx_optima.proofs.WrittenLaws.{in_three}
use Rattle.mintcx_optima.proofs.because.put_after.Goals as goal

pub returns : goal.returns
returns c =
    let name = c.bytes.ensures ∙ ap (λ (x : Element). x.name) c.element.ensures.value in
    on_ok_weaker c.put-2.result
    (λ e. in_three c.args.lines.now c.put_of.new.lines c.put.new.self c.put-2.new.self
    (of_text c.args.flat.now (codes "hold") c.args.to) (codes " after ") (element_name c.args.flat.now c.args.from)
    c.in_ok-put_of.ensures c.in_ok-put.ensures.ok (e ∙ ap (λ (x : List ℕ). c.put.new.self ++ x) name))
    c.put-2.ensures.ok
