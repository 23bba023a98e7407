use Rattle.std.proofs.Common.{◌++◌, List, ℕ, ap, ◌∙◌}
use Rattle.std.specs.Prelude.{codes}
use Rattle.std.proofs.lemmas.Result.{on_ok_weaker}
use Rattle.mintc_timing.specs.declared.parts.Element.{Element}
use Rattle.mintcx_frame.specs.Names.{element_name}
use Rattle.mintcx_optima.proofs.WrittenLaws.{in_three}
use Rattle.mintcx_optima.proofs.because.put_of.Goals as goal

pub returns : goal.returns
returns c =
    let name = c.bytes.ensures ∙ ap (λ (x : Element). x.name) c.element.ensures.value in
    on_ok_weaker c.put-3.result
    (λ e. in_three c.args.lines.now c.put.new.self c.put-2.new.self c.put-3.new.self
    c.args.word.now (codes " of ") (element_name c.args.flat.now c.args.element)
    c.in_ok-put.ensures.ok c.in_ok-put-2.ensures.ok (e ∙ ap (λ (x : List ℕ). c.put-2.new.self ++ x) name))
    c.put-3.ensures.ok
