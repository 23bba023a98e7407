use Rattle.std.proofs.Common.{All, subst}
use Rattle.std.proofs.lemmas.List.{take_all}
use Rattle.std.proofs.lemmas.List.Elements.{All-more}
use Rattle.mintc_timing_text.specs.Fields.{IsName}
use Rattle.mintcx_tables.specs.Obstacles.{IsNamed}
use Rattle.mintcx_tables.proofs.NameLaws.{named_by}
use Rattle.mintcx_tables.proofs.obstacles.unnamed_element.Goals as goal

pub loop-element-preserved : goal.loop-element-preserved
loop-element-preserved c =
    let named = subst IsName c.bytes.ensures (named_by c.is_name.result c.bytes.result.now c.is_name.ensures c.if-not-is_name.false) in
    All-more IsNamed c.args.elements.now c.loop-element.element c.index-elements-element.result c.loop-element-test.true c.loop-element.invariant named

pub returns : goal.returns
returns c = subst (All IsNamed) (take_all c.loop-element.element c.args.elements.now c.loop-element-test.false) c.loop-element.invariant
