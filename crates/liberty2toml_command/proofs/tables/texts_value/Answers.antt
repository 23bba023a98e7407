use Rattle.std.proofs.Common.{◌≡◌, get_or, sym, ap, ◌∙◌, arith}
use Rattle.toml.specs.Data.{array, string, push_item}
use Rattle.toml.specs.View.{view, items_view}
use Rattle.toml.proofs.Views.{view-Array, items_view-push}
use Rattle.liberty2toml_command.proofs.PrintLaws.{text-push, text-all}
use Rattle.liberty2toml_command.proofs.tables.texts_value.Goals as goal

pub loop-at-preserved : goal.loop-at-preserved
loop-at-preserved c =
    let value : view c.in_ok-value.value ≡ string (get_or c.args.names.now c.loop-at.at c.index-names-at.result) = c.in_ok-value.ensures ∙ ap string (c.bytes.ensures ∙ c.index-names-at.is) in
    ap items_view c.in_ok-push.ensures.items ∙ items_view-push c.loop-at.items.items c.in_ok-value.value
    ∙ ap (λ is. push_item is (view c.in_ok-value.value)) c.loop-at.invariant
    ∙ ap (push_item _) value
    ∙ sym (text-push c.args.names.now c.loop-at.at c.index-names-at.result c.loop-at-test.true)

pub returns : goal.returns
returns c = view-Array c.loop-at.items ∙ ap array (c.loop-at.invariant ∙ text-all c.args.names.now c.loop-at.at (omega (arith, c.loop-at-test.false)))
