use Rattle.std.proofs.Common.{◌≡◌, ◌+◌, ◌∷◌, [], ◌++◌, ℕ, List, map, ap, ◌∙◌, subst, sym, arith, append_assoc}
use Rattle.std.specs.List.{range_with_len}
use Rattle.std.proofs.lemmas.List.FromFn.{map-range_with_len_more}
use Rattle.mintcx_picture.specs.declared.forms.Form.{Form}
use Rattle.mintcx_histogram.specs.declared.bars.Bar.{Bar}
use Rattle.mintcx_histogram.specs.Bars.{bar_forms, IsBar}
use Rattle.mintcx_histogram.specs.Pictures.{bar_at}
use Rattle.mintcx_histogram.proofs.StepLaws.{bar_is}
use Rattle.mintcx_histogram.proofs.drawing.push_bars.Goals as goal

pub bar_layer-requires : goal.bar_layer-requires
bar_layer-requires c =
    let spread = c.args.spread.now in
    subst IsBar (sym c.bar_at-bar.ensures)
    (bar_is spread.step.femtoseconds spread.extra.now c.loop-number.number c.args.last c.requires.last (omega (arith, c.loop-number-test.true)) c.requires.few c.requires.step c.requires.count)

pub loop-number-preserved : goal.loop-number-preserved
loop-number-preserved c =
    let spread = c.args.spread.now in
    let forms : ℕ → List Form = λ number. bar_forms spread.unit (bar_at spread.step.femtoseconds spread.extra.now number) in
    let n = c.loop-number.number in
    let old = c.args.layers.now.items in
    c.in_ok-push.ensures.items
    ∙ ap (λ (v : List Form). c.loop-number.layers.items ++ v ∷ []) (c.in_ok-bar_layer.ensures ∙ ap (λ (v : Bar). bar_forms spread.unit v) c.bar_at-bar.ensures)
    ∙ ap (λ (v : List (List Form)). v ++ forms n ∷ []) c.loop-number.invariant
    ∙ append_assoc old (map forms (range_with_len 0 n)) (forms n ∷ [])
    ∙ ap (λ (v : List (List Form)). old ++ v) (sym (map-range_with_len_more forms 0 n n (omega arith)))
